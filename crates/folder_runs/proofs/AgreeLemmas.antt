-- Snapshot files that agree with a journal's rows agree with these and one more.
use Rattle.std.proofs.Common.{ℕ, ◌==◌, Bool, true, false, if◌then◌else◌, List, [], ◌∷◌, ◌++◌}
use Rattle.std.proofs.Common.{sym, subst}
use Rattle.gate_journal.specs.Rows.{IsJournal, IsNext, commands_of, is_open}
use Rattle.gate_journal.specs.declared.command.Command.{Command}
use Rattle.gate_journal.specs.declared.row.Row.{Row}
use Rattle.session_core.specs.History.{game_of}
use Rattle.session_saves.specs.Agreement.{Agrees, opens_of}
use Rattle.session_saves.proofs.AgreementLemmas.{more_commands, new_opens}
use Rattle.snap_store.specs.File.{Stored}
use Rattle.store_events.specs.Events.{store_down_over}
use Rattle.store_events.specs.Rows.{session_in_rows}
use Rattle.store_events.specs.Session.{Begins, EachMayCome, SessionState, Takes, lived}
use Rattle.store_events.proofs.RowLemmas.{rows_are_told}
use Rattle.story_run.specs.declared.story.Story.{Story}
use Rattle.folder_runs.specs.Folder.{AgreeWith}

module _ (stories : List Story) (area : Stored) where
  -- the area agrees with this session
  abbrev AgreesIn : SessionState → Type 0
  AgreesIn x = Agrees stories x.rows x.game area

  told_agrees : (own opens : Bool) (place : ℕ) (command : Command) (x : SessionState)
      → EachMayCome stories x
      (if own then (if opens then Begins place command else Takes command) ∷ [] else [])
      → AgreesIn x
      → AgreesIn (lived x
      (if own then (if opens then Begins place command else Takes command) ∷ [] else []))
  told_agrees false opens place command x may agrees = agrees
  told_agrees true true place command x may agrees =
      new_opens stories x.rows x.game (command ∷ []) area place may.0 agrees
  told_agrees true false place command x may agrees =
      more_commands stories x.rows x.game command area may.0 agrees

  one_more_agrees : (rows : List Row) (r : Row) (s : ℕ) → IsJournal rows → IsNext rows r
      → Agrees stories (opens_of rows s) (game_of (commands_of rows s)) area
      → Agrees stories (opens_of (rows ++ r ∷ []) s) (game_of (commands_of (rows ++ r ∷ []) s)) area
  one_more_agrees rows r s journal next agrees =
      let told = rows_are_told stories rows r s (store_down_over []) journal next in
      subst AgreesIn (sym told.0)
      (told_agrees (r.session == s) (is_open r.command) r.place r.command
      (session_in_rows rows s (store_down_over [])) told.1 agrees)

pub agree_more : (stories : List Story) (rows : List Row) (r : Row) (snaps : List (List ℕ))
    → IsJournal rows → IsNext rows r → AgreeWith stories rows snaps
    → AgreeWith stories (rows ++ r ∷ []) snaps
agree_more stories rows r snaps journal next agree = λ s file there side area is.
    one_more_agrees stories area rows r s journal next (agree s file there side area is)
