-- A file that agrees with the first of a journal's rows agrees with all of them.
use Rattle.std.proofs.Common.{ℕ, ◌<◌, ◌==◌, ◌&&◌, Bool, true, false, cond, List, [], ◌∷◌, ◌++◌}
use Rattle.std.proofs.Common.{length, refl, sym, subst, append_assoc}
use Rattle.std.specs.List.{Contains}
use Rattle.std.proofs.lemmas.List.{append-nil}
use Rattle.gate_journal.specs.Rows.{EachNext, IsJournal, IsNext, commands_of, is_open}
use Rattle.gate_journal.specs.Rows.{journal_bytes}
use Rattle.gate_journal.specs.declared.command.Command.{Command}
use Rattle.gate_journal.specs.declared.row.Row.{Row}
use Rattle.story_run.specs.declared.story.Story.{Story}
use Rattle.session_core.specs.History.{game_of}
use Rattle.snap_store.specs.File.{Stored}
use Rattle.session_saves.specs.Agreement.{Agrees, opens_of}
use Rattle.session_desk.specs.Laws.{BeginningsStayAgreed}
use Rattle.session_desk.proofs.FileLemmas.{first_rows}
use Rattle.session_desk.proofs.JournalLemmas.{commands_of-append}
use Rattle.session_desk.proofs.KeptUpLemmas.{agrees-behind}
use Rattle.session_desk.proofs.OpensLemmas.{AreBelow, behind_each, below_next, one_open}
use Rattle.session_desk.proofs.OpensLemmas.{opens_below, opens_of-append}

each_later : (before rows more : List Row) → EachNext before (rows ++ more)
    → EachNext (before ++ rows) more
each_later before [] more each = subst (λ (b : List Row). EachNext b more) (sym (append-nil before))
    each
each_later before (r ∷ rows) more each =
    subst (λ (b : List Row). EachNext b more) (append_assoc before (r ∷ []) rows)
    (each_later (before ++ r ∷ []) rows more each.1)

-- a command of this session, or of another
agrees-by : (stories : List Story) (places : List ℕ) (commands : List Command) (c : Command)
    (place : ℕ) (own : Bool) (area : Stored)
    → ((p : ℕ) → Contains places p → p < place)
    → Agrees stories places (game_of commands) area
    → Agrees stories (places ++ cond (own && is_open c) (place ∷ []) [])
    (game_of (cond own (commands ++ c ∷ []) commands)) area
agrees-by stories places commands c place true area before agrees =
    subst (λ (ps : List ℕ). Agrees stories ps (game_of (commands ++ c ∷ [])) area)
    (sym (one_open (is_open c) places place place refl))
    (agrees-behind stories places commands c place (is_open c) area refl before agrees)
agrees-by stories places commands c place false area before agrees =
    subst (λ (ps : List ℕ). Agrees stories ps (game_of commands) area) (sym (append-nil places))
    agrees

row_agrees : (stories : List Story) (s : ℕ) (rows : List Row) (r : Row) (area : Stored)
    → IsNext rows r
    → AreBelow (opens_of rows s) (length (journal_bytes rows))
    → Agrees stories (opens_of rows s) (game_of (commands_of rows s)) area
    → Agrees stories (opens_of (rows ++ r ∷ []) s) (game_of (commands_of (rows ++ r ∷ []) s)) area
row_agrees stories s rows r area next below agrees =
    subst (λ (x : List ℕ × List Command). Agrees stories x.0 (game_of x.1) area)
    (λ i. (sym (opens_of-append rows (r ∷ []) s) i, sym (commands_of-append rows r s) i))
    (agrees-by stories (opens_of rows s) (commands_of rows s) r.command r.place (r.session == s)
    area (subst (AreBelow (opens_of rows s)) (sym next.place) below) agrees)

pub beginnings_stay_agreed : BeginningsStayAgreed
beginnings_stay_agreed stories rows s file journal beginning side area e =
    let first = beginning.first in
    let more = beginning.more in
    let all : IsJournal (first ++ more) = subst IsJournal beginning.all journal in
    subst (λ (x : List Row). Agrees stories (opens_of x s) (game_of (commands_of x s)) area)
    (sym beginning.all)
    (behind_each
    (λ (x : List Row). AreBelow (opens_of x s) (length (journal_bytes x))
    × Agrees stories (opens_of x s) (game_of (commands_of x s)) area)
    first more
    (λ before r next both.
    (below_next s before r next both.0, row_agrees stories s before r area next both.0 both.1))
    (each_later [] first more all)
    (opens_below s first (first_rows first more all), beginning.agreed side area e)).1
