-- What each command writes where it ends with 0 (own).
use Rattle.std.specs.Prelude.{◌≡◌, ℕ, IsTrue, List, [], ◌∷◌, ◌++◌, map, take, Some, Ok}
use Rattle.command_words.specs.Help.{help_text, version_text}
use Rattle.command_words.specs.Words.{Asked}
use Rattle.command_words.specs.declared.words.Action.{Action}
use Rattle.command_words.specs.declared.words.Action.TheVariants.{Run, Check, Pipe, Init, Help}
use Rattle.command_words.specs.declared.words.Action.TheVariants.{Serve, Replay, Pack, Drill}
use Rattle.command_words.specs.declared.words.Action.TheVariants.{Version}
use Rattle.disk_model.specs.declared.disk.Disk.{Ghosts as DiskWords}
use Rattle.gate_journal.specs.Rows.{SpellsRows}
use Rattle.gate_journal.specs.declared.row.Row.{Row}
use Rattle.host_drill.specs.Drill.{drill_text}
use Rattle.host_serve.specs.Alone.{AreMet, replies_met}
use Rattle.host_serve.specs.Opening.{histories_in_rows}
use Rattle.line_talk.specs.Conversation.{texts_joined}
use Rattle.line_talk.specs.Lines.{lines}
use Rattle.line_words.specs.Reply.{print_reply}
use Rattle.session_core.specs.declared.entry.Outcome.{Outcome}
use Rattle.story_replay.specs.Text.{transcript}
use Rattle.story_run.specs.declared.story.Story.{Story}
use Rattle.host_top.specs.Begun.{ready}
use Rattle.host_top.specs.Borrowed.{journal_in}
use Rattle.host_top.specs.CheckText.{good_line}
use Rattle.host_top.specs.Packed.{line_of}
use Rattle.host_top.specs.RunText.{run_text}
use Rattle.host_top.specs.Scene.{IsTold, Scene}
use Rattle.host_top.specs.Served.{AreSound, AreTold}
use Rattle.host_top.specs.Stories.{stories_of}

-- the replies to lines, one for each, from the sessions of these rows: each is that of its
-- session's story, run alone on the session's own commands, or says what the turn met
pub record RepliesAlone (stories : List Story) (budget : ℕ) (rows : List Row)
    (lines : List (List ℕ)) (written : List ℕ) : Type 0 where
  -- what each turn met: nothing, want of memory, or a fault of the disk
  pub met : List Outcome
  pub may : AreMet stories budget (histories_in_rows rows) 0 lines met
  pub replies :
      written
      ≡ texts_joined (map print_reply
      (replies_met stories budget (histories_in_rows rows) 0 lines met))

-- What a command writes, by its stories and the bytes of the input. Of the folder of `pipe`, of
-- `replay` and of `pack` the journal is told, and that of `pipe` is sound.
abbrev pub TextOf : {D : Type 0} → DiskWords D → Action → List Story → Asked → List ℕ → Scene D
    → List ℕ → Type 0
TextOf disks Run stories asked bytes old written =
    (story : Story) → stories ≡ story ∷ [] → written ≡ run_text story asked.budget (lines bytes)
TextOf disks Check stories asked bytes old written =
    (story : Story) → stories ≡ story ∷ [] → written ≡ good_line story.image
TextOf disks Init stories asked bytes old written = written ≡ ready
TextOf disks Pipe stories asked bytes old written =
    (rows : List Row)
    → AreTold disks.seen (old.outside.disk (journal_in asked.folder)) (λ c. SpellsRows c rows)
    → AreSound disks stories old.outside.disk asked.folder rows
    → RepliesAlone stories asked.budget rows (lines bytes) written
TextOf disks (Serve serving) stories asked bytes old written = written ≡ []
TextOf {D} disks Replay stories asked bytes old written =
    (rows : List Row) → ((d : D) → IsTrue (disks.tells d))
    → AreTold disks.seen (old.outside.disk (journal_in asked.folder)) (λ c. SpellsRows c rows)
    → written ≡ transcript stories rows
TextOf {D} disks Pack stories asked bytes old written =
    (rows : List Row) → ((d : D) → IsTrue (disks.tells d))
    → AreTold disks.seen (old.outside.disk (journal_in asked.folder)) (λ c. SpellsRows c rows)
    → written ≡ line_of rows
TextOf disks (Drill number) stories asked bytes old written = written ≡ drill_text number
TextOf disks (Help topic) stories asked bytes old written = written ≡ help_text topic
TextOf disks Version stories asked bytes old written = written ≡ version_text

-- behind what the output held, in a scene that is told
abbrev pub WritesAll : {D : Type 0} → DiskWords D → Asked → Scene D → Scene D → Type 0
WritesAll disks asked old new =
    (files : List (List ℕ)) (bytes held : List ℕ) (stories : List Story)
    → IsTold asked.names old files bytes held
    → stories_of (map (take 67108865) files) ≡ Ok stories
    → (written : List ℕ) × (new.output.held ≡ Some (held ++ written))
    × TextOf disks asked.action stories asked bytes old written
