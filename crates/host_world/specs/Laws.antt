-- What the definitions of a host say (own).
use Rattle.std.specs.Prelude.{◌≡◌, ◌↔◌, ℕ, true, List, Option, Some}
use Rattle.disk_model.specs.DiskState.{DiskState, IsDiskImage}
use Rattle.gate_journal.specs.declared.row.Row.{Row}
use Rattle.gate_journal.specs.Rows.{IsJournal, SpellsRows}
use Rattle.gate_journal.specs.Log.{MayOpen}
use Rattle.line_words.specs.declared.reply.Reply.TheVariants.{Show}
use Rattle.story_run.specs.declared.story.Story.{Story}
use Rattle.session_core.specs.declared.entry.Entry.{Entry}
use Rattle.session_core.specs.declared.entry.Outcome.{Outcome}
use Rattle.session_core.specs.History.{game_of}
use Rattle.session_core.specs.Answer.{game_show}
use Rattle.session_core.specs.Turning.{commands_in, turn_of}
use Rattle.disk_model.specs.Plain.{is_image}
use Rattle.host_world.specs.Reading.{rows_in}
use Rattle.host_world.specs.Starts.{IsDown, down_over}

-- an event may name each image that a stop may leave, and no other bytes
abbrev pub NamesImages : Type 0
NamesImages = (p : DiskState) (c : List ℕ) → (is_image p c ≡ true) ↔ IsDiskImage p c

-- over bytes that an opening may meet, such a host is a start
abbrev pub StartsOver : Type 0
StartsOver = (bytes : List ℕ) (rows : List Row) → IsJournal rows → MayOpen rows bytes
    → (uncertain : Option Row) × IsDown (down_over bytes rows uncertain)

-- reading finds exactly the rows that bytes spell
abbrev pub ReadsRows : Type 0
ReadsRows = (bytes : List ℕ) (rows : List Row) → (rows_in bytes ≡ Some rows) ↔ SpellsRows bytes rows

-- the show of a turn is that of the session's story, run alone on the commands that the history
-- then has
abbrev pub ShowsRunAlone : Type 0
ShowsRunAlone = (stories : List Story) (budget : ℕ) (history : List Entry) (by : ℕ)
    (line : List ℕ) (outcome : Outcome) (s n : ℕ) (show : List ℕ)
    → (turn_of stories budget history by line outcome).reply ≡ Show s n show
    → show ≡ game_show stories
    (game_of (commands_in (turn_of stories budget history by line outcome).history))
