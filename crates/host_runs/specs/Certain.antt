-- Where no reply tells a fault of the journal's disk, a stop leaves no row more (own).
use Rattle.std.specs.Prelude.{◌≡◌, ℕ, List}
use Rattle.turn_cell.specs.History.{Each}
use Rattle.disk_model.specs.Work.{EachImage}
use Rattle.disk_model.specs.declared.disk.Disk.{Ghosts as DiskWords}
use Rattle.gate_journal.specs.Log.{IsClosedWell, rows_of}
use Rattle.host_serve.specs.Serves.{AnsweredLine}
use Rattle.line_talk.specs.declared.ended.Ended.{Ended}
use Rattle.host_top.specs.Piped.{Conversed}
use Rattle.line_talk.specs.Streams.{SourceState, SinkState}
use Rattle.line_words.specs.declared.reply.No.TheVariants.{DiskFault}
use Rattle.line_words.specs.declared.reply.Reply.{Reply}
use Rattle.line_words.specs.declared.reply.Reply.TheVariants.{No}
use Rattle.story_run.specs.declared.story.Story.{Story}

-- the reply isn't `NO 11`
abbrev pub TellsNoFault : Reply → Type 0
TellsNoFault reply = (from to : ℕ) → reply ≡ No (DiskFault from to) → ⊥

-- each image of the journal that `pipe` hands back spells the rows with the accepted commands, and
-- no more
abbrev pub PipeIsCertain : {D : Type 0} → DiskWords D → Type 0
PipeIsCertain {D} disks =
    (stories : List Story) (budget : ℕ) (given : D) (givens : List D) (back : D) (backs : List D)
    (input now : SourceState) (output new : SinkState) (served : Ended)
    (c : Conversed disks stories budget given givens back backs input now output new served)
    → Each (λ (t : AnsweredLine). TellsNoFault t.reply) c.turns
    → EachImage disks back (IsClosedWell (rows_of c.journal))
