-- What a turn adds to a history.
use Rattle.std.proofs.Common.{ℕ, List, Option, Some, None, refl, inl, inr}
use Rattle.gate_journal.specs.declared.command.Command.{Command}
use Rattle.line_words.specs.declared.reply.Reply.{Reply}
use Rattle.session_core.specs.declared.entry.Entry.{Entry}
use Rattle.session_core.specs.declared.entry.Entry.TheVariants.{Accepted, Faulted}
use Rattle.session_core.specs.declared.entry.Outcome.{Outcome}
use Rattle.session_core.specs.declared.entry.Outcome.TheVariants.{Answered, DiskFailed, OutOfMemory}
use Rattle.session_core.specs.declared.entry.Outcome.TheVariants.{Forgotten}
use Rattle.session_core.specs.Turning.{AddsTo, turn_met}

-- whatever is decided and met, a turn adds nothing, or one entry of its number
pub met_adds : (h : List Entry) (by : ℕ) (reply : Reply) (accepted : Option Command)
    (outcome : Outcome)
    → AddsTo h by (turn_met h by reply accepted outcome).history
met_adds h by reply None Answered = inl refl
met_adds h by reply None (DiskFailed from to) = inl refl
met_adds h by reply None OutOfMemory = inl refl
met_adds h by reply None Forgotten = inl refl
met_adds h by reply (Some c) Answered = inr (Accepted by c, refl, refl)
met_adds h by reply (Some c) (DiskFailed from to) = inr (Faulted by from to, refl, refl)
met_adds h by reply (Some c) OutOfMemory = inl refl
met_adds h by reply (Some c) Forgotten = inr (Accepted by c, refl, refl)
