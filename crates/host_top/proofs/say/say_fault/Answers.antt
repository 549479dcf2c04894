use Rattle.std.proofs.Common.{refl, inr, ◌∙◌}
use Rattle.line_talk.specs.declared.sink.Stop.TheVariants.{Memory}
use Rattle.line_talk.proofs.StreamsLemmas.{wrote_none}
use Rattle.line_talk.proofs.WritingLemmas.{stopped_at_once}
use Rattle.host_top.proofs.say.say_fault.Goals as goal

pub returns-in-NotJournal-clause-value : goal.returns-in-NotJournal-clause-value
returns-in-NotJournal-clause-value g c = rw c.in-NotJournal.is c.say_line.ensures.value

pub returns-in-Ok-clause-value : goal.returns-in-Ok-clause-value
returns-in-Ok-clause-value g c =
    let line = c.as_bytes.ensures.value ∙ c.in-Ok.ensures in
    rw (c.in-Corrupt.is, ← line) c.say_line-in-Ok.ensures.value

pub returns-in-Err-clause-value : goal.returns-in-Err-clause-value
returns-in-Err-clause-value g c = rw c.in-Corrupt.is (inr (Memory, refl, stopped_at_once _ _))

pub returns-in-DiskFault-clause-value : goal.returns-in-DiskFault-clause-value
returns-in-DiskFault-clause-value g c = rw c.in-DiskFault.is (refl, wrote_none _)

pub returns-in-NoMemory-clause-value : goal.returns-in-NoMemory-clause-value
returns-in-NoMemory-clause-value g c = rw c.in-NoMemory.is (refl, wrote_none _)
