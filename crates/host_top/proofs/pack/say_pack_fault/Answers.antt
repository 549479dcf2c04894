use Rattle.std.proofs.Common.{refl}
use Rattle.line_talk.proofs.StreamsLemmas.{wrote_none}
use Rattle.host_top.proofs.pack.say_pack_fault.Goals as goal

pub returns-in-Old-clause-value : goal.returns-in-Old-clause-value
returns-in-Old-clause-value g c = rw c.in-Old.is c.say_fault.ensures.value

pub returns-in-NotEmpty-clause-value : goal.returns-in-NotEmpty-clause-value
returns-in-NotEmpty-clause-value g c = rw c.in-NotEmpty.is c.say_line.ensures.value

pub returns-in-New-clause-value : goal.returns-in-New-clause-value
returns-in-New-clause-value g c = rw c.in-New.is (refl, wrote_none _)

pub returns-in-NoMemory-clause-value : goal.returns-in-NoMemory-clause-value
returns-in-NoMemory-clause-value g c = rw c.in-NoMemory.is (refl, wrote_none _)
