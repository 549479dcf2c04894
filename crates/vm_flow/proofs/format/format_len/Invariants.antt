use Rattle.std.proofs.Common.{◌-◌, length}
use Rattle.vm_flow.proofs.FormatLemmas.{Pairs}
use Rattle.vm_flow.proofs.format.format_len.Given as goal

abbrev pub invariant-loop-read : goal.invariant-loop-read
invariant-loop-read l = Pairs l.bytes l.read

abbrev pub decreases-loop-read : goal.decreases-loop-read
decreases-loop-read l = length l.bytes - l.read
