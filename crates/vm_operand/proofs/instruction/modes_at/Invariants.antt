use Rattle.std.proofs.Common.{length, ◌-◌, ◌≡◌, ◌≤◌, ◌+◌, take, drop}
use Rattle.vm_operand.specs.Instruction as spec
use Rattle.vm_operand.proofs.InstructionLemmas.{after}
use Rattle.vm_operand.proofs.instruction.modes_at.Given as goal

abbrev pub invariant-loop-count : goal.invariant-loop-count
invariant-loop-count l = record {
  slots : length l.modes ≡ 8;
  room : l.count ≤ length l.kinds;
  near : l.place ≤ l.at + l.count;
  sofar : spec.modes_at l.memory l.at l.kinds
      ≡ after (take l.count l.modes) (spec.modes_at l.memory l.place (drop l.count l.kinds));
}

abbrev pub decreases-loop-count : goal.decreases-loop-count
decreases-loop-count l = length l.kinds - l.count
