use Rattle.std.proofs.Common.{◌≡◌, ◌≤◌, ◌+◌, drop}
use Rattle.vm_operand.specs.Instruction as spec
use Rattle.vm_operand.specs.Opcode.{loads_in, stores_in}
use Rattle.vm_operand.proofs.instruction.Instr.take_all.Given as goal

abbrev pub invariant-loop-index : goal.invariant-loop-index
invariant-loop-index l = record {
  loads : l.self.loads.count + loads_in (drop l.index l.kinds) ≤ 8;
  stores : l.self.stores.count + stores_in (drop l.index l.kinds) ≤ 2;
  sofar : spec.operands l.memory l.kinds l.modes l.fn.self
      ≡ spec.operands l.memory (drop l.index l.kinds) (drop l.index l.modes) l.self;
}
