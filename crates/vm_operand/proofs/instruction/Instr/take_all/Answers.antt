use Rattle.std.proofs.Common.{arith, ◌∙◌}
use Rattle.vm_operand.proofs.InstructionLemmas.{operands-one, operands-fault, operands-none}
use Rattle.vm_operand.proofs.InstructionLemmas.{loads_in-drop, stores_in-drop, handed_on}
use Rattle.vm_operand.proofs.instruction.Instr.take_all.Goals as goal

pub returns-in_err-take-clause-exact : goal.returns-in_err-take-clause-exact
returns-in_err-take-clause-exact c =
    handed_on _ c.from_residual.ensures.1 (c.loop-index.invariant.sofar
    ∙ operands-fault c.args.memory.now c.args.kinds.now c.args.modes.now c.loop-index.index
    c.loop-index.self _
    (omega arith) (omega arith) c.in_err-take.ensures.exact)

pub loop-index-preserved : goal.loop-index-preserved
loop-index-preserved c =
    let ls = loads_in-drop c.args.kinds.now c.loop-index.index c.loop-index-test.true in
    let ss = stores_in-drop c.args.kinds.now c.loop-index.index c.loop-index-test.true in
    record {
      loads = omega (arith, c.in_ok-take.ensures.loads, c.loop-index.invariant.loads);
      stores = omega (arith, c.in_ok-take.ensures.stores, c.loop-index.invariant.stores);
      sofar = c.loop-index.invariant.sofar
          ∙ operands-one c.args.memory.now c.args.kinds.now c.args.modes.now c.loop-index.index
          c.loop-index.self c.take.new.self
          (omega arith) (omega arith) c.in_ok-take.ensures.ok;
    }

pub returns-clause-ok : goal.returns-clause-ok
returns-clause-ok c =
    c.loop-index.invariant.sofar
    ∙ operands-none c.args.memory.now c.args.kinds.now _ c.loop-index.index c.loop-index.self
    (omega arith)
