use Rattle.std.proofs.Common.{rules, arith, ◌∙◌, sym}
use Rattle.vm_operand.proofs.InstructionLemmas.{modes_at-no_byte, modes_at-no_low}
use Rattle.vm_operand.proofs.InstructionLemmas.{modes_at-no_high, modes_at-two, modes_at-last}
use Rattle.vm_operand.proofs.InstructionLemmas.{modes_at-none, stops, handed_on, take-two}
use Rattle.vm_operand.proofs.InstructionLemmas.{sofar_two, whole_last, whole_none}
use Rattle.vm_operand.proofs.instruction.modes_at.Goals as goal

pub returns-in_err-byte-clause-exact : goal.returns-in_err-byte-clause-exact
returns-in_err-byte-clause-exact c =
    handed_on _ c.from_residual.ensures.1 (stops _ c.loop-count.invariant.sofar
    (modes_at-no_byte c.args.memory.now c.loop-count.place c.loop-count.count c.args.kinds.now _
    (omega arith)
    (sym c.read1.ensures.value ∙ c.in_err-byte.was)))

pub returns-in_err-modes-clause-exact : goal.returns-in_err-modes-clause-exact
returns-in_err-modes-clause-exact c =
    handed_on _ c.from_residual-in_err-modes.ensures.1 (stops _ c.loop-count.invariant.sofar
    (modes_at-no_low c.args.memory.now c.loop-count.place c.loop-count.count _ c.args.kinds.now _
    (omega arith)
    (sym c.read1.ensures.value ∙ c.in_ok-byte.was)
    (sym c.for_kind.ensures ∙ c.in_err-modes.was)))

pub returns-in_err-modes-2-clause-exact : goal.returns-in_err-modes-2-clause-exact
returns-in_err-modes-2-clause-exact c =
    handed_on _ c.from_residual-in_err-modes-2.ensures.1 (stops _ c.loop-count.invariant.sofar
    (modes_at-no_high c.args.memory.now c.loop-count.place c.loop-count.count _ c.args.kinds.now _ _
    (omega arith)
    (sym c.read1.ensures.value ∙ c.in_ok-byte.was)
    (sym c.for_kind.ensures ∙ c.in_ok-modes.was)
    (sym c.for_kind-in-loop-count.ensures ∙ c.in_err-modes-2.was)))

pub loop-count-preserved : goal.loop-count-preserved
loop-count-preserved c = record {
  slots = search rules;
  room = omega arith;
  near = omega arith;
  sofar = sofar_two _ _ _ _ _ _ c.loop-count.invariant.sofar
      (modes_at-two c.args.memory.now c.loop-count.place c.loop-count.count _ c.args.kinds.now _ _
      (omega arith)
      (sym c.read1.ensures.value ∙ c.in_ok-byte.was)
      (sym c.for_kind.ensures ∙ c.in_ok-modes.was)
      (sym c.for_kind-in-loop-count.ensures ∙ c.in_ok-modes-2.was))
      (take-two _ _ _ _ (omega arith));
}

pub returns-in_err-byte-2-clause-exact : goal.returns-in_err-byte-2-clause-exact
returns-in_err-byte-2-clause-exact c =
    handed_on _ c.from_residual-in_err-byte-2.ensures.1 (stops _ c.loop-count.invariant.sofar
    (modes_at-no_byte c.args.memory.now c.loop-count.place c.loop-count.count c.args.kinds.now _
    (omega arith)
    (sym c.read1-then-count-kinds.ensures.value ∙ c.in_err-byte-2.was)))

pub returns-in_err-modes-3-clause-exact : goal.returns-in_err-modes-3-clause-exact
returns-in_err-modes-3-clause-exact c =
    handed_on _ c.from_residual-in_err-modes-3.ensures.1 (stops _ c.loop-count.invariant.sofar
    (modes_at-no_low c.args.memory.now c.loop-count.place c.loop-count.count _ c.args.kinds.now _
    (omega arith)
    (sym c.read1-then-count-kinds.ensures.value ∙ c.in_ok-byte-2.was)
    (sym c.for_kind-then-count-kinds.ensures ∙ c.in_err-modes-3.was)))

pub returns-in_ok-modes-3-clause-ok : goal.returns-in_ok-modes-3-clause-ok
returns-in_ok-modes-3-clause-ok c =
    whole_last c.loop-count.modes c.loop-count.count _ _ (omega arith)
    (omega arith) c.loop-count.invariant.sofar
    (modes_at-last c.args.memory.now c.loop-count.place c.loop-count.count _ c.args.kinds.now _
    (omega arith)
    (sym c.read1-then-count-kinds.ensures.value ∙ c.in_ok-byte-2.was)
    (sym c.for_kind-then-count-kinds.ensures ∙ c.in_ok-modes-3.was))

pub returns-else-count-kinds-clause-ok : goal.returns-else-count-kinds-clause-ok
returns-else-count-kinds-clause-ok c =
    whole_none c.loop-count.modes c.loop-count.count _ (omega arith) c.loop-count.invariant.sofar
    (modes_at-none c.args.memory.now c.loop-count.place c.loop-count.count c.args.kinds.now
    (omega arith))
