use Rattle.std.proofs.Common.{◌*◌, length, sym, ap, ◌∙◌, subst}
use Rattle.vm_stack.specs.StackState.{StackState}
use Rattle.vm_stack.specs.Chain.{Chain}
use Rattle.vm_stack.proofs.ChainLemmas.{roll_keeps, length_rolled}
use Rattle.vm_stack.proofs.stack.Stack.roll.Goals as goal

pub returns-clause-kept : goal.returns-clause-kept
returns-clause-kept c = λ chain.
    subst Chain (sym c.rotate_top.ensures)
    (roll_keeps c.args.self.now c.args.count (4 * c.turn.result)
    (rw (← c.value_bytes.ensures.value) c.if-value_bytes-needed.false) chain)

pub returns-clause-size : goal.returns-clause-size
returns-clause-size c =
    ap (λ (s : StackState). length s.bytes) c.rotate_top.ensures
    ∙ length_rolled c.args.self.now.bytes (4 * c.args.count) (4 * c.turn.result)
