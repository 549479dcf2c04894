use Rattle.std.proofs.Common.{length, ap, ◌∙◌}
use Rattle.byteorder.specs.Endian.{big_bytes}
use Rattle.vm_stack.specs.StackState.{StackState}
use Rattle.vm_stack.proofs.LocalLemmas.{length_replaced, local_keeps}
use Rattle.vm_stack.proofs.stack.Stack.set_local_by_numbers.Goals as goal

pub returns-clause-kept : goal.returns-clause-kept
returns-clause-kept c = λ chain.
    rw (c.put_number.ensures, c.in_ok-at.ensures.place)
    (local_keeps c.args.self.now c.args.offset c.args.width c.args.value c.requires
    c.in_ok-at.ensures.inside chain)

pub returns-clause-size : goal.returns-clause-size
returns-clause-size c =
    ap (λ (s : StackState). length s.bytes) c.put_number.ensures
    ∙ length_replaced c.args.self.now.bytes c.in_ok-at.at (big_bytes c.args.width c.args.value)
