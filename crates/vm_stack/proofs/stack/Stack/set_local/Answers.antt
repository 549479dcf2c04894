use Rattle.std.proofs.Common.{length, ap, ◌∙◌}
use Rattle.byteorder.specs.Endian.{big_bytes}
use Rattle.vm_stack.specs.StackState.{StackState}
use Rattle.vm_stack.proofs.LocalLemmas.{length_replaced, local_keeps}
use Rattle.vm_stack.proofs.stack.Stack.set_local.Goals as goal

pub returns-in-Some-clause-kept : goal.returns-in-Some-clause-kept
returns-in-Some-clause-kept c = λ chain.
    rw (c.put_held.ensures, c.in-Some.ensures.place)
    (local_keeps c.args.self.now c.args.offset c.args.width c.args.value c.requires
    c.in-Some.ensures.inside chain)

pub returns-in-Some-clause-size : goal.returns-in-Some-clause-size
returns-in-Some-clause-size c =
    ap (λ (s : StackState). length s.bytes) c.put_held.ensures
    ∙ length_replaced c.args.self.now.bytes c.in-Some.at (big_bytes c.args.width c.args.value)
