use Rattle.std.proofs.Common.{◌≤◌, sym, ap, arith, subst, ◌∙◌}
use Rattle.vm_stack.specs.StackState.{value_bytes}
use Rattle.vm_stack.specs.declared.stub.Stub.{Stub}
use Rattle.vm_stack.specs.Chain.{Chain, HasFrame}
use Rattle.vm_stack.proofs.ChainLemmas.{taken_keeps, without_there, has_frame, frame_on_top}
use Rattle.vm_stack.proofs.stack.Stack.take_stub.Goals as goal

pub returns-clause-kept : goal.returns-clause-kept
returns-clause-kept c = λ chain own.
    let le : 16 ≤ value_bytes c.args.self.now =
    rw (← c.value_bytes.ensures.value) c.if-value_bytes-lt16.false in
    subst Chain (sym c.drop_stub.ensures)
    (taken_keeps c.args.self.now c.stub_at-stub.result.frame le
    (ap (λ (x : Stub). x.frame) c.stub_at-stub.ensures
    ∙ (rw c.live-bytes.ensures.bytes (frame_on_top c.args.self.now le) ∙ own))
    chain (has_frame c.args.self.now 16 (omega arith) le))

pub returns-clause-there : goal.returns-clause-there
returns-clause-there c = λ chain.
    let le : 16 ≤ value_bytes c.args.self.now =
    rw (← c.value_bytes.ensures.value) c.if-value_bytes-lt16.false in
    subst HasFrame (sym c.drop_stub.ensures)
    (without_there c.args.self.now 16 le chain (has_frame c.args.self.now 16 (omega arith) le))
