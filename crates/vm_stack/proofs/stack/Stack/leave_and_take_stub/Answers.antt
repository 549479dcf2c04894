use Rattle.std.proofs.Common.{◌+◌, ◌-◌, ◌≤◌, length, Ok, refl, sym, ap, subst, ◌∙◌}
use Rattle.vm_stack.specs.StackState.{StackState, number}
use Rattle.vm_stack.specs.Stub.{stub_at}
use Rattle.vm_stack.specs.declared.stub.Stub.{Stub}
use Rattle.vm_stack.specs.Chain.{Chain, HasFrame}
use Rattle.vm_stack.proofs.LeaveLemmas.{Left, left_taken, left_taken_keeps, left_taken_there}
use Rattle.vm_stack.proofs.stack.Stack.leave_and_take_stub.Goals as goal

left : (c : goal.After-drop_to)
    → Left c.args.self.now c.live_below-bytes.result.now
    (length c.live_below-bytes.result.now - 16) c.stub_at-stub.result.frame
left c = record {
  bytes = c.live_below-bytes.ensures.bytes;
  some = c.if-bytes-lt16.false;
  place = refl;
  named = ap (λ (x : Stub). x.frame) c.stub_at-stub.ensures;
}

inside : (c : goal.After-drop_to)
    → c.stub_at-stub.result.frame
    + number 4 c.live_below-bytes.result.now c.stub_at-stub.result.frame
    ≤ length c.live_below-bytes.result.now - 16
inside c = rw (← c.number.ensures) c.if-at-frame.false

pub returns-clause-some : goal.returns-clause-some
returns-clause-some c =
    let b = c.live_below-bytes.result.now in
    left_taken c.args.self.now b (length b - 16) c.stub_at-stub.result.frame (left c) (inside c)
    ∙ (ap (λ (s : StackState). Ok (s, stub_at b (length b - 16))) (sym c.drop_to.ensures)
    ∙ ap (λ (x : Stub). Ok (c.drop_to.new.self, x)) (sym c.stub_at-stub.ensures))

pub returns-clause-kept : goal.returns-clause-kept
returns-clause-kept c = λ chain.
    let b = c.live_below-bytes.result.now in
    subst Chain (sym c.drop_to.ensures)
    (left_taken_keeps c.args.self.now b (length b - 16) c.stub_at-stub.result.frame (left c)
    (inside c) chain)

pub returns-clause-there : goal.returns-clause-there
returns-clause-there c = λ chain.
    let b = c.live_below-bytes.result.now in
    subst HasFrame (sym c.drop_to.ensures)
    (left_taken_there c.args.self.now b (length b - 16) c.stub_at-stub.result.frame (left c)
    (inside c) chain)
