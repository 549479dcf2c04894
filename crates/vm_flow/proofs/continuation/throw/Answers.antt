use Rattle.std.proofs.Common.{◌≡◌, ap, sym, ◌∙◌, subst}
use Rattle.vm_stack.specs.StackState.{StackState}
use Rattle.vm_stack.specs.declared.stub.Stub.{Stub}
use Rattle.std.proofs.Common.{Result, ◌-◌, ℕ, ◌<◌, true}
use Rattle.vm_flow.specs.declared.stop.FlowStop.{FlowStop}
use Rattle.vm_flow.specs.Answer.{GivesOrStops}
use Rattle.vm_flow.specs.Throw.{thrown, thrown_in, stub_taken_at}
use Rattle.vm_stack.specs.Token.{ends_stub}
use Rattle.vm_flow.specs.declared.stop.FlowStop.TheVariants as stop
use Rattle.vm_flow.proofs.TokenLemmas.{refused, reached}
use Rattle.vm_flow.proofs.ThrowLemmas.{thrown_here, thrown_below, thrown_none, gives_stop}
use Rattle.vm_flow.proofs.continuation.throw.Goals as goal

-- what the call gives that a stub here is taken by
taken_here : (s t new : StackState) (n token : ℕ) (r : Result Stub FlowStop)
    → thrown s token ≡ thrown_in n t token → 0 < n → ends_stub t token ≡ true
    → GivesOrStops (stub_taken_at t token) new r → GivesOrStops (thrown s token) new r
taken_here s t new n token r same some ends h =
    subst (λ (x : Result (StackState × Stub) FlowStop). GivesOrStops x new r)
    (sym (same ∙ thrown_here n t token some ends)) h

pub returns-then-ends_stub-clause-ok : goal.returns-then-ends_stub-clause-ok
returns-then-ends_stub-clause-ok c =
    taken_here c.args.stack.now c.loop-frames.stack c.take_at.new.stack c.loop-frames.frames
    c.args.token c.take_at.result c.loop-frames.invariant.same
    c.loop-frames-test.true (sym c.ends_stub.ensures ∙ c.if-ends_stub.true) c.take_at.ensures.ok

pub returns-then-ends_stub-clause-good : goal.returns-then-ends_stub-clause-good
returns-then-ends_stub-clause-good c = λ chain good.
    subst (λ (x : Result (StackState × Stub) FlowStop). GivesOrStops x c.take_at.new.stack
    c.take_at.result) (reached c.args.stack.now chain c.args.token good)
    (taken_here c.args.stack.now c.loop-frames.stack c.take_at.new.stack c.loop-frames.frames
    c.args.token c.take_at.result
    c.loop-frames.invariant.same c.loop-frames-test.true
    (sym c.ends_stub.ensures ∙ c.if-ends_stub.true) c.take_at.ensures.ok)

pub returns-then-ends_stub-clause-bad : goal.returns-then-ends_stub-clause-bad
returns-then-ends_stub-clause-bad c = λ chain bad.
    gives_stop c.take_at.new.stack c.take_at.result (stop.BadToken c.args.token)
    (subst (λ (x : Result (StackState × Stub) FlowStop). GivesOrStops x c.take_at.new.stack
    c.take_at.result)
    (refused c.args.stack.now chain c.args.token bad)
    (taken_here c.args.stack.now c.loop-frames.stack c.take_at.new.stack c.loop-frames.frames
    c.args.token c.take_at.result
    c.loop-frames.invariant.same c.loop-frames-test.true
    (sym c.ends_stub.ensures ∙ c.if-ends_stub.true) c.take_at.ensures.ok))

pub returns-clause-good : goal.returns-clause-good
returns-clause-good c = λ chain good.
    sym (reached c.args.stack.now chain c.args.token good)
    ∙ (c.loop-frames.invariant.same
    ∙ thrown_none c.loop-frames.frames c.loop-frames.stack c.args.token c.loop-frames-test.false)

pub loop-frames-preserved : goal.loop-frames-preserved
loop-frames-preserved c = record {
  same =
      c.loop-frames.invariant.same
      ∙ (thrown_below c.loop-frames.frames c.loop-frames.stack c.args.token c.loop-frames-test.true
      (sym c.ends_stub.ensures ∙ c.if-ends_stub.false)
      ∙ ap (λ (s : StackState). thrown_in (c.loop-frames.frames - 1) s c.args.token)
      (sym c.leave.ensures.ok));
  chain = λ chain. c.leave.ensures.kept (c.loop-frames.invariant.chain chain);
}
