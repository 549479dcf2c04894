use Rattle.std.proofs.Common.{arith, sym, ◌∙◌}
use Rattle.vm_stack.proofs.LinkLemmas.{step_up, step_down}
use Rattle.vm_stack.proofs.saved.is_chain.Goals as goal

pub returns-then-start-end-clause-found : goal.returns-then-start-end-clause-found
returns-then-start-end-clause-found c = λ saved.
    let s =
    step_down c.args.bytes.now c.stub_frame-start.result c.loop-end.end c.loop-end-test.true
    c.loop-end.invariant.inside
    c.stub_frame-start.ensures (c.loop-end.invariant.down saved.linked) in
    let inside = s.inside in
    let out = c.if-start-end.true in
    absurd (omega (arith, inside, out))

pub returns-then-not-is_frame-clause-found : goal.returns-then-not-is_frame-clause-found
returns-then-not-is_frame-clause-found c = λ saved.
    let s =
    step_down c.args.bytes.now c.stub_frame-start.result c.loop-end.end c.loop-end-test.true
    c.loop-end.invariant.inside
    c.stub_frame-start.ensures (c.loop-end.invariant.down saved.linked) in
    sym c.if-not-is_frame.true ∙ c.is_frame.ensures.found s.frame

pub loop-end-preserved : goal.loop-end-preserved
loop-end-preserved c =
    let inside = c.loop-end.invariant.inside in
    let in_end = c.if-start-end.false in
    record {
      up = λ low. c.loop-end.invariant.up
          (step_up c.args.bytes.now c.stub_frame-start.result c.loop-end.end
          (omega (arith, in_end)) c.loop-end.invariant.inside
          c.stub_frame-start.ensures (c.is_frame.ensures.only c.if-not-is_frame.false) low);
      down = λ linked.
          (step_down c.args.bytes.now c.stub_frame-start.result c.loop-end.end c.loop-end-test.true
          c.loop-end.invariant.inside
          c.stub_frame-start.ensures (c.loop-end.invariant.down linked)).low;
      inside = omega (arith, in_end, inside);
    }
