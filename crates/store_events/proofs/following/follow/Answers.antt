use Rattle.std.proofs.Common.{◌∙◌, subst, sym}
use Rattle.store_events.specs.Steady.{IsSteady}
use Rattle.store_events.specs.declared.state.StoreState.{StoreState}
use Rattle.store_events.proofs.FollowLemmas.{run_end, run_next, run_steady}
use Rattle.store_events.proofs.following.follow.Goals as goal

pub loop-event-preserved : goal.loop-event-preserved
loop-event-preserved c =
    run_next c.args.events.now c.loop-event.event-index
    c.event-item.result c.loop-event.state c.happen.new.self c.loop-event-test.true c.event-item.is
    c.in_ok-happen.ensures
    ∙ c.loop-event.invariant

pub returns-clause-value : goal.returns-clause-value
returns-clause-value c =
    sym (run_end c.args.events.now c.loop-event.event-index c.loop-event.state
    c.loop-event-test.false)
    ∙ c.loop-event.invariant

pub returns-clause-steady : goal.returns-clause-steady
returns-clause-steady c = λ steady.
    subst (λ (w : StoreState). IsSteady w)
    (sym (sym (run_end c.args.events.now c.loop-event.event-index c.loop-event.state
    c.loop-event-test.false)
    ∙ c.loop-event.invariant))
    (run_steady c.args.events.now c.args.state steady)
