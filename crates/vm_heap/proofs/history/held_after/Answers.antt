use Rattle.std.proofs.Common.{◌≡◌, subst}
use Rattle.std.specs.Prelude.{AllPairs}
use Rattle.vm_heap.specs.History.{holding_after_calls, at_first, AreApart}
use Rattle.vm_heap.proofs.HistoryLemmas.{IsHolding, after-keeps, new-holding, played_all}
use Rattle.vm_heap.proofs.history.held_after.Goals as goal

pub returns-clause-apart : goal.returns-clause-apart
returns-clause-apart c =
    let law : IsHolding (holding_after_calls c.args.end c.args.calls.now at_first) =
    after-keeps c.args.end c.args.calls.now at_first c.requires.start c.requires.limit
    new-holding in
    let same : (holding_after_calls c.args.end c.args.calls.now at_first).held
    ≡ c.loop-call.held.items =
    played_all c.args.end c.args.calls.now c.loop-call.call-index at_first _ c.loop-call-test.false
    c.loop-call.invariant.sofar in
    subst (AllPairs AreApart) same law.apart
