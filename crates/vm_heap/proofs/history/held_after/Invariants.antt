use Rattle.std.proofs.Common.{◌≡◌, drop}
use Rattle.vm_heap.specs.History.{holding_after_calls, at_first}
use Rattle.vm_heap.proofs.history.held_after.Given as goal

abbrev pub invariant-loop-call : goal.invariant-loop-call
invariant-loop-call l = record {
  sofar : holding_after_calls l.end l.calls at_first
      ≡ holding_after_calls l.end (drop l.call-index l.calls)
      (record { heap = l.heap; held = l.held.items });
}
