use Rattle.std.proofs.Common.{◌≡◌, ◌≤◌, ◌+◌, ◌*◌, drop}
use Rattle.vm_stack.specs.Chain.{Chain, HasFrame}
use Rattle.vm_flow.specs.Call.{pair_set}
use Rattle.vm_flow.proofs.arguments.set_pair.Given as goal

abbrev pub invariant-loop-value : goal.invariant-loop-value
invariant-loop-value l = record {
  same : pair_set l.fn.stack l.begin l.size l.values ≡ pair_set l.stack l.at l.size
      (drop l.value-index l.values);
  limit : l.at ≤ l.begin + 255 * l.value-index;
  chain : Chain l.fn.stack → Chain l.stack;
  there : HasFrame l.fn.stack → HasFrame l.stack;
}
