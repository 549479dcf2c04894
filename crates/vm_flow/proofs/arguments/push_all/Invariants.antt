use Rattle.std.proofs.Common.{◌≡◌, ◌≤◌, ◌+◌, ◌*◌, length, drop, Ok}
use Rattle.vm_stack.specs.Chain.{Chain, HasFrame}
use Rattle.vm_flow.specs.Call.{all_pushed}
use Rattle.vm_flow.proofs.arguments.push_all.Given as goal

abbrev pub invariant-loop-left : goal.invariant-loop-left
invariant-loop-left l = record {
  same : all_pushed l.fn.stack (drop l.left l.values) ≡ Ok l.stack;
  inside : l.left ≤ length l.values;
  chain : Chain l.fn.stack → HasFrame l.fn.stack → Chain l.stack;
  there : HasFrame l.fn.stack → HasFrame l.stack;
  many : 4 * length l.values ≤ 4 * l.left + length l.stack.bytes;
  few : 4 * length l.values ≤ 4 * l.left + 1048576;
}

abbrev pub decreases-loop-left : goal.decreases-loop-left
decreases-loop-left l = l.left
