use Rattle.std.proofs.Common.{◌≡◌, ◌≤◌, ◌-◌, length, drop}
use Rattle.vm_stack.specs.Frame.{locals_end}
use Rattle.vm_stack.specs.Chain.{Chain, HasFrame, IsFormat}
use Rattle.vm_flow.specs.Call.{locals_set}
use Rattle.vm_flow.proofs.arguments.set_locals.Given as goal

abbrev pub invariant-loop-read : goal.invariant-loop-read
invariant-loop-read l = record {
  same : locals_set l.fn.stack 0 l.format l.fn.args ≡ locals_set l.stack l.at
      (drop l.read l.format) l.args;
  inside : l.read ≤ length l.format;
  pairs : IsFormat (drop l.read l.format);
  end : locals_end l.at (drop l.read l.format) ≤ 1048576;
  chain : Chain l.fn.stack → Chain l.stack;
  there : HasFrame l.fn.stack → HasFrame l.stack;
}

abbrev pub decreases-loop-read : goal.decreases-loop-read
decreases-loop-read l = length l.format - l.read
