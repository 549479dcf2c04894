use Rattle.std.proofs.Common.{◌≡◌, ◌-◌}
use Rattle.vm_stack.specs.Chain.{Chain, HasFrame}
use Rattle.vm_exec.specs.Rows.Values as rows
use Rattle.vm_exec.proofs.values.copy_up.Given as goal

abbrev pub invariant-loop : goal.invariant-loop
invariant-loop l = record {
  same : rows.copied_up l.fn.stack (l.count - 1) l.count
      ≡ rows.copied_up l.stack (l.count - 1) (l.count - l.counter);
  kept : Chain l.fn.stack → HasFrame l.fn.stack → Chain l.stack × HasFrame l.stack;
}
