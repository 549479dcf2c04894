use Rattle.std.proofs.Common.{◌≡◌, ◌-◌}
use Rattle.vm_stack.specs.Chain.{Chain, HasFrame}
use Rattle.vm_exec.specs.Rules as rules
use Rattle.vm_exec.proofs.ArgumentLemmas.{with_front}
use Rattle.vm_exec.proofs.arguments.take_arguments.Given as goal

abbrev pub invariant-loop : goal.invariant-loop
invariant-loop l = record {
  same : rules.arguments l.fn.stack l.count
      ≡ with_front l.args.items (rules.arguments l.stack (l.count - l.counter));
  kept : Chain l.fn.stack → HasFrame l.fn.stack → Chain l.stack × HasFrame l.stack;
}
