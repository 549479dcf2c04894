use Rattle.std.proofs.Common.{◌-◌, ◌≤◌}
use Rattle.vm_exec.proofs.RunLemmas.{GoneOn}
use Rattle.vm_exec.proofs.machine.Machine.run_on.Given as goal

abbrev pub invariant-loop-done : goal.invariant-loop-done
invariant-loop-done l = (l.done ≤ l.most) × GoneOn l.done l.fn.self l.self

abbrev pub decreases-loop-done : goal.decreases-loop-done
decreases-loop-done l = l.most - l.done
