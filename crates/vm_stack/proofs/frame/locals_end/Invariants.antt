use Rattle.std.proofs.Common.{◌≡◌, ◌≤◌, ◌-◌, ◌+◌, ◌*◌, length, drop}
use Rattle.vm_stack.specs.Frame.{locals_end}
use Rattle.vm_stack.proofs.frame.locals_end.Given as goal

abbrev pub invariant-loop-read : goal.invariant-loop-read
invariant-loop-read l = record {
  same : locals_end l.at l.format ≡ locals_end l.end (drop l.read l.format);
  inside : l.read ≤ length l.format;
  within : l.end ≤ l.at + 65536 * l.read;
}

abbrev pub decreases-loop-read : goal.decreases-loop-read
decreases-loop-read l = length l.format - l.read
