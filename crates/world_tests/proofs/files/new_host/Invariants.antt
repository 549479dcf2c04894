use Rattle.std.proofs.Common.{◌≡◌, ◌≤◌, length}
use Rattle.world_tests.proofs.files.new_host.Given as goal

abbrev pub invariant-loop : goal.invariant-loop
invariant-loop l = (length l.files.items ≡ l.counter) × (l.counter ≤ 64)
