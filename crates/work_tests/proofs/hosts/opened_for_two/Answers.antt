use Rattle.std.proofs.Common.{arith}
use Rattle.work_tests.proofs.hosts.opened_for_two.Goals as goal

pub split-requires-clause-roots : goal.split-requires-clause-roots
split-requires-clause-roots c = (0, omega arith, c.in_ok-host.ensures.roots)
