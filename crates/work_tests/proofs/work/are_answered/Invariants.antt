use Rattle.host_serve.specs.Hosts.{AreOf}
use Rattle.work_tests.proofs.work.are_answered.Given as goal

abbrev pub invariant-loop-row : goal.invariant-loop-row
invariant-loop-row g l = AreOf l.host l.passes
