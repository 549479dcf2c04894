use Rattle.host_serve.specs.Hosts.{AreOf}
use Rattle.work_tests.proofs.watching.play.Given as goal

-- the passes are the host's
abbrev pub invariant-loop-n : goal.invariant-loop-n
invariant-loop-n g l = AreOf l.host l.passes
