use Rattle.std.proofs.Common.{sym, subst}
use Rattle.host_serve.specs.Splitting.{AreRoots}
use Rattle.host_serve.proofs.RootLemmas.{roots_alone}
use Rattle.work_tests.proofs.hosts.opened.Goals as goal

pub returns-in-Ok-clause-roots : goal.returns-in-Ok-clause-roots
returns-in-Ok-clause-roots c = subst (AreRoots 0) (sym c.in-Ok.ensures.ok.3.alone) roots_alone
