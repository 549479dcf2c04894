use Rattle.std.proofs.Common.{ap}
use Rattle.host_world.specs.Whole.{with_host}
use Rattle.host_world.specs.declared.state.JournalHost.{JournalHost}
use Rattle.host_world.proofs.whole.HostState.recover_host.Goals as goal

pub returns : goal.returns
returns c = λ stories budget.
    ap (λ (h : JournalHost). with_host c.args.self.now h) (c.recover.ensures stories budget)
