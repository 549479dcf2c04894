use Rattle.std.proofs.Common.{◌≡◌, rules, subst}
use Rattle.host_world.specs.Whole.{whole_down}
use Rattle.host_world.specs.WholeHeadline.{MayBegin}
use Rattle.host_world.specs.declared.whole.HostState.{HostState}
use Rattle.host_world.proofs.WholeLemmas.{may_begin}
use Rattle.host_world.proofs.whole.HostState.down.Goals as goal

pub returns-clause-start : goal.returns-clause-start
returns-clause-start c =
    let value : whole_down c.args.journal c.args.stores.items ≡ record {
      host = c.in_ok-host.host;
      stores = c.of.result;
    } = search rules in
    subst (λ (w : HostState). MayBegin c.args.journal c.args.stores.items w) value
    (may_begin c.args.journal c.args.stores.items)
