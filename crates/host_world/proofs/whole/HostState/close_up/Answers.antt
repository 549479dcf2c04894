use Rattle.std.proofs.Common.{◌≡◌, OnOk, Bool, [], rules, subst, sym, true}
use Rattle.std.specs.Prelude.{if◌then◌else◌}
use Rattle.host_world.specs.Events.{run}
use Rattle.host_world.specs.Whole.{closes_host, with_host}
use Rattle.host_world.proofs.whole.HostState.close_up.Goals as goal

pub returns : goal.returns
returns c = λ stories budget.
    let up : c.args.self.now.host.up ≡ true = search rules in
    subst (λ (b : Bool). OnOk c.close.result (c.close.new.self ≡ with_host c.args.self.now
    (run stories budget c.args.self.now.host
    (if b then closes_host c.args.self.now.host else [])))) (sym up)
    (c.close.ensures stories budget)
