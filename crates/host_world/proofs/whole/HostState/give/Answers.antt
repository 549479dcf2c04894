use Rattle.std.proofs.Common.{◌≡◌, rules, true}
use Rattle.std.specs.List.{slice_get}
use Rattle.host_world.specs.Whole.{no_put}
use Rattle.host_world.proofs.WholeCode.{gives_is, on_ok}
use Rattle.host_world.proofs.whole.HostState.give.Goals as goal

pub returns : goal.returns
returns c = λ stories budget.
    let free : no_put (slice_get c.args.self.now.stores c.args.s) ≡ true = search rules in
    on_ok c.give.result
    (λ is. gives_is stories budget c.args.self.now c.args.s c.give.new.self free is)
    (c.give.ensures.ok stories budget)
