use Rattle.std.proofs.Common.{◌≡◌, ◌∙◌, ◌-◌, ◌==◌, rules, sym, true, false}
use Rattle.std.specs.List.{slice_get}
use Rattle.host_world.specs.Whole.{fails_at}
use Rattle.host_world.proofs.WholeCode.{called_is, on_ok}
use Rattle.host_world.proofs.whole.HostState.call.Goals as goal

pub returns-then-branch : goal.returns-then-branch
returns-then-branch c =
    let other : (c.args.disk == 0) ≡ false = search rules in
    let up : c.args.self.now.host.up ≡ true = search rules in
    let fails : fails_at (slice_get c.args.self.now.stores (c.args.disk - 1)) c.args.good
    c.args.reads.now ≡ true = sym c.in_ok-call_file.ensures.fails ∙ c.if-branch.true in
    on_ok c.close.result
    (λ is. called_is c.args.stories.now c.args.budget c.args.self.now c.args.disk c.args.good
    c.args.reads.now c.call_file.new.self c.close.new.self other up fails
    c.in_ok-call_file.ensures.files is)
    (c.close.ensures c.args.stories.now c.args.budget)
