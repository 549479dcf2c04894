use Rattle.std.proofs.Common.{rules, ◌∙◌}
use Rattle.host_serve.specs.Holders.{holders, seens}
use Rattle.host_serve.specs.Hosts.{IsSound}
use Rattle.host_serve.proofs.PassLemmas.{holders_many, seens_many}
use Rattle.host_serve.proofs.ToldLemmas.{told_at, told_holders, told_nothing}
use Rattle.host_serve.proofs.host.Host.serve.Goals as goal

pub returns-in_default-clause-value : goal.returns-in_default-clause-value
returns-in_default-clause-value g c = told_nothing
    (IsSound g.D.Disk) (record {
      host = c.args.self.now;
      holders = holders c.args.passes.now.desks.items;
      seen = seens c.args.passes.now.desks.items;
      marks = c.args.marks.now.items;
    })
    _ _
    (holders_many _ _ _ _ c.requires.passes.each c.requires.passes.whole.many)
    (seens_many _ _ _ _ c.requires.passes.each c.requires.passes.whole.many)

pub returns-clause-value : goal.returns-clause-value
returns-clause-value g c = told_at _ _ _ _ _ _ _
    (holders_many _ _ _ _ c.requires.passes.each c.requires.passes.whole.many)
    (seens_many _ _ _ _ c.requires.passes.each c.requires.passes.whole.many)
    c.converse.result c.converse.ensures.value _ _ (search rules) (search rules)

pub returns-clause-holders : goal.returns-clause-holders
returns-clause-holders g c = search rules ∙ told_holders _ _ _ _ _ _ _
    (holders_many _ _ _ _ c.requires.passes.each c.requires.passes.whole.many)
    (seens_many _ _ _ _ c.requires.passes.each c.requires.passes.whole.many)
    c.converse.result c.converse.ensures.value
