use Rattle.std.proofs.Common.{sym, subst, take}
use Rattle.vm_stack.specs.Chain.{Chain, HasFrame}
use Rattle.vm_stack.proofs.ChainLemmas.{linked_keeps}
use Rattle.vm_stack.proofs.TokenLemmas.{token_keeps, token_there}
use Rattle.vm_stack.proofs.stack.Stack.cut.Goals as goal

pub returns-clause-kept : goal.returns-clause-kept
returns-clause-kept c =
    λ chain good.
    subst Chain (sym c.shorten.ensures) (token_keeps c.args.self.now c.args.to good chain)

pub returns-clause-linked : goal.returns-clause-linked
returns-clause-linked c = λ linked.
    subst Chain (sym c.shorten.ensures)
    (linked_keeps c.args.self.now (take c.args.to c.args.self.now.bytes) linked)

pub returns-clause-there : goal.returns-clause-there
returns-clause-there c =
    λ good. subst HasFrame (sym c.shorten.ensures) (token_there c.args.self.now c.args.to good)
