use Rattle.std.proofs.Common.{sym, subst}
use Rattle.vm_stack.specs.Chain.{Chain}
use Rattle.vm_stack.proofs.ChainLemmas.{linked_keeps}
use Rattle.vm_stack.proofs.stack.Stack.load.Goals as goal

pub returns-clause-kept : goal.returns-clause-kept
returns-clause-kept c =
    λ linked.
    subst Chain (sym c.put_all.ensures) (linked_keeps c.args.self.now c.args.bytes.now linked)
