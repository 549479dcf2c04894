use Rattle.std.proofs.Common.{arith, sym, subst}
use Rattle.vm_stack.specs.Chain.{Chain, HasFrame}
use Rattle.vm_stack.proofs.ChainLemmas.{without_keeps, without_there, has_frame}
use Rattle.vm_stack.proofs.stack.Stack.take_word.Goals as goal

pub returns-clause-kept : goal.returns-clause-kept
returns-clause-kept c = λ chain.
    subst Chain (sym c.shrink.ensures)
    (without_keeps c.args.self.now 1 c.requires chain
    (has_frame c.args.self.now 4 (omega arith) c.requires))

pub returns-clause-there : goal.returns-clause-there
returns-clause-there c = λ chain.
    subst HasFrame (sym c.shrink.ensures)
    (without_there c.args.self.now 4 c.requires chain
    (has_frame c.args.self.now 4 (omega arith) c.requires))
