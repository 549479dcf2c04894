use Rattle.std.proofs.Common.{length, sym, ap, subst}
use Rattle.vm_stack.specs.Chain.{Chain}
use Rattle.vm_stack.proofs.ChainLemmas.{appended_keeps}
use Rattle.vm_stack.proofs.stack.Stack.push.Goals as goal

pub returns-clause-kept : goal.returns-clause-kept
returns-clause-kept c = λ chain has.
    subst Chain (sym c.add.ensures) (appended_keeps c.args.self.now c.to_be_bytes.result 1
    (ap length c.to_be_bytes.ensures) chain has)
