use Rattle.vm_stack.proofs.ChainLemmas.{left_keeps, left_ready}
use Rattle.vm_stack.proofs.stack.Stack.leave.Goals as goal

pub returns-clause-kept : goal.returns-clause-kept
returns-clause-kept c =
    λ chain. rw (c.shorten.ensures, c.frame-start.ensures) (left_keeps c.args.self.now chain)

pub returns-clause-ready : goal.returns-clause-ready
returns-clause-ready c =
    λ chain. rw (c.shorten.ensures, c.frame-start.ensures) (left_ready c.args.self.now chain)
