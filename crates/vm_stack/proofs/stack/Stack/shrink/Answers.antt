use Rattle.std.proofs.Common.{◌-◌, arith}
use Rattle.vm_stack.proofs.HeadLemmas.{head_in}
use Rattle.vm_stack.proofs.stack.Stack.shrink.Goals as goal

pub invariant_of-self : goal.invariant_of-self
invariant_of-self c =
    let s = c.self.inside in
    let i = c.self.invariant in
    let len = i.0 in (
      omega (arith, len),
      (
        i.1.0,
        head_in s.buf.items s.len (s.len - c.args.count) s.frame s.head i.0
            (omega arith) c.if-self.true i.1.1,
      ),
    )
