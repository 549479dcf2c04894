use Rattle.std.proofs.Common.{◌+◌, ◌≤◌, ◌∙◌, ◌++◌, List, ℕ, length, take, ap, arith, replicate}
use Rattle.std.proofs.lemmas.Grind.{common_steps}
use Rattle.vm_stack.proofs.HeadLemmas.{closed, head_below}
use Rattle.vm_stack.proofs.stack.Stack.add_zeros.Goals as goal

pub invariant_of-self : goal.invariant_of-self
invariant_of-self c =
    let s = c.self.inside in
    let i = c.self.invariant in
    let d = c.deref_mut.ensures in
    let p = c.append_zeros.ensures in
    let fits : s.len + c.args.count ≤ length s.buf.items =
    grind (arith, common_steps, c.requires, c.self.view_is) in
    closed s.buf.items c.deref_mut.result.now c.append_zeros.new.buf _ s.buf.len
    (s.len + c.args.count)
    s.frame s.head d.value d.len p.size fits i.1.0
    (p.bytes ∙ ap (λ (xs : List ℕ). take s.len xs ++ replicate c.args.count 0) d.value)
    (head_below (take s.len s.buf.items) (replicate c.args.count 0) s.frame s.head i.1.1)
