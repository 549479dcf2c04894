use Rattle.std.proofs.Common.{◌∙◌, List, ℕ, take, ap}
use Rattle.vm_stack.proofs.HeadLemmas.{closed, head_around}
use Rattle.vm_stack.specs.StackState.{replaced_within}
use Rattle.vm_stack.proofs.stack.Stack.replace.Goals as goal

pub invariant_of-self : goal.invariant_of-self
invariant_of-self c =
    let s = c.self.inside in
    let i = c.self.invariant in
    let d = c.deref_mut.ensures in
    let p = c.put.ensures in
    closed s.buf.items c.deref_mut.result.now c.put.new.buf _ s.buf.len s.len
    s.frame s.head d.value d.len p.size i.0 i.1.0
    (p.bytes
    ∙ ap (λ (xs : List ℕ). replaced_within (take s.len xs) c.args.at c.args.new.now) d.value)
    (head_around (take s.len s.buf.items)
    c.args.new.now c.args.at s.frame s.head c.if-self-at.true i.1.1)
