use Rattle.std.proofs.Common.{◌≡◌, ◌≢◌, ◌+◌, [], take, sym, ◌∙◌, ap, arith}
use Rattle.std.proofs.lemmas.List.{take_all}
use Rattle.vm_memory.specs.Pages.{items_at}
use Rattle.vm_memory.proofs.RowLemmas.{items_at_set, items_at_other, items_at_read, items_at_past}
use Rattle.vm_memory.proofs.RowLemmas.{front_kept, front_ends}
use Rattle.vm_memory.proofs.table.cut_row.Goals as goal

pub returns-then-n-len-clause-here : goal.returns-then-n-len-clause-here
returns-then-n-len-clause-here c =
    items_at_set c.truncate.new.self.items c.args.n _ (omega arith)
    ∙ c.truncate-then-n-len.ensures.items
    ∙ ap (take c.args.len)
    (sym (items_at_read c.truncate.new.self.items c.args.n _ (omega arith)
    c.index_mut.ensures.value)
    ∙ front_kept _ _ (c.args.n + 1) c.args.n c.truncate.ensures.items (omega arith))

pub returns-then-n-len-clause-below : goal.returns-then-n-len-clause-below
returns-then-n-len-clause-below c = λ k l.
    let q : k ≢ c.args.n = omega arith in
    items_at_other c.truncate.new.self.items c.args.n k _ q
    ∙ front_kept _ _ (c.args.n + 1) k c.truncate.ensures.items (omega arith)

pub returns-then-n-len-clause-past : goal.returns-then-n-len-clause-past
returns-then-n-len-clause-past c = λ k l.
    let q : k ≢ c.args.n = omega arith in
    items_at_other c.truncate.new.self.items c.args.n k _ q
    ∙ front_ends _ _ (c.args.n + 1) k c.truncate.ensures.items (omega arith)

pub returns-else-n-len-clause-here : goal.returns-else-n-len-clause-here
returns-else-n-len-clause-here c =
    let none : items_at c.truncate.new.self.items c.args.n ≡ [] =
    items_at_past c.truncate.new.self.items c.args.n (omega arith) in
    none ∙ sym (take_all c.args.len [] (omega arith))
    ∙ ap (take c.args.len)
    (sym none ∙ front_kept _ _ (c.args.n + 1) c.args.n c.truncate.ensures.items (omega arith))

pub returns-else-n-len-clause-below : goal.returns-else-n-len-clause-below
returns-else-n-len-clause-below c = λ k l.
    front_kept _ _ (c.args.n + 1) k c.truncate.ensures.items (omega arith)

pub returns-else-n-len-clause-past : goal.returns-else-n-len-clause-past
returns-else-n-len-clause-past c = λ k l.
    front_ends _ _ (c.args.n + 1) k c.truncate.ensures.items (omega arith)
