use Rattle.std.proofs.Common.{length, get_or, sym, ◌∙◌, ap, arith, rules}
use Rattle.std.proofs.lemmas.List.{with_items_is}
use Rattle.std.specs.Prelude.{◌+◌, nat_le}
use Rattle.vm_memory.specs.Pages.{page_after_write}
use Rattle.vm_memory.proofs.RowLemmas.{items_at_get, items_at_set, items_at_other, items_at_past}
use Rattle.vm_memory.proofs.table.put_in_row.Goals as goal

pub returns-then-n-pages-clause-puts : goal.returns-then-n-pages-clause-puts
returns-then-n-pages-clause-puts c =
    items_at_set c.args.pages.now c.args.n _ c.if-n-pages.true
    ∙ with_items_is (get_or c.args.pages.now c.args.n c.index-pages-n.result) c.put_held.new.page
    (grind (arith, c.put_held.auto.page, c.deref_mut.ensures.len, c.deref_mut.ensures.value))
    ∙ c.put_held.ensures.puts
    ∙ ap (page_after_write c.args.at c.args.new.now) (c.deref_mut.ensures.value
    ∙ sym (items_at_get c.args.pages.now c.args.n c.index-pages-n.result c.if-n-pages.true))

pub returns-then-n-pages-clause-kept : goal.returns-then-n-pages-clause-kept
returns-then-n-pages-clause-kept c = λ k other. items_at_other _ _ k _ other

pub returns-then-n-pages-clause-held : goal.returns-then-n-pages-clause-held
returns-then-n-pages-clause-held c =
    c.put_held.ensures.held
    ∙ ap (λ page. nat_le (c.args.at + length c.args.new.now) (length page))
    (c.deref_mut.ensures.value
    ∙ sym (items_at_get c.args.pages.now c.args.n c.index-pages-n.result c.if-n-pages.true))

pub returns-else-n-pages-clause-puts : goal.returns-else-n-pages-clause-puts
returns-else-n-pages-clause-puts c =
    rw (items_at_past c.args.pages.now c.args.n c.if-n-pages.false) (search rules)

pub returns-else-n-pages-clause-held : goal.returns-else-n-pages-clause-held
returns-else-n-pages-clause-held c =
    rw (items_at_past c.args.pages.now c.args.n c.if-n-pages.false) (search rules)
