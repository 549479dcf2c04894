use Rattle.std.proofs.Common.{◌≡◌, ◌/◌, ◌%◌, length, get_or, sym, ◌∙◌, ap, arith, rules}
use Rattle.std.proofs.lemmas.List.{with_items_is}
use Rattle.std.specs.Prelude.{◌+◌, nat_le}
use Rattle.std.specs.Vec.{with_items}
use Rattle.vm_memory.specs.Pages.{items_at, page_after_write}
use Rattle.vm_memory.proofs.RowLemmas.{page_in_get, page_in_set, page_in_other, page_in_past}
use Rattle.vm_memory.proofs.table.put_in_page.Goals as goal

row_is : (c : goal.After-rows-1)
    → (with_items (get_or c.args.rows.now
    (c.args.number / 64) c.index-rows-row.result) c.put_in_row.new.pages).items
    ≡ c.put_in_row.new.pages
row_is c =
    with_items_is (get_or c.args.rows.now (c.args.number / 64) c.index-rows-row.result)
    c.put_in_row.new.pages
    (grind (arith, c.put_in_row.auto.pages, c.deref_mut.ensures.len, c.deref_mut.ensures.value))

pub returns-then-row-rows-clause-puts : goal.returns-then-row-rows-clause-puts
returns-then-row-rows-clause-puts c =
    page_in_set c.args.rows.now c.args.number _ c.if-row-rows.true
    ∙ ap (λ pages. items_at pages (c.args.number % 64)) (row_is c)
    ∙ c.put_in_row.ensures.puts
    ∙ ap (λ pages. page_after_write c.args.at c.args.new.now (items_at pages (c.args.number % 64)))
    c.deref_mut.ensures.value
    ∙ sym (ap (page_after_write c.args.at c.args.new.now)
    (page_in_get c.args.rows.now c.args.number c.index-rows-row.result c.if-row-rows.true))

pub returns-then-row-rows-clause-kept : goal.returns-then-row-rows-clause-kept
returns-then-row-rows-clause-kept c = λ k other.
    page_in_other c.args.rows.now c.args.number k _ c.index-rows-row.result c.if-row-rows.true
    (λ j q. ap (λ pages. items_at pages j) (row_is c) ∙ c.put_in_row.ensures.kept j q
    ∙ ap (λ pages. items_at pages j) c.deref_mut.ensures.value) other

pub returns-then-row-rows-clause-held : goal.returns-then-row-rows-clause-held
returns-then-row-rows-clause-held c =
    c.put_in_row.ensures.held
    ∙ ap (λ pages. nat_le (c.args.at + length c.args.new.now)
    (length (items_at pages (c.args.number % 64)))) c.deref_mut.ensures.value
    ∙ sym (ap (λ page. nat_le (c.args.at + length c.args.new.now) (length page))
    (page_in_get c.args.rows.now c.args.number c.index-rows-row.result c.if-row-rows.true))

pub returns-else-row-rows-clause-puts : goal.returns-else-row-rows-clause-puts
returns-else-row-rows-clause-puts c =
    rw (page_in_past c.args.rows.now c.args.number c.if-row-rows.false) (search rules)

pub returns-else-row-rows-clause-held : goal.returns-else-row-rows-clause-held
returns-else-row-rows-clause-held c =
    rw (page_in_past c.args.rows.now c.args.number c.if-row-rows.false) (search rules)
