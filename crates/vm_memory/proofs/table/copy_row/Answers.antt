use Rattle.std.proofs.Common.{◌≡◌, ℕ, List, length, sym, ◌∙◌, ap, arith, length-append}
use Rattle.vm_memory.specs.Pages.{items_at}
use Rattle.vm_memory.proofs.RowLemmas.{copied_more, copied_pages, items_at_read}
use Rattle.vm_memory.proofs.table.copy_row.Goals as goal

pub loop-page-preserved : goal.loop-page-preserved
loop-page-preserved c =
    let pages = c.args.pages.now in
    let i = c.loop-page.page-index in
    let here =
    c.in_ok-from_slice.ensures.items ∙ c.deref.ensures.value
    ∙ sym (items_at_read pages i c.page-item.result c.loop-page-test.true c.page-item.is) in
    record {
      count = ap length c.in_ok-push.ensures.items ∙ simp length-append (omega arith);
      same = λ k l. ap (λ vs. items_at vs k) c.in_ok-push.ensures.items
          ∙ copied_more (λ (xs : List ℕ) (ys : List ℕ). xs ≡ ys) c.loop-page.row.items pages i _
          c.loop-page.invariant.count here c.loop-page.invariant.same k l;
    }

pub returns : goal.returns
returns c =
    copied_pages c.loop-page.row.items c.args.pages.now (omega arith)
    (λ k l. c.loop-page.invariant.same k (omega arith))
