use Rattle.std.proofs.Common.{◌≡◌, ℕ, List, Vec, length, sym, ◌∙◌, ap, arith, length-append}
use Rattle.std.specs.declared.alloc.Global.{Global}
use Rattle.vm_memory.specs.Pages.{items_at}
use Rattle.vm_memory.proofs.RowLemmas.{copied_more, copied_rows, items_at_read}
use Rattle.vm_memory.proofs.table.copy_rows.Goals as goal

pub loop-row-preserved : goal.loop-row-preserved
loop-row-preserved c =
    let rows = c.args.rows.now in
    let i = c.loop-row.row-index in
    let here = λ (j : ℕ).
    c.in_ok-copy_row.ensures j ∙ ap (λ ps. items_at ps j) (c.deref.ensures.value
    ∙ sym (items_at_read rows i c.row-item.result c.loop-row-test.true c.row-item.is)) in
    record {
      count = ap length c.in_ok-push.ensures.items ∙ simp length-append (omega arith);
      same = λ k l j. ap (λ vs. items_at (items_at vs k) j) c.in_ok-push.ensures.items
          ∙ copied_more (λ (xs : List (Vec ℕ Global)) (ys : List (Vec ℕ Global)).
          (j : ℕ) → items_at xs j ≡ items_at ys j) c.loop-row.copy.items rows i _
          c.loop-row.invariant.count here c.loop-row.invariant.same k l j;
    }

pub returns : goal.returns
returns c =
    copied_rows c.loop-row.copy.items c.args.rows.now (omega arith)
    (λ k l. c.loop-row.invariant.same k (omega arith))
