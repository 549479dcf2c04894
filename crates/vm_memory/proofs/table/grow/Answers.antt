use Rattle.std.proofs.Common.{ap, ◌∙◌}
use Rattle.vm_memory.specs.Pages.{items_at}
use Rattle.vm_memory.proofs.RowLemmas.{items_at_more}
use Rattle.vm_memory.proofs.table.grow.Goals as goal

pub loop-alloc-preserved : goal.loop-alloc-preserved
loop-alloc-preserved g c = λ k.
    ap (λ vectors. items_at vectors k) c.in_ok-push.ensures.items
    ∙ items_at_more _ _ k c.new.ensures.items ∙ c.loop-alloc.invariant k
