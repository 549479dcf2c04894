use Rattle.std.proofs.Common.{◌<◌, ◌%◌, length, ◌∙◌, arith}
use Rattle.vm_memory.proofs.RowLemmas.{items_at_set, items_at_other, shows_set}
use Rattle.vm_memory.proofs.table.hold_in_row.Goals as goal

pub returns-clause-shows : goal.returns-clause-shows
returns-clause-shows c =
    shows_set c.args.rom.now c.grow.new.vectors.items c.args.pages.now.items c.args.number
    (c.args.number % 64) c.fill.new.page c.index_mut.result.now
    (omega (arith, c.in_ok-grow.ensures.all)) (c.in_ok-grow.ensures.same (c.args.number % 64))
    c.index_mut.ensures.value c.fill.ensures.shows

pub returns-clause-kept : goal.returns-clause-kept
returns-clause-kept c = λ k other.
    items_at_other c.grow.new.vectors.items (c.args.number % 64) k c.fill.new.page other
    ∙ c.in_ok-grow.ensures.same k

pub returns-clause-ok : goal.returns-clause-ok
returns-clause-ok c =
    let l : c.args.number % 64 < length c.grow.new.vectors.items =
    omega (arith, c.in_ok-grow.ensures.all) in
    rw (items_at_set c.grow.new.vectors.items (c.args.number % 64) c.fill.new.page l)
    c.fill.ensures.ok
