use Rattle.std.proofs.Common.{◌<◌, ◌/◌, length, arith}
use Rattle.vm_memory.proofs.RowLemmas.{hold_shows, page_in_set, shows_rows}
use Rattle.vm_memory.proofs.table.hold.Goals as goal

pub returns-in_err-grow-clause-shows : goal.returns-in_err-grow-clause-shows
returns-in_err-grow-clause-shows c = shows_rows _ _ _ c.in_err-grow.ensures.same

pub returns-clause-shows : goal.returns-clause-shows
returns-clause-shows c =
    hold_shows c.args.rom.now c.args.rows.now.items c.grow.new.vectors.items c.args.number
    c.hold_in_row.new.pages c.index_mut.result.now (omega (arith, c.in_ok-grow.ensures.all))
    c.in_ok-grow.ensures.same c.index_mut.ensures.value c.hold_in_row.ensures.shows
    c.hold_in_row.ensures.kept

pub returns-clause-ok : goal.returns-clause-ok
returns-clause-ok c =
    let l : c.args.number / 64 < length c.grow.new.vectors.items =
    omega (arith, c.in_ok-grow.ensures.all) in
    rw (page_in_set c.grow.new.vectors.items c.args.number c.hold_in_row.new.pages l)
    c.hold_in_row.ensures.ok
