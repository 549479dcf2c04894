use Rattle.std.proofs.Common.{arith}
use Rattle.vm_memory.proofs.RowLemmas.{cut_rows, cut_short}
use Rattle.vm_memory.proofs.table.cut.Goals as goal

pub returns-then-row-len : goal.returns-then-row-len
returns-then-row-len c = λ rom.
    cut_rows rom c.args.rows.now.items c.truncate.new.self.items c.args.size c.cut_row.new.pages
    c.index_mut.result.now c.truncate.ensures.items (omega arith) c.index_mut.ensures.value
    c.cut_row.ensures.here c.cut_row.ensures.below c.cut_row.ensures.past

pub returns-else-row-len : goal.returns-else-row-len
returns-else-row-len c = λ rom.
    cut_short rom c.args.rows.now.items c.truncate.new.self.items c.args.size
    c.truncate.ensures.items (omega arith)
