use Rattle.std.proofs.Common.{arith}
use Rattle.vm_memory.proofs.RowLemmas.{fill_last}
use Rattle.vm_memory.proofs.table.fill.Goals as goal

pub returns-clause-shows : goal.returns-clause-shows
returns-clause-shows c =
    fill_last _ _ _ _ _ _ _ _ _ _ _ c.in_ok-reserve_exact.ensures.items
    (omega (arith, c.len-held.ensures, c.args.page.now.ok.0)) c.if-held-ge256.false
    c.min-start.ensures c.min-end.ensures c.in_ok-extend_from_slice.ensures.items
    c.extend_from_slice.new.self.ok.0 c.resize.ensures.items
