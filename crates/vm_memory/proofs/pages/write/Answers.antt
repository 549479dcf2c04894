use Rattle.std.proofs.Common.{rules}
use Rattle.vm_memory.proofs.PutLemmas.{puts_after}
use Rattle.vm_memory.proofs.RowLemmas.{shows_then}
use Rattle.vm_memory.proofs.pages.write.Goals as goal

pub returns-clause-ok : goal.returns-clause-ok
returns-clause-ok c =
    puts_after _ _ _ _ _ _ (c.put_at.ensures.none c.if-put_at.false c.args.rom.now)
    c.in_ok-write_block.ensures.ok

pub returns-in_err-write_block-clause-err : goal.returns-in_err-write_block-clause-err
returns-in_err-write_block-clause-err c =
    let shows =
    shows_then _ _ _ _ (c.put_at.ensures.none c.if-put_at.false c.args.rom.now)
    c.in_err-write_block.ensures.err in
    search (rules, shows)
