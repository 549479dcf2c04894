use Rattle.std.proofs.Common.{ap, arith, length}
use Rattle.disk_model.proofs.memory.MemDiskDisk.size.Goals as goal

pub returns-then-is_err-clause-time : goal.returns-then-is_err-clause-time
returns-then-is_err-clause-time c = c.note_look-noted.ensures.time c.args.self.now.start.items

pub returns-clause-time : goal.returns-clause-time
returns-clause-time c = c.note_look-noted.ensures.time c.args.self.now.start.items

pub returns-clause-ok : goal.returns-clause-ok
returns-clause-ok c =
    let m = c.args.self.now in
    (omega (arith, m.well.within, ap length m.reads), λ told. omega (arith, ap length m.reads))
