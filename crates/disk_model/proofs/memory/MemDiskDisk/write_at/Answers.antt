use Rattle.std.proofs.Common.{subst, arith}
use Rattle.std.specs.Prelude.{not}
use Rattle.disk_model.specs.DiskState.{DiskState, IsDiskImage}
use Rattle.disk_model.specs.Calls.{state_after}
use Rattle.disk_model.proofs.StateLaws.{crash_write}
use Rattle.disk_model.proofs.memory.MemDiskDisk.write_at.Goals as goal

pub returns-then-end-clause-time : goal.returns-then-end-clause-time
returns-then-end-clause-time c = c.note_look.ensures.time c.args.self.now.start.items

pub returns-then-not-good-clause-time : goal.returns-then-not-good-clause-time
returns-then-not-good-clause-time c = c.put.ensures.time c.args.self.now.start.items

pub returns-clause-time : goal.returns-clause-time
returns-clause-time c = c.put.ensures.time c.args.self.now.start.items

pub returns-then-not-good-clause-crash : goal.returns-then-not-good-clause-crash
returns-then-not-good-clause-crash c told f now =
    let m = c.args.self.now in
    crash_write (not c.is_failing-good.result) c.args.place c.args.piece.now
    (state_after m.start.items m.calls.items) (omega arith) f
    (subst (λ (p : DiskState). IsDiskImage p f) (c.in-Ok.ensures.state m.start.items) now)

pub returns-clause-crash : goal.returns-clause-crash
returns-clause-crash c told f now =
    let m = c.args.self.now in
    crash_write (not c.is_failing-good.result) c.args.place c.args.piece.now
    (state_after m.start.items m.calls.items) (omega arith) f
    (subst (λ (p : DiskState). IsDiskImage p f) (c.in-Ok.ensures.state m.start.items) now)
