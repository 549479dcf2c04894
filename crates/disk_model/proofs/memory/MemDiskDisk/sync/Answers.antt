use Rattle.std.specs.Prelude.{not}
use Rattle.disk_model.specs.Calls.{state_after}
use Rattle.disk_model.proofs.StateLaws.{crash_sync, only_settled}
use Rattle.disk_model.proofs.memory.MemDiskDisk.sync.Goals as goal

pub returns-then-not-good-clause-time : goal.returns-then-not-good-clause-time
returns-then-not-good-clause-time c = c.note_sync.ensures.time c.args.self.now.start.items

pub returns-clause-time : goal.returns-clause-time
returns-clause-time c = c.note_sync.ensures.time c.args.self.now.start.items

pub returns-clause-ok : goal.returns-clause-ok
returns-clause-ok c told f now =
    let m = c.args.self.now in
    let p = state_after m.start.items m.calls.items in
    only_settled p.seen f
    (rw (c.in-Ok-note_sync.ensures.state m.start.items, c.if-not-good.false) at now)

pub returns-clause-crash : goal.returns-clause-crash
returns-clause-crash c told f now =
    let m = c.args.self.now in
    crash_sync (not c.is_failing-good.result) (state_after m.start.items m.calls.items) m.well f
    (rw (c.in-Ok-note_sync.ensures.state m.start.items) at now)
