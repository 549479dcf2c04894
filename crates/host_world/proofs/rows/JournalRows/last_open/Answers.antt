use Rattle.std.proofs.Common.{◌≡◌, ◌++◌, rules}
use Rattle.host_world.proofs.KeepingLemmas.{open_joined}
use Rattle.host_world.proofs.rows.JournalRows.last_open.Goals as goal

pub loop-new-init : goal.loop-new-init
loop-new-init c =
    let found = c.as_slice-found.result.now in
    let added = c.as_slice-added.result.now in
    let joined : c.args.self.now ≡ found ++ added = search rules in
    open_joined found added c.args.self.now c.args.s c.loop-row.row-index
    c.loop-row.place c.loop-row-test.false c.loop-row.invariant joined
