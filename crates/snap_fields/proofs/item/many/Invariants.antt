use Rattle.std.proofs.Common.{◌≡◌, ◌-◌}
use Rattle.snap_fields.specs.Reading.{many_at}
use Rattle.snap_fields.proofs.Loop.{with_front}
use Rattle.snap_fields.proofs.item.many.Given as goal

abbrev pub invariant-loop : goal.invariant-loop
invariant-loop g l =
    with_front l.items.items (many_at g.T.Item.read_as (l.count - l.counter) l.from)
    ≡ many_at g.T.Item.read_as l.count l.fn.from
