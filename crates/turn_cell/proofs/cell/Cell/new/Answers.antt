use Rattle.std.proofs.Common.{rules}
use Rattle.turn_cell.proofs.SeatLemmas.{starts_at}
use Rattle.turn_cell.proofs.cell.Cell.new.Goals as goal

pub new-requires : goal.new-requires
new-requires g c =
    starts_at g.T.Told.entries g.T.Told.by g.T.Told.tag _ c.args.value _ _ c.of-about.ensures
    c.count-count.ensures (search rules)
