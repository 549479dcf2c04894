use Rattle.std.proofs.Common.{◌∙◌, sym, arith}
use Rattle.turn_cell.proofs.HistoryLemmas.{among_head}
use Rattle.turn_cell.proofs.SeatLemmas.{splits}
use Rattle.turn_cell.proofs.cell.Cell.split.Goals as goal

pub split_seat-place-requires : goal.split_seat-place-requires
split_seat-place-requires g c = let p = c.args.pass.now.known in let n = p.numbered in (
  c.requires.cell,
  omega (arith, c.args.self.now.sized.0),
  splits g.T.Told.entries g.T.Told.by g.T.Told.tag _ _ _ c.requires.outside.0
      (among_head 0 p.place.me.0.holds n.1.0 (n.1.1 ∙ (sym n.0 ∙ c.requires.root.0)))
      (omega (arith, p.counted.0, c.requires.root.1)),
)
