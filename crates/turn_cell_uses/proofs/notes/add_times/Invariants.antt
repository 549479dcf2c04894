use Rattle.turn_cell.specs.Passes.{IsOutside, KeepsNumbers}
use Rattle.std.proofs.Common.{◌≡◌}
use Rattle.turn_cell_uses.proofs.notes.add_times.Given as goal

abbrev pub invariant-loop-k : goal.invariant-loop-k
invariant-loop-k g l =
    (l.pass.known.place.table_id ≡ l.fn.pass.known.place.table_id)
    × IsOutside l.pass × KeepsNumbers l.fn.pass l.pass
    × (l.pass.known.made ≡ l.fn.pass.known.made)
