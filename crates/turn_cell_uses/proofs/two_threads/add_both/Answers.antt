use Rattle.std.proofs.Common.{rules}
use Rattle.turn_cell_uses.proofs.RowLemmas.{get_of_continues}
use Rattle.turn_cell_uses.proofs.two_threads.add_both.Goals as goal

pub returns-in-Some-Some : goal.returns-in-Some-Some
returns-in-Some-Some g c =
    let j = c.join.ensures in (
      get_of_continues _ _ _ _ _ j.first (search rules),
      get_of_continues _ _ _ _ _ j.second (search rules),
    )
