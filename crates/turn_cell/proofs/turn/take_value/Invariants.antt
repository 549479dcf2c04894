use Rattle.std.proofs.Common.{◌≡◌, []}
use Rattle.turn_cell.specs.Views.{at_stage}
use Rattle.turn_cell.specs.declared.view.Stage.TheVariants.{Waits}
use Rattle.turn_cell.proofs.turn.take_value.Given as goal

abbrev pub invariant-loop : goal.invariant-loop
invariant-loop g l =
    (l.place.table_id ≡ l.fn.place.table_id)
    × (l.place.id ≡ l.fn.place.id)
    × (l.place.me ≡ (at_stage l.fn.place.me.0 (Waits l.ticket) l.fn.place.me.0.seen, []))
