-- The number of an event (own).
use Rattle.std.specs.Prelude.{ℕ}
use Rattle.turn_cell_uses.specs.declared.tally.Event.{Event}
use Rattle.turn_cell_uses.specs.declared.tally.Event.TheVariants.{Accepted, Faulted}

abbrev pub event_by : Event → ℕ
event_by (Accepted by text) = by
event_by (Faulted by from to) = by
