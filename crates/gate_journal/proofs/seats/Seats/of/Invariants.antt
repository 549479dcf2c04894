use Rattle.std.proofs.Common.{take}
use Rattle.gate_journal.specs.Seats.{CountsRows}
use Rattle.gate_journal.proofs.seats.Seats.of.Given as goal

abbrev pub invariant-loop-row : goal.invariant-loop-row
invariant-loop-row l = CountsRows (take l.row-index l.rows) l.seats.counts l.seats.uses
