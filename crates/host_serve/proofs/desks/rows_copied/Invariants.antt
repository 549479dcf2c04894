use Rattle.std.proofs.Common.{◌≡◌, take}
use Rattle.gate_journal.specs.Log.{rows_of}
use Rattle.host_serve.proofs.desks.rows_copied.Given as goal

abbrev pub invariant-loop-at : goal.invariant-loop-at
invariant-loop-at g l = l.rows.items ≡ take l.at (rows_of l.journal.entries)
