use Rattle.std.proofs.Common.{◌≡◌, ◌++◌, take, drop, map}
use Rattle.gate_journal.specs.Scan.{unnumbered}
use Rattle.gate_journal.proofs.look.clear_numbers.Given as goal

abbrev pub invariant-loop-row : goal.invariant-loop-row
invariant-loop-row l =
    l.rows ≡ map unnumbered (take l.row-index l.fn.rows) ++ drop l.row-index l.fn.rows
