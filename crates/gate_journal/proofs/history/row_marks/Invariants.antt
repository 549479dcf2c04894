use Rattle.std.proofs.Common.{◌≡◌, replicate}
use Rattle.gate_journal.specs.declared.mark.Mark.TheVariants as marks
use Rattle.gate_journal.proofs.history.row_marks.Given as goal

abbrev pub invariant-loop-k : goal.invariant-loop-k
invariant-loop-k l = l.made.items ≡ replicate l.k marks.Row
