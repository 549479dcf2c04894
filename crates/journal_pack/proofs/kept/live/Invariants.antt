use Rattle.std.proofs.Common.{◌≡◌, take}
use Rattle.journal_pack.proofs.kept.live.Given as goal

abbrev pub invariant-loop-at : goal.invariant-loop-at
invariant-loop-at l = l.copies.items ≡ take l.at l.rows
