use Rattle.std.proofs.Common.{length}
use Rattle.journal_pack.proofs.KeptLemmas.{IsKept}
use Rattle.journal_pack.proofs.kept.live_among.Given as goal

abbrev pub invariant-loop-row : goal.invariant-loop-row
invariant-loop-row l =
    IsKept l.fn.rows.items l.rows.items l.kept.items l.later.met l.later.live

abbrev pub decreases-loop-row : goal.decreases-loop-row
decreases-loop-row l = length l.rows.items
