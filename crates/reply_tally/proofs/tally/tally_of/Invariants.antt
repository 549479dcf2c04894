use Rattle.reply_tally.proofs.TallyLemmas.{Tallied}
use Rattle.reply_tally.proofs.tally.tally_of.Given as goal

abbrev pub invariant-loop-i : goal.invariant-loop-i
invariant-loop-i l = Tallied l.bytes l.tally l.start l.i
