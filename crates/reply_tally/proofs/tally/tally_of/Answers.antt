use Rattle.reply_tally.proofs.TallyLemmas.{tallied_line, tallied_byte, tallied_all, is_tally}
use Rattle.reply_tally.proofs.tally.tally_of.Goals as goal
use Rattle.reply_tally.proofs.tally.tally_of.Goals.{then-byte-eq10, else-byte-eq10}

pub loop-i-preserved : goal.loop-i-preserved
loop-i-preserved c =
    elim c.if-byte-eq10.branch [
      | then-byte-eq10 w ↦
          let ends = w.if-byte-eq10.true in
          rw (w.tally-is, w.start-is)
          (tallied_line c.loop-i.invariant c.loop-i-test.true ends w.with-tally.ensures)
      | else-byte-eq10 w ↦
          rw (w.tally-is, w.start-is)
          (tallied_byte c.loop-i.invariant c.loop-i-test.true w.if-byte-eq10.false)
    ]

pub returns-clause-written : goal.returns-clause-written
returns-clause-written c = λ replies shows same.
    is_tally replies _ _ shows same (tallied_all c.loop-i.invariant c.loop-i-test.false)
