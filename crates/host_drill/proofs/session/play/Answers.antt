use Rattle.std.proofs.Common.{refl, ◌∙◌, arith}
use Rattle.host_drill.proofs.PlayLemmas.{played}
use Rattle.host_drill.proofs.session.play.Goals as goal

pub returns-clause-value : goal.returns-clause-value
returns-clause-value g c =
    played _ _ _ _ c.requires.drilled _ _ _ c.in_ok-answered.ensures.value c.args.number
    c.args.session 1000 c.requires.below c.ranges.number.fits
    (omega arith) c.in_ok-lines.ensures c.tally_of-tally.result
    (λ rs all e. c.tally_of-tally.ensures.written rs all (c.deref.ensures.value ∙ e))
    c.if-tally.false c.digest.result refl c.requires.fresh c.digest.ensures
