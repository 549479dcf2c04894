use Rattle.std.proofs.Common.{take, arith, refl, ◌∙◌}
use Rattle.std.proofs.lemmas.Grind.{common_steps}
use Rattle.line_talk.proofs.WritingLemmas.{upto_none, upto_more}
use Rattle.line_talk.proofs.write.write_all.Goals as goal

pub loop-rest-init : goal.loop-rest-init
loop-rest-init g c = (upto_none _ _, refl)

pub loop-rest-preserved : goal.loop-rest-preserved
loop-rest-preserved g c = (
  upto_more c.loop-rest.invariant.0 (take c.in-Took.count c.loop-rest.rest.now) _
      (grind (arith, common_steps, c.split_at.ensures.back)) c.in-Took.ensures.value,
  c.in-Took.ensures.beside ∙ c.loop-rest.invariant.1,
)
