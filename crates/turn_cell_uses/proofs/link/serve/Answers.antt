use Rattle.std.proofs.Common.{rules, ◌∙◌, refl, arith}
use Rattle.std.proofs.lemmas.Grind.{common_steps}
use Rattle.turn_cell_uses.proofs.ServeLemmas.{serves_step}
use Rattle.turn_cell_uses.proofs.link.serve.Goals as goal

pub loop-text-preserved : goal.loop-text-preserved
loop-text-preserved g c = let i = c.loop-text.invariant in let t = c.turn-answer.ensures in record {
  cell = search rules;
  outside = search rules;
  same = (t.kept.2.0 ∙ i.same.0, t.kept.2.1 ∙ i.same.1, t.kept.2.2 ∙ i.same.2);
  made = t.kept.3 ∙ i.made;
  room = first_of (search rules, grind (arith, common_steps));
  serves =
      serves_step _ _ _ _ c.loop-text.text-index _ c.args.texts.now _ _ _ _ c.turn-answer.result
      _ i.same.1 i.same.0 (omega arith) refl (search rules) i.serves t.value;
}
