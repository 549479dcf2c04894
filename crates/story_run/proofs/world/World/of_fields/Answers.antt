use Rattle.std.proofs.Common.{◌≡◌, rules, subst, sym}
use Rattle.glk_dispatch.specs.Glk.{turn_begun}
use Rattle.glk_dispatch.specs.Valid.{WaitsFor}
use Rattle.glk_dispatch.specs.declared.called.Called.{Called}
use Rattle.glk_dispatch.specs.declared.glk.Glk.{Glk}
use Rattle.story_run.specs.World.{StandsAt}
use Rattle.story_run.proofs.ValidLemmas.{begun-stage}
use Rattle.story_run.proofs.WorldLemmas.{begun-again, stands-of}
use Rattle.story_run.proofs.world.World.of_fields.Goals as goal

pub hold-requires : goal.hold-requires
hold-requires c = record {
  machine = rw c.lend-image.ensures.value c.in-Some.ensures.kept;
  glk = subst (StandsAt c.in-Some.stage) (sym c.begin_turn.ensures)
      (begun-stage c.in-Some.stage c.args.fields.glk
      (stands-of c.in-Some.stage c.args.fields.glk c.requires
      (subst (λ (a : Called). WaitsFor a c.args.fields.glk) c.answer.ensures
      (c.waits_for.ensures.0 (search rules)))));
  begun =
      subst (λ (g : Glk). turn_begun g ≡ g) (sym c.begin_turn.ensures)
      (begun-again c.args.fields.glk);
}
