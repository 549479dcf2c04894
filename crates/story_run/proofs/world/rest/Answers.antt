use Rattle.std.proofs.Common.{◌≡◌, ◌∙◌, ap, subst, sym}
use Rattle.glk_dispatch.specs.Glk.{turn_begun}
use Rattle.glk_dispatch.specs.declared.glk.Glk.{Glk}
use Rattle.story_run.specs.Solo.{glk_settled}
use Rattle.story_run.specs.World.{StandsAt}
use Rattle.story_run.proofs.ValidLemmas.{begun-stage, settled-stage}
use Rattle.story_run.proofs.WorldLemmas.{begun-again}
use Rattle.story_run.proofs.world.rest.Goals as goal

pub hold-requires : goal.hold-requires
hold-requires c =
    let stage = c.args.stage in
    let glk = c.args.glk in
    let begun = sym (c.begin_turn.ensures ∙ ap turn_begun c.settle.ensures) in record {
      machine = c.requires.machine;
      glk = subst (StandsAt stage) begun
          (begun-stage stage (glk_settled stage glk) (settled-stage stage glk c.requires.glk));
      begun = subst (λ (g : Glk). turn_begun g ≡ g) begun (begun-again (glk_settled stage glk));
    }
