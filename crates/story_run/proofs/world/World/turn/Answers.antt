use Rattle.std.proofs.Common.{◌∙◌, ap, subst, sym}
use Rattle.story_run.specs.World.{IsStageOf, world_of_held}
use Rattle.story_run.specs.declared.world.Held.{Held}
use Rattle.story_run.proofs.WorldLemmas.{awaited, seed-of}
use Rattle.story_run.proofs.world.World.turn.Goals as goal

pub resume-requires-clause-awaited : goal.resume-requires-clause-awaited
resume-requires-clause-awaited g c =
    awaited (world_of_held c.into_inner-image.result) c.args.self c.args.input.now
    (ap world_of_held c.into_inner-image.ensures ∙ c.self.view_is) c.requires

pub rest-requires-clause-machine : goal.rest-requires-clause-machine
rest-requires-clause-machine g c =
    c.in_ok-stage-in-AtSelect.ensures.kept c.into_inner-image.result.seed
    (seed-of c.into_inner-image.result.image c.into_inner-image.result.seed
    c.into_inner-image.result.stage c.in-AtSelect.machine
    (subst (λ (x : Held). IsStageOf x.image x.seed x.stage)
    (sym c.into_inner-image.ensures) c.self.invariant.machine)
    c.in-AtSelect.is)
