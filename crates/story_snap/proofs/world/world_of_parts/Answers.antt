use Rattle.std.proofs.Common.{◌≡◌, ◌∙◌, refl, sym}
use Rattle.story_snap.specs.Fields.{all_fields}
use Rattle.story_snap.specs.Made.{glk_made}
use Rattle.story_snap.proofs.WorldLemmas.{glk-is-valid, made-of, stage-is-made, texts-are}
use Rattle.story_snap.proofs.WorldLemmas.{world-is-valid}
use Rattle.story_snap.proofs.world.world_of_parts.Goals as goal

-- no Glk state is made of the fields of no world
pub returns-in_default-clause-found : goal.returns-in_default-clause-found
returns-in_default-clause-found c = λ w is same.
    let image = c.args.story.now.image in
    let f = all_fields c.args.setup c.args.parts.now c.args.waiting c.args.glk_fields.now
    c.args.last in
    let found = rw (c.event_in-event.ensures, c.prompt_in-prompt.ensures)
    at c.in_ok-glk.ensures.found in
    rw c.in_default.is at (found (texts-are image w f is same) (glk-is-valid image w f is same))

pub returns-in_default-2-clause-found : goal.returns-in_default-2-clause-found
returns-in_default-2-clause-found c = λ w is same.
    let f = all_fields c.args.setup c.args.parts.now c.args.waiting c.args.glk_fields.now
    c.args.last in
    absurd (stage-is-made c.args.story.now.image w f c.in_ok-stage.field-0 is same
    c.in_ok-stage.ensures c.in_default-2.is)

pub returns-clause-found : goal.returns-clause-found
returns-clause-found c = λ w is same.
    let image = c.args.story.now.image in
    let f = all_fields c.args.setup c.args.parts.now c.args.waiting c.args.glk_fields.now
    c.args.last in
    let glk : c.in-Some.glk ≡ glk_made f =
    rw (c.event_in-event.ensures, c.prompt_in-prompt.ensures) at
    (rw c.in-Some.is at c.in_ok-glk.ensures.value) in
    let made = made-of image f c.in-Some-2.stage c.in-Some.glk c.args.last
    (sym c.in_ok-stage.ensures ∙ c.in-Some-2.is) glk refl in
    c.of_fields.ensures.found (world-is-valid image w _ f is same made)
