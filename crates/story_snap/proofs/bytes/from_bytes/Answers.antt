use Rattle.std.proofs.Common.{◌≡◌, ◌∙◌, rules, subst, sym, true, false, List, ℕ, Some}
use Rattle.story_snap.specs.Bytes.{HasBytes}
use Rattle.story_snap.specs.Made.{world_made}
use Rattle.story_snap.proofs.WorldLemmas.{fields-of-bytes, made-is, same-bytes, over-image}
use Rattle.story_snap.proofs.bytes.from_bytes.Goals as goal

pub returns-in_default-clause-exact : goal.returns-in_default-clause-exact
returns-in_default-clause-exact c = λ w has.
    let same = fields-of-bytes c.args.story.now.image c.args.bytes.now w c.in_ok-fields.fields has
    c.in_ok-fields.ensures.found in
    let no : false ≡ true = rw c.in_default.is at (c.in_ok-world.ensures.found w has.world same) in
    absurd cc

pub returns-then-not-are_same-clause-exact : goal.returns-then-not-are_same-clause-exact
returns-then-not-are_same-clause-exact c = λ w has.
    let image = c.args.story.now.image in
    let f = c.in_ok-fields.fields in
    let same = fields-of-bytes image c.args.bytes.now w f has c.in_ok-fields.ensures.found in
    let made : world_made image f ≡ Some c.in-Some.world =
    rw c.in-Some.is at c.in_ok-world.ensures.value in
    let one = made-is image w c.in-Some.world f has.world same made in
    let again = same-bytes c.in_ok-again.again.items c.args.bytes.now image c.in-Some.world.image
    c.in-Some.world w c.in_ok-again.ensures.value has one in
    let no = c.are_same.ensures.found (c.as_slice.ensures.value ∙ again) in
    let refused = c.if-not-are_same.true in
    absurd cc

pub returns-clause-value : goal.returns-clause-value
returns-clause-value c =
    let image = c.args.story.now.image in
    let made : world_made image c.in_ok-fields.fields ≡ Some c.in-Some.world =
    rw c.in-Some.is at c.in_ok-world.ensures.value in
    let over = over-image image c.in_ok-fields.fields c.in-Some.world made in
    subst (λ (i : List ℕ). HasBytes i c.args.bytes.now c.in-Some.world) over
    (subst (λ (bytes : List ℕ). HasBytes c.in-Some.world.image bytes c.in-Some.world)
    (sym c.as_slice.ensures.value ∙ c.are_same.ensures.only (search rules))
    c.in_ok-again.ensures.value)
