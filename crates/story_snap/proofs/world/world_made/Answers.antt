use Rattle.std.proofs.Common.{IfOk, IfSome, List, Some, subst, ℕ, ◌∙◌, ◌≡◌}
use Rattle.story_snap.specs.Made as spec
use Rattle.story_snap.proofs.world.world_made.Goals as goal

pub returns-clause-value : goal.returns-clause-value
returns-clause-value c =
    let show : c.of-last.result ≡ c.args.fields.show = c.of-last.ensures ∙ c.into_vec.ensures in
    subst (λ (l : List ℕ). IfOk c.world_of_parts.result (λ made. IfSome made (λ world.
    spec.world_made c.args.story.now.image (record c.args.fields { show = l }) ≡ Some world)))
    show c.world_of_parts.ensures.value
