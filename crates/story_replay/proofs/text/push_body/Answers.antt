use Rattle.std.proofs.Common.{sym, ◌∙◌}
use Rattle.story_replay.proofs.TextLemmas.{extended, other_body}
use Rattle.story_replay.proofs.text.push_body.Goals as goal

pub returns-then-is_other_story : goal.returns-then-is_other_story
returns-then-is_other_story c =
    let other =
    sym (rw c.as_slice.ensures at c.is_other_story.ensures) ∙ c.if-is_other_story.true in
    extended c.extend_from_slice.result _ _ _
    (rw (c.deref.ensures.value ∙ c.in_ok-line.ensures
    ∙ other_body c.args.stories.now c.args.game.now other) at c.extend_from_slice.ensures.items)
