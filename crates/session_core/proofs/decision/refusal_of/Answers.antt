use Rattle.std.proofs.Common.{◌∙◌}
use Rattle.session_core.proofs.RefusalLemmas.{refusal_of-asked, refusal_of-unasked}
use Rattle.session_core.proofs.decision.refusal_of.Goals as goal

pub returns-then-not-asks_story : goal.returns-then-not-asks_story
returns-then-not-asks_story c =
    c.refusal_in.ensures ∙ refusal_of-unasked _ _ _ _ cc

pub returns : goal.returns
returns c =
    c.refusal_in-2.ensures
    ∙ refusal_of-asked _ _ _ _ _ (c.as_ref.ensures.value ∙ c.in_ok-now.ensures)
