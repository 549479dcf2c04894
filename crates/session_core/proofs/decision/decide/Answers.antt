use Rattle.std.proofs.Common.{sym, ◌∙◌}
use Rattle.session_core.proofs.AnswerLemmas.{accepted_has_room}
use Rattle.session_core.proofs.decision.decide.Goals as goal

pub returns-clause-within : goal.returns-clause-within
returns-clause-within c =
    accepted_has_room c.args.stories.now c.args.history.now _ c.args.request.now
    c.in_ok-accepted.accepted
    (sym c.in_ok-why.ensures ∙ c.in_default.is) c.in_ok-accepted.ensures
