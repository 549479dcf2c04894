use Rattle.std.proofs.Common.{sym, ◌∙◌}
use Rattle.session_core.proofs.AnswerLemmas.{turned_on-unwanted}
use Rattle.session_core.proofs.world.turn_on.Goals as goal

pub returns-in-Some-clause-value : goal.returns-in-Some-clause-value
returns-in-Some-clause-value g c =
    turned_on-unwanted c.args.world c.in-Some.input _ (sym c.in_ok-input.ensures ∙ c.in-Some.is)
    (sym c.wants.ensures.value ∙ c.if-wants.false)
