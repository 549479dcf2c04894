use Rattle.std.proofs.Common.{inl, inr, refl, sym, ap, ◌∙◌}
use Rattle.session_desk.specs.Laws.{decision_by_desk}
use Rattle.session_desk.proofs.SharedTurnLemmas.{decides-any, decides-rested}
use Rattle.session_desk.proofs.TurnLemmas.{quiet}
use Rattle.session_desk.proofs.desk.Desk.unless_fresh.Goals as goal

pub returns-in_default-clause-value : goal.returns-in_default-clause-value
returns-in_default-clause-value g c = (
  _,
  decides-any g.D.Disk c.args.request.now c.args.self.now,
  inl c.out_of_memory.ensures,
)

pub returns-in-Refuse-clause-value : goal.returns-in-Refuse-clause-value
returns-in-Refuse-clause-value g c = (
  decision_by_desk c.prepare.new.self.desk c.args.request.now,
  decides-rested g.D.Disk c.args.request.now c.args.self.now
      c.prepare.new.self c.prepare.ensures.rests c.in-Ok.ensures.warm c.in-Ok.ensures.own,
  inr (
    c.refuses_alike.ensures c.prepare.new.self.desk c.args.request.now c.in-Refuse.why
        (sym c.in-Ok.ensures.value ∙ c.in-Refuse.is),
    refl,
  ),
)

pub returns-in-Ok-show-clause-value : goal.returns-in-Ok-show-clause-value
returns-in-Ok-show-clause-value g c = (
  decision_by_desk c.prepare.new.self.desk c.args.request.now,
  decides-rested g.D.Disk c.args.request.now c.args.self.now
      c.prepare.new.self c.prepare.ensures.rests c.in-Ok.ensures.warm c.in-Ok.ensures.own,
  inr (
    c.shows_again.ensures c.prepare.new.self.desk c.args.request.now
        (sym c.in-Ok.ensures.value ∙ c.in-Again.is)
        ∙ ap quiet (sym c.in-Ok-show.ensures),
    refl,
  ),
)

pub returns-in-Err-clause-value : goal.returns-in-Err-clause-value
returns-in-Err-clause-value g c = (
  _,
  decides-any g.D.Disk c.args.request.now c.args.self.now,
  inl c.out_of_memory-in-Err.ensures,
)

pub returns-in-Fresh-clause-value : goal.returns-in-Fresh-clause-value
returns-in-Fresh-clause-value g c = (
  sym c.in-Ok.ensures.value ∙ c.in-Fresh.is,
  decides-rested g.D.Disk c.args.request.now c.args.self.now
      c.prepare.new.self c.prepare.ensures.rests c.in-Ok.ensures.warm c.in-Ok.ensures.own,
)
