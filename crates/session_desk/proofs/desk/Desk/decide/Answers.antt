use Rattle.session_desk.proofs.LawLemmas.{shows_fresh}
use Rattle.session_desk.proofs.SharedTurnLemmas.{turns-by-fresh, turns-by-quiet}
use Rattle.session_desk.proofs.TurnLemmas.{not_forgotten}
use Rattle.session_desk.proofs.desk.Desk.decide.Goals as goal

pub returns-in-Some-clause-turn : goal.returns-in-Some-clause-turn
returns-in-Some-clause-turn g c =
    turns-by-quiet g.D.Disk c.args.request.now c.args.by c.args.self.now
    c.unless_fresh.new.self c.in-Some.turned c.unless_fresh.ensures.rests
    c.in-Some.ensures.value

pub returns-in-None-clause-turn : goal.returns-in-None-clause-turn
returns-in-None-clause-turn g c =
    turns-by-fresh g.D.Disk c.args.request.now c.args.by c.args.self.now
    c.unless_fresh.new.self c.accept.new.self c.accept.result
    c.unless_fresh.ensures.rests c.in-None.ensures.value.1 c.accept.ensures.turn
    c.accept.ensures.journal
    (shows_fresh c.unless_fresh.new.self.desk c.args.request.now c.in-None.ensures.value.0)

pub returns-in-Some-clause-forgets : goal.returns-in-Some-clause-forgets
returns-in-Some-clause-forgets g c = λ e.
    absurd (not_forgotten c.in-Some.ensures.value.0 c.in-Some.turned c.in-Some.ensures.value.2 e)
