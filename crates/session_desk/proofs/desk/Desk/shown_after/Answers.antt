use Rattle.session_desk.proofs.SharedTurnLemmas.{rests-emptied}
use Rattle.session_desk.proofs.desk.Desk.shown_after.Goals as goal

pub returns-in-Err-clause-rests : goal.returns-in-Err-clause-rests
returns-in-Err-clause-rests g c =
    rw c.forget.ensures
    (rests-emptied c.args.self.now c.run_and_show.new.self c.run_and_show.ensures.rests)
