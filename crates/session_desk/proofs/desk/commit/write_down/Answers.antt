use Rattle.session_desk.proofs.desk.commit.write_down.Goals as goal

pub returns-in-Err-clause-ok : goal.returns-in-Err-clause-ok
returns-in-Err-clause-ok g c = tt
