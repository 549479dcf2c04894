use Rattle.session_desk.proofs.desk.Desk.unless_fresh.Given as goal

abbrev pub ghosts-prepare : goal.ghosts-prepare
ghosts-prepare g a = record { name = a.blank.name; parts = a.blank.parts }
