use Rattle.session_core.proofs.world.turned.Given as goal

abbrev pub ghosts-turn_uncounted : goal.ghosts-turn_uncounted
ghosts-turn_uncounted a = record { name = a.blank.name; parts = a.blank.parts }
