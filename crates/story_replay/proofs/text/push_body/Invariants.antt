use Rattle.story_replay.proofs.text.push_body.Given as goal

abbrev pub ghosts-push_shows_uncounted : goal.ghosts-push_shows_uncounted
ghosts-push_shows_uncounted a = record { name = a.blank.name; parts = a.blank.parts }
