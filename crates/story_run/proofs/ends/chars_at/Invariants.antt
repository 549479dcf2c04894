use Rattle.std.proofs.Common.{◌≡◌}
use Rattle.story_run.specs.Show.{initial}
use Rattle.story_run.proofs.ends.chars_at.Given as goal

-- those before this place
abbrev pub invariant-loop-i : goal.invariant-loop-i
invariant-loop-i l = l.codes.items ≡ initial l.i l.unicode l.memory l.buf
