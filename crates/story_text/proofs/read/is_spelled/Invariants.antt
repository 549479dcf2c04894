use Rattle.std.proofs.Common.{◌≡◌, drop}
use Rattle.story_text.specs.Reading.{is_spelled}
use Rattle.story_text.proofs.read.is_spelled.Given as goal

abbrev pub invariant-loop-byte : goal.invariant-loop-byte
invariant-loop-byte l = is_spelled l.due (drop l.byte-index l.body) ≡ is_spelled 0 l.body
