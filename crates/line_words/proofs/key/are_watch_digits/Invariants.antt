use Rattle.std.proofs.Common.{◌≡◌, drop}
use Rattle.line_words.specs.Field.{are_watch_digits}
use Rattle.line_words.proofs.key.are_watch_digits.Given as goal

abbrev pub invariant-loop-byte : goal.invariant-loop-byte
invariant-loop-byte l = are_watch_digits (drop l.byte-index l.word) ≡ are_watch_digits l.word
