use Rattle.std.proofs.Common.{◌≡◌, IsUtf8, chars}
use Rattle.std.specs.Str.Iter.{chars_rest}
use Rattle.story_text.specs.Text.{are_allowed}
use Rattle.story_text.proofs.read.are_allowed.Given as goal

abbrev pub invariant-loop-code : goal.invariant-loop-code
invariant-loop-code l =
    IsUtf8 (chars_rest l.code-iterator)
    × (are_allowed (chars (chars_rest l.code-iterator)) ≡ are_allowed (chars l.fn.text))
