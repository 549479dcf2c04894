use Rattle.std.proofs.Common.{◌≡◌, ◌++◌, flat_map, take}
use Rattle.std.specs.Int.{w32, to_be_bytes}
use Rattle.story_make.proofs.echo.push_words.Given as goal

abbrev pub invariant-loop-word : goal.invariant-loop-word
invariant-loop-word l =
    l.out.items ≡ l.fn.out.items ++ flat_map (to_be_bytes w32) (take l.word-index l.words)
