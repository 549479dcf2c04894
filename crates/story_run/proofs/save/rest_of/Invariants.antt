use Rattle.std.proofs.Common.{◌≡◌, []}
use Rattle.story_run.specs.Saves as saves
use Rattle.story_run.proofs.save.rest_of.Given as goal

-- what is left to read gives what was to read
abbrev pub invariant-loop-left : goal.invariant-loop-left
invariant-loop-left l =
    saves.rest_of_stream l.left l.glk l.memory l.stream l.bytes.items
    ≡ saves.rest_of_stream 4294967295 l.fn.glk l.memory l.stream []

abbrev pub decreases-loop-left : goal.decreases-loop-left
decreases-loop-left l = l.left
