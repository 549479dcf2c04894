use Rattle.std.proofs.Common.{◌≡◌, ◌+◌, [], length}
use Rattle.glk_dispatch.specs.Events as rows
use Rattle.glk_dispatch.proofs.events.words_at.Given as goal

-- what is left to read gives what was to read
abbrev pub invariant-loop-left : goal.invariant-loop-left
invariant-loop-left l = record {
  counted : length l.words.items + l.left ≡ l.fn.count;
  sofar : rows.array_words l.left l.memory l.at l.words.items
      ≡ rows.array_words l.fn.count l.memory l.from [];
}

abbrev pub decreases-loop-left : goal.decreases-loop-left
decreases-loop-left l = l.left
