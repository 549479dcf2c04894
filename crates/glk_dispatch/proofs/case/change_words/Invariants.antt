use Rattle.std.proofs.Common.{◌≡◌}
use Rattle.glk_dispatch.specs.Case as rows
use Rattle.glk_dispatch.proofs.case.change_words.Given as goal

-- what is left to do gives what was to do
abbrev pub invariant-loop-left : goal.invariant-loop-left
invariant-loop-left l =
    rows.words_cased l.left l.case l.glk l.memory l.at
    ≡ rows.words_cased l.fn.count l.case l.fn.glk l.fn.memory l.from

abbrev pub decreases-loop-left : goal.decreases-loop-left
decreases-loop-left l = l.left
