use Rattle.std.proofs.Common.{rules, arith, ◌≡◌, ◌<◌}
use Rattle.glk_dispatch.proofs.StepLemmas.{words_cased-more, words_cased-none}
use Rattle.glk_dispatch.proofs.case.change_words.Goals as goal

pub returns-in_err-change_word : goal.returns-in_err-change_word
returns-in_err-change_word c =
    let h : 0 < c.loop-left.left = omega arith in
    rw (← c.loop-left.invariant, words_cased-more) (search rules)

pub loop-left-preserved : goal.loop-left-preserved
loop-left-preserved c =
    let h : 0 < c.loop-left.left = omega arith in
    rw (← c.loop-left.invariant, words_cased-more c.loop-left.left) (search rules)

pub returns : goal.returns
returns c =
    let h : c.loop-left.left ≡ 0 = omega arith in
    rw (← c.loop-left.invariant, h) (words_cased-none _ _ _ _)
