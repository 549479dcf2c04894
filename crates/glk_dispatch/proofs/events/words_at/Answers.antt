use Rattle.std.proofs.Common.{rules, arith, ◌≡◌, ◌<◌}
use Rattle.glk_dispatch.proofs.StepLemmas.{words_at-more, words_at-none}
use Rattle.glk_dispatch.proofs.events.words_at.Goals as goal

pub returns-in_err-word-clause-value : goal.returns-in_err-word-clause-value
returns-in_err-word-clause-value c =
    let h : 0 < c.loop-left.left = omega arith in
    rw (← c.loop-left.invariant.sofar, words_at-more) (search rules)

pub loop-left-preserved : goal.loop-left-preserved
loop-left-preserved c =
    let h : 0 < c.loop-left.left = omega arith in
    record {
      counted = search (rules, arith);
      sofar = rw (← c.loop-left.invariant.sofar, words_at-more c.loop-left.left) (search rules);
    }

pub returns-clause-value : goal.returns-clause-value
returns-clause-value c =
    let h : c.loop-left.left ≡ 0 = omega arith in
    rw (← c.loop-left.invariant.sofar, h) (words_at-none _ _ _)
