use Rattle.std.proofs.Common.{◌≡◌}
use Rattle.glk_dispatch.specs.Output as rows
use Rattle.glk_dispatch.proofs.output.spread.Given as goal

-- what is left to do gives what was to do
abbrev pub invariant-loop-left : goal.invariant-loop-left
invariant-loop-left l =
    rows.spread l.left l.glk l.memory l.stream l.code
    ≡ rows.spread l.steps l.fn.glk l.fn.memory l.from l.code

abbrev pub decreases-loop-left : goal.decreases-loop-left
decreases-loop-left l = l.left
