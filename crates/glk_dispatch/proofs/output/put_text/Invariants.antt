use Rattle.std.proofs.Common.{◌≡◌}
use Rattle.glk_dispatch.specs.Output as rows
use Rattle.glk_dispatch.proofs.output.put_text.Given as goal

-- what is left to do gives what was to do
abbrev pub invariant-loop-left : goal.invariant-loop-left
invariant-loop-left l =
    rows.put_text l.left l.unicode l.glk l.memory l.stream l.at
    ≡ rows.put_text l.fn.most l.unicode l.fn.glk l.fn.memory l.stream l.from

abbrev pub decreases-loop-left : goal.decreases-loop-left
decreases-loop-left l = l.left
