use Rattle.std.proofs.Common.{◌≡◌, ◌≤◌, ◌-◌, replicate}
use Rattle.glk_dispatch.specs.Arguments.{arguments_taken}
use Rattle.glk_dispatch.proofs.arguments.take.Given as goal

-- what is left to take gives what was to take
abbrev pub invariant-loop-index : goal.invariant-loop-index
invariant-loop-index l = record {
  below : l.index ≤ l.given;
  sofar : arguments_taken (l.given - l.index) l.stack l.index l.args
      ≡ arguments_taken l.given l.fn.stack 0
      (replicate 5 0);
}

abbrev pub decreases-loop-index : goal.decreases-loop-index
decreases-loop-index l = l.given - l.index
