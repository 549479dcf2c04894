use Rattle.std.proofs.Common.{◌≡◌}
use Rattle.story_run.specs.Step.{running}
use Rattle.story_run.specs.Turn.{rest}
use Rattle.story_run.specs.World.{IsRunning}
use Rattle.story_run.proofs.turn.run.Given as goal

-- what is left to do gives what was to do, by a machine that runs over the image
abbrev pub invariant-loop-rest : goal.invariant-loop-rest
invariant-loop-rest l =
    (rest l.image l.left (running l.glk l.machine) ≡ rest l.image l.fn.budget
    (running l.fn.glk l.fn.machine))
    × (IsRunning l.image l.machine × (l.machine.random.seed ≡ l.fn.machine.random.seed))

abbrev pub decreases-loop-rest : goal.decreases-loop-rest
decreases-loop-rest l = l.left
