use Rattle.std.proofs.Common.{◌≡◌, ◌++◌, drop, map}
use Rattle.story_show.specs.Making.{run_part}
use Rattle.story_show.proofs.making.push_runs.Given as goal

-- the runs that are there and those that are left are all
abbrev pub invariant-loop-run : goal.invariant-loop-run
invariant-loop-run l =
    l.out.items ++ map (run_part l.id) (drop l.run-index l.runs) ≡ l.fn.out.items ++ map
    (run_part l.id) l.runs
