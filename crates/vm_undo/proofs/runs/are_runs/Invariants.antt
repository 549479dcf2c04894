use Rattle.std.proofs.Common.{◌≡◌, drop}
use Rattle.vm_undo.specs.RunsTest.{are_runs, are_runs_behind}
use Rattle.vm_undo.proofs.runs.are_runs.Given as goal

abbrev pub invariant-loop-byte : goal.invariant-loop-byte
invariant-loop-byte l =
    are_runs_behind l.behind l.left (drop l.byte-index l.bytes) ≡ are_runs l.size l.bytes
