use Rattle.std.proofs.Common.{◌≡◌, length}
use Rattle.host_world.specs.Whole.{all_up}
use Rattle.host_world.proofs.files.all_up.Given as goal

abbrev pub invariant-loop-rest : goal.invariant-loop-rest
invariant-loop-rest l = all_up l.rest ≡ all_up l.stores

abbrev pub decreases-loop-rest : goal.decreases-loop-rest
decreases-loop-rest l = length l.rest
