use Rattle.std.proofs.Common.{◌≡◌, length}
use Rattle.host_world.specs.Whole.{are_images}
use Rattle.host_world.proofs.files.are_images.Given as goal

abbrev pub invariant-loop-files : goal.invariant-loop-files
invariant-loop-files l = are_images l.files l.rest ≡ are_images l.stores l.images

abbrev pub decreases-loop-files : goal.decreases-loop-files
decreases-loop-files l = length l.files
