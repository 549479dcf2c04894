use Rattle.std.proofs.Common.{◌≡◌, true}
use Rattle.disk_model.specs.Plain.{agree}
use Rattle.disk_model.proofs.plain.agrees.Given as goal

abbrev pub invariant-loop-place : goal.invariant-loop-place
invariant-loop-place l = agree l.place l.synced l.ranges l.image ≡ true
