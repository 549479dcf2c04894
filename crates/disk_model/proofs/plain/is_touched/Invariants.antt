use Rattle.std.proofs.Common.{◌≡◌, drop}
use Rattle.disk_model.specs.Plain.{is_touched}
use Rattle.disk_model.proofs.plain.is_touched.Given as goal

abbrev pub invariant-loop-range : goal.invariant-loop-range
invariant-loop-range l = is_touched l.place (drop l.range-index l.ranges) ≡ is_touched l.place
    l.ranges
