use Rattle.std.proofs.Common.{◌≡◌}
use Rattle.std.specs.List.{flat_map, range_with_len}
use Rattle.host_drill.specs.Drill.{session_line}
use Rattle.host_drill.specs.Drilled.{AreFreshFrom, IsDrilled}
use Rattle.host_drill.proofs.text.drill_over.Given as goal

abbrev pub invariant-loop-session : goal.invariant-loop-session
invariant-loop-session g l = record {
  told : l.text.items ≡ flat_map (session_line l.number) (range_with_len 0 l.session);
  fresh : AreFreshFrom l.session l.passes;
  drilled : IsDrilled g.D.Disk l.host l.passes;
}
