use Rattle.std.proofs.Common.{◌≡◌, map}
use Rattle.std.specs.List.{range_with_len}
use Rattle.host_world.specs.Sessions.{found_session}
use Rattle.host_world.proofs.opening.found_sessions.Given as goal

abbrev pub invariant-loop-s : goal.invariant-loop-s
invariant-loop-s l =
    l.sessions.items ≡ map (found_session l.rows) (range_with_len 0 l.s)
