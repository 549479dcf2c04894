use Rattle.std.proofs.Common.{◌≡◌, ◌++◌, map, take, drop}
use Rattle.host_world.specs.Sessions.{without_turn}
use Rattle.host_world.proofs.sessions.end_turns.Given as goal

abbrev pub invariant-loop-at : goal.invariant-loop-at
invariant-loop-at l = l.sessions.items ≡ map without_turn (take l.at l.fn.sessions.items)
    ++ drop l.at l.fn.sessions.items
