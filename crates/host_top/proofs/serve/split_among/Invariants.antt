use Rattle.std.proofs.Common.{◌≡◌, ◌∷◌, length, vec_capacity}
use Rattle.turn_cell.specs.History.{Each}
use Rattle.host_serve.specs.Holders.{holders, seens}
use Rattle.host_serve.specs.Hosts.{AreOf}
use Rattle.host_serve.specs.Joining.{HasNoRoot}
use Rattle.host_serve.specs.Splitting.{AreRoots}
use Rattle.host_top.specs.Rejoining.{AreAllHeld, HaveSeen, SplitsFrom}
use Rattle.host_top.proofs.serve.split_among.Given as goal

abbrev pub invariant-loop : goal.invariant-loop
invariant-loop g l = record {
  many : length l.passes.items ≡ l.counter;
  room : vec_capacity l.passes ≡ l.workers;
  each : Each (AreOf l.host) l.passes.items;
  no_root : Each HasNoRoot l.passes.items;
  begin : Each (HaveSeen (seens l.fn.roots.desks.items)) l.passes.items;
  kept : AreOf l.host l.roots;
  split : SplitsFrom l.fn.roots l.roots;
  held : AreAllHeld l.roots (l.roots ∷ l.passes.items);
  made : AreRoots l.counter (holders l.roots.desks.items);
}
