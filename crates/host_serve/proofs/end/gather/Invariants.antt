use Rattle.std.proofs.Common.{◌≡◌, ℕ, ◌≤◌, get_or, map, vec_capacity}
use Rattle.turn_cell.specs.Passes.{IsOf, IsOutside, tag_of}
use Rattle.turn_cell.specs.declared.pass.Pass.{Pass}
use Rattle.session_core.specs.declared.entry.Entry.{Entry}
use Rattle.session_desk.specs.Shared.{SharedState, desk_tag}
use Rattle.host_serve.specs.Gathering.{Gathers}
use Rattle.host_serve.specs.Holders.{holders, seens}
use Rattle.host_serve.proofs.end.gather.Given as goal

abbrev pub invariant-loop-s : goal.invariant-loop-s
invariant-loop-s g l = record {
  told : Gathers g.D.Disk l.s (holders l.fn.passes) (seens l.fn.passes)
      (map (tag_of desk_tag) l.fn.passes) l.fn.root l.root l.disks.items;
  root : IsOf l.journal l.root × IsOutside l.root;
  room : 64 ≤ vec_capacity l.disks;
  later : (t : ℕ) (p : Pass (SharedState g.row.D.Denot) Entry) → l.s ≤ t
      → get_or l.passes t p ≡ get_or l.fn.passes t p;
}
