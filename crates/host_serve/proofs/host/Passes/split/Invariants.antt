use Rattle.std.proofs.Common.{◌≡◌, vec_len, vec_capacity}
use Rattle.session_desk.specs.Shared.{desk_tag}
use Rattle.host_serve.proofs.SplitLemmas.{SplitsOff}
use Rattle.host_serve.proofs.host.Passes.split.Given as goal

abbrev pub invariant-loop-s : goal.invariant-loop-s
invariant-loop-s g l = record {
  done : SplitsOff desk_tag l.host.desks.items l.s l.fn.self.desks.items l.self.desks.items
      l.desks.items;
  room : (vec_len l.desks ≡ l.s) × (vec_capacity l.desks ≡ 64);
}
