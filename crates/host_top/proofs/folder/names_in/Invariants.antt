use Rattle.std.proofs.Common.{◌≡◌, ◌∷◌, map, string_bytes}
use Rattle.host_top.specs.Borrowed.{journal_in, snaps_below}
use Rattle.host_top.proofs.folder.names_in.Given as goal

abbrev pub invariant-loop-session : goal.invariant-loop-session
invariant-loop-session l =
    map string_bytes l.all.items ≡ journal_in l.folder ∷ snaps_below l.folder l.session
