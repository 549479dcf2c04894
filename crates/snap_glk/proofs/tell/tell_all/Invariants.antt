use Rattle.std.proofs.Common.{◌≡◌, true, map, take}
use Rattle.std.specs.List.{list_all}
use Rattle.snap_glk.proofs.tell.tell_all.Given as goal

abbrev pub invariant-loop-part : goal.invariant-loop-part
invariant-loop-part g l =
    (l.fields.items ≡ map g.T.Tell.told (take l.part-index l.parts))
    × (list_all g.T.Tell.is_kept l.fields.items ≡ true)
