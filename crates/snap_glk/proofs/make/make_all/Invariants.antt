use Rattle.std.proofs.Common.{◌≡◌, map, take}
use Rattle.snap_glk.proofs.make.make_all.Given as goal

abbrev pub invariant-loop-field : goal.invariant-loop-field
invariant-loop-field g l =
    l.parts.items ≡ map (g.T.Make.made l.windows) (take l.field-index l.fields)
