use Rattle.std.proofs.Common.{◌≡◌, drop}
use Rattle.glk_numbers.specs.Numbered.{behind, place_of}
use Rattle.glk_numbers.proofs.numbered.place_of.Given as goal

abbrev pub invariant-loop-index : goal.invariant-loop-index
invariant-loop-index g l = record {
  sofar : place_of g.T.Numbered.number_of l.items l.number
      ≡ behind l.index (place_of g.T.Numbered.number_of (drop l.index l.items) l.number);
}
