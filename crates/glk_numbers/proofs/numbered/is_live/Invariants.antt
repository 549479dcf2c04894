use Rattle.std.proofs.Common.{◌≡◌, drop}
use Rattle.glk_numbers.specs.Numbered.{has}
use Rattle.glk_numbers.proofs.numbered.is_live.Given as goal

abbrev pub invariant-loop-item : goal.invariant-loop-item
invariant-loop-item g l = record {
  sofar : has g.T.Numbered.number_of l.items l.number
      ≡ has g.T.Numbered.number_of (drop l.item-index l.items) l.number;
}
