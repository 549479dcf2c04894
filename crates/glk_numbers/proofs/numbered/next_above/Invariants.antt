use Rattle.std.proofs.Common.{◌≡◌, drop}
use Rattle.glk_numbers.specs.Numbered.{number_above}
use Rattle.glk_numbers.proofs.numbered.next_above.Given as goal

abbrev pub invariant-loop-item : goal.invariant-loop-item
invariant-loop-item g l = record {
  sofar : number_above g.T.Numbered.number_of l.items l.number
      ≡ number_above g.T.Numbered.number_of (drop l.item-index l.items) l.number;
}
