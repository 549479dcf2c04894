use Rattle.std.proofs.Common.{◌≡◌, drop}
use Rattle.glk_numbers.specs.Numbered.{ascends}
use Rattle.glk_numbers.proofs.numbered.ascend.Given as goal

abbrev pub invariant-loop-item : goal.invariant-loop-item
invariant-loop-item g l = record {
  sofar : ascends g.T.Numbered.number_of l.low l.high l.items
      ≡ ascends g.T.Numbered.number_of l.before l.high (drop l.item-index l.items);
}
