use Rattle.std.proofs.Common.{sym}
use Rattle.vm_exec.proofs.DigitLemmas.{digit_is}
use Rattle.vm_exec.proofs.number.digit.Goals as goal

pub returns : goal.returns
returns c = record {
  value =
      rw (c.power.ensures.value, c.digits-last.ensures.value, c.from.ensures)
      (sym (digit_is c.args.number c.args.place c.ranges.number.fits c.requires));
}
