use Rattle.std.proofs.Common.{arith}
use Rattle.std.proofs.lemmas.Bool.Decides.{nat_tests}
use Rattle.vm_exec.proofs.DigitLemmas.{digits_are}
use Rattle.vm_exec.proofs.number.digits.Goals as goal

pub returns-in-0-to-9-clause-value : goal.returns-in-0-to-9-clause-value
returns-in-0-to-9-clause-value c =
    digits_are c.args.number 1 c.ranges.number.fits (grind (arith, nat_tests, c.in-0-to-9))

pub returns-in-10-to-99-clause-value : goal.returns-in-10-to-99-clause-value
returns-in-10-to-99-clause-value c =
    digits_are c.args.number 2 c.ranges.number.fits (grind (arith, nat_tests, c.in-10-to-99))

pub returns-in-100-to-999-clause-value : goal.returns-in-100-to-999-clause-value
returns-in-100-to-999-clause-value c =
    digits_are c.args.number 3 c.ranges.number.fits (grind (arith, nat_tests, c.in-100-to-999))

pub returns-in-1000-to-9999-clause-value : goal.returns-in-1000-to-9999-clause-value
returns-in-1000-to-9999-clause-value c =
    digits_are c.args.number 4 c.ranges.number.fits (grind (arith, nat_tests, c.in-1000-to-9999))

pub returns-in-10000-to-99999-clause-value : goal.returns-in-10000-to-99999-clause-value
returns-in-10000-to-99999-clause-value c =
    digits_are c.args.number 5 c.ranges.number.fits (grind (arith, nat_tests, c.in-10000-to-99999))

pub returns-in-100000-to-999999-clause-value : goal.returns-in-100000-to-999999-clause-value
returns-in-100000-to-999999-clause-value c =
    digits_are c.args.number 6 c.ranges.number.fits
    (grind (arith, nat_tests, c.in-100000-to-999999))

pub returns-in-1000000-to-9999999-clause-value : goal.returns-in-1000000-to-9999999-clause-value
returns-in-1000000-to-9999999-clause-value c =
    digits_are c.args.number 7 c.ranges.number.fits
    (grind (arith, nat_tests, c.in-1000000-to-9999999))

pub returns-in-10000000-to-99999999-clause-value : goal.returns-in-10000000-to-99999999-clause-value
returns-in-10000000-to-99999999-clause-value c =
    digits_are c.args.number 8 c.ranges.number.fits
    (grind (arith, nat_tests, c.in-10000000-to-99999999))

pub returns-in-100000000-to-999999999-clause-value :
    goal.returns-in-100000000-to-999999999-clause-value
returns-in-100000000-to-999999999-clause-value c =
    digits_are c.args.number 9 c.ranges.number.fits
    (grind (arith, nat_tests, c.in-100000000-to-999999999))

pub returns-in_default-clause-value : goal.returns-in_default-clause-value
returns-in_default-clause-value c =
    digits_are c.args.number 10 c.ranges.number.fits (grind (arith, nat_tests, c.in_default))
