use Rattle.std.proofs.Common.{◌∙◌, ℕ, List, length, arith, ap, sym}
use Rattle.vm_exec.proofs.DigitLemmas.{text_of_natural, text_of_negative}
use Rattle.vm_exec.proofs.number.places.Goals as goal

pub returns-then-value-lt2147483648 : goal.returns-then-value-lt2147483648
returns-then-value-lt2147483648 c = record {
  value =
      c.digits.ensures.value
      ∙ ap (λ (xs : List ℕ). length xs)
      (sym (text_of_natural c.args.value (omega (arith, c.if-value-lt2147483648.true))));
}

pub returns-else-value-lt2147483648 : goal.returns-else-value-lt2147483648
returns-else-value-lt2147483648 c =
    let low = c.if-value-lt2147483648.false in
    let fits = c.ranges.value.fits in
    let wrapped = c.wrapping_neg.ensures in
    let text =
    ap (λ (xs : List ℕ). length xs) (text_of_negative c.args.value c.wrapping_neg.result
    (omega (arith, low)) fits (omega (arith, wrapped, low, fits))) in
    let count = c.digits-else-value-lt2147483648.ensures.value in
    record { value = omega (arith, text, count) }
