use Rattle.std.proofs.Common.{◌≡◌, ◌∙◌, ◌-◌, ℕ, suc, List, length, arith, ap, sym}
use Rattle.vm_exec.proofs.DigitLemmas.{text_of_natural, text_of_negative, natural_character}
use Rattle.vm_exec.proofs.DigitLemmas.{minus_character, negative_character}
use Rattle.vm_exec.proofs.number.character.Goals as goal

pub digit-requires : goal.digit-requires
digit-requires c =
    let within = c.if-place-places.false in
    let places = c.places.ensures.value in
    let text =
    ap (λ (xs : List ℕ). length xs)
    (text_of_natural c.args.value (omega (arith, c.if-value-lt2147483648.true))) in
    omega (arith, within, places, text)

pub digit-requires-else-place-eq0 : goal.digit-requires-else-place-eq0
digit-requires-else-place-eq0 c =
    let within = c.if-place-places.false in
    let places = c.places.ensures.value in
    let low = c.if-value-lt2147483648.false in
    let fits = c.ranges.value.fits in
    let wrapped = c.wrapping_neg.ensures in
    let some = c.if-place-eq0.false in
    let text =
    ap (λ (xs : List ℕ). length xs) (text_of_negative c.args.value c.wrapping_neg.result
    (omega (arith, low)) fits (omega (arith, wrapped, low, fits))) in
    omega (arith, within, places, text, some)

pub returns-then-value-lt2147483648 : goal.returns-then-value-lt2147483648
returns-then-value-lt2147483648 c = record {
  value =
      c.digit.ensures.value
      ∙ sym
      (natural_character c.args.value c.args.place (omega (arith, c.if-value-lt2147483648.true)));
}

pub returns-then-place-eq0 : goal.returns-then-place-eq0
returns-then-place-eq0 c = record {
  value =
      c.from.ensures
      ∙ minus_character c.args.value c.args.place
      (omega (arith, c.if-value-lt2147483648.false)) c.ranges.value.fits c.if-place-eq0.true;
}

pub returns-else-place-eq0 : goal.returns-else-place-eq0
returns-else-place-eq0 c =
    let low = c.if-value-lt2147483648.false in
    let fits = c.ranges.value.fits in
    let wrapped = c.wrapping_neg.ensures in
    let some = c.if-place-eq0.false in
    record {
      value =
          c.digit-else-place-eq0.ensures.value
          ∙ sym (negative_character c.args.value c.wrapping_neg.result c.args.place
          (c.args.place - 1) (omega (arith, low)) fits (omega (arith, wrapped, low, fits))
          (let next : c.args.place ≡ suc (c.args.place - 1) = omega (arith, some) in next));
    }
