-- The test of an image says what an image is; what a write makes; one place more (own).
use Rattle.std.proofs.Common.{Bool, List, [], ap, arith, false, inl, inr, length, refl, suc, sym}
use Rattle.std.proofs.Common.{true, zero, ℕ, ◌+◌, ◌<◌, ◌^◌, ◌∙◌, ◌∷◌, ◌≡◌, ◌≤◌, ◌⊎◌}
use Rattle.std.proofs.lemmas.Bool.{and_from, and_parts, cases_eq, cases_lt}
use Rattle.std.proofs.lemmas.Bool.Decides.{nat_tests}
use Rattle.std.specs.Prelude.{if◌then◌else◌, nat_eq, nat_le, nat_lt, slice_index, ◌&&◌, ◌||◌}
use Rattle.disk_model.specs.Disk.{file_written}
use Rattle.disk_model.specs.DiskState.{DiskState, IsDiskImage, Ranges, Untouched, after_write}
use Rattle.disk_model.specs.DiskState.{greatest_end, with_range}
use Rattle.disk_model.specs.Plain.{agree, is_image, is_touched}
use Rattle.disk_model.proofs.StateLaws.{fits_test, if_fits}

same_byte : (x y : ℕ) → nat_eq x y ≡ true → x ≡ y
same_byte x y is = grind (arith, nat_tests)

-- a place that no range has
untouched_test : (i : ℕ) (ranges : List (ℕ × ℕ)) → Untouched i ranges → is_touched i ranges ≡ false
untouched_test i [] all = refl
untouched_test i (r ∷ ranges) all = elim all.0 [
  | inl before ↦ grind (arith, nat_tests, untouched_test i ranges all.1)
  | inr behind ↦ grind (arith, nat_tests, untouched_test i ranges all.1)
]

agree_at : (n i : ℕ) (p : DiskState) (c : List ℕ) → agree n p.synced p.ranges c ≡ true → i < n
    → Untouched i p.ranges → slice_index c i ≡ slice_index p.synced i
agree_at zero i p c is lt untouched = absurd (omega (arith, lt))
agree_at (suc n) i p c is lt untouched =
    let both =
    and_parts (is_touched n p.ranges || nat_eq (slice_index c n) (slice_index p.synced n))
    (agree n p.synced p.ranges c) is in
    elim (cases_eq i n) [
      | inl same ↦
          let test = rw (untouched_test n p.ranges (rw same at untouched)) at both.0 in
          rw same (same_byte (slice_index c n) (slice_index p.synced n) test)
      | inr other ↦ agree_at n i p c both.1 (omega (arith, lt, other)) untouched
    ]

-- what the test of an image says, it is
pub image_is : (p : DiskState) (c : List ℕ) → is_image p c ≡ true → IsDiskImage p c
image_is p c is =
    let outer =
    and_parts (nat_le (length p.synced) (length c) && nat_le (length c)
    (greatest_end p.ranges (length p.synced)))
    (agree (length p.synced) p.synced p.ranges c) is in
    let inner =
    and_parts (nat_le (length p.synced) (length c))
    (nat_le (length c) (greatest_end p.ranges (length p.synced))) outer.0 in
    let low = inner.0 in
    let high = inner.1 in
    record {
      no_shorter = grind (arith, nat_tests);
      no_longer = grind (arith, nat_tests);
      same = λ i lt untouched. agree_at (length p.synced) i p c outer.1 lt untouched;
    }

or_none : (a b : Bool) → (a || b) ≡ false → (a ≡ false) × (b ≡ false)
or_none true b is = absurd (cc)
or_none false b is = (refl, is)

out_of : (i : ℕ) (r : ℕ × ℕ) → (nat_le r.0 i && nat_lt i r.1) ≡ false → (i < r.0) ⊎ (r.1 ≤ i)
out_of i r is = elim (cases_lt i r.0) [
  | inl before ↦ inl before
  | inr from ↦ inr (grind (arith, nat_tests))
]

untouched_of : (i : ℕ) (ranges : List (ℕ × ℕ)) → is_touched i ranges ≡ false → Untouched i ranges
untouched_of i [] is = tt
untouched_of i (r ∷ ranges) is =
    let both = or_none (nat_le r.0 i && nat_lt i r.1) (is_touched i ranges) is in
    (out_of i r both.0, untouched_of i ranges both.1)

or_both : (a b : Bool) → (a ≡ false → b ≡ true) → (a || b) ≡ true
or_both true b then_ = refl
or_both false b then_ = then_ refl

agree_all : (n : ℕ) (p : DiskState) (c : List ℕ)
    → ((i : ℕ) → i < n → Untouched i p.ranges → slice_index c i ≡ slice_index p.synced i)
    → agree n p.synced p.ranges c ≡ true
agree_all zero p c each = refl
agree_all (suc n) p c each =
    and_from (is_touched n p.ranges || nat_eq (slice_index c n) (slice_index p.synced n))
    (agree n p.synced p.ranges c)
    (or_both (is_touched n p.ranges) (nat_eq (slice_index c n) (slice_index p.synced n))
    (λ quiet. let there =
    each n (omega arith) (untouched_of n p.ranges quiet) in grind (arith, nat_tests)))
    (agree_all n p c (λ i lt untouched. each i (omega (arith, lt)) untouched))

-- and takes every image
pub image_told : (p : DiskState) (c : List ℕ) → IsDiskImage p c → is_image p c ≡ true
image_told p c image =
    let low = image.no_shorter in
    let high = image.no_longer in
    and_from (nat_le (length p.synced) (length c) && nat_le (length c)
    (greatest_end p.ranges (length p.synced))) (agree (length p.synced) p.synced p.ranges c)
    (and_from (nat_le (length p.synced) (length c))
    (nat_le (length c) (greatest_end p.ranges (length p.synced))) (grind (arith, nat_tests))
    (grind (arith, nat_tests)))
    (agree_all (length p.synced) p c image.same)

pub agree_on :
    (n : ℕ) (synced : List ℕ) (ranges : Ranges) (c : List ℕ) → agree n synced ranges c ≡ true
    → (is_touched n ranges || nat_eq (slice_index c n) (slice_index synced n)) ≡ true
    → agree (suc n) synced ranges c ≡ true
agree_on n synced ranges c below here = ap (λ (b : Bool). b && agree n synced ranges c) here ∙ below

and_off : (a b : Bool) → b ≡ false → (a && b) ≡ false
and_off true b off = off
and_off false b off = refl

pub agree_off :
    (n m : ℕ) (synced : List ℕ) (ranges : Ranges) (c : List ℕ) → m < n
    → (is_touched m ranges || nat_eq (slice_index c m) (slice_index synced m)) ≡ false
    → agree n synced ranges c ≡ false
agree_off zero m synced ranges c lt off = absurd (omega (arith, lt))
agree_off (suc n) m synced ranges c lt off = elim (cases_eq m n) [
  | inl same ↦
      ap (λ (k : ℕ). (is_touched k ranges || nat_eq (slice_index c k)
      (slice_index synced k)) && agree n synced ranges c) (sym same)
      ∙ ap (λ (b : Bool). b && agree n synced ranges c) off
  | inr other ↦ and_off (is_touched n ranges || nat_eq (slice_index c n) (slice_index synced n))
      (agree n synced ranges c) (agree_off n m synced ranges c (omega (arith, lt, other)) off)
]

-- a write within the room puts its range, and one past it does nothing
pub write_fits : (good : Bool) (at : ℕ) (piece : List ℕ) (p : DiskState)
    → at + length piece ≤ 2 ^ 40
    → after_write good at piece p
    ≡ with_range p (if good then file_written p.seen at piece else p.seen) (at, at + length piece)
write_fits good at piece p fits =
    ap (λ (b : Bool). if_fits b good at piece p) (fits_test (at + length piece) fits)

pub write_past : (good : Bool) (at : ℕ) (piece : List ℕ) (p : DiskState)
    → 2 ^ 40 < at + length piece → after_write good at piece p ≡ p
write_past good at piece p past = ap (λ (b : Bool). if_fits b good at piece p) no
  where
    no : nat_le (at + length piece) (2 ^ 40) ≡ false
    no = grind (arith, nat_tests)
