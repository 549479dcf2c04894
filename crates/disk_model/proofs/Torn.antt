-- Laws of writes, whole or cut short: what stands where (own).
use Rattle.std.proofs.Common.{◌≡◌, ◌⊎◌, inl, inr, ℕ, ◌+◌, ◌-◌, ◌<◌, ◌≤◌, max, List, ◌++◌, length}
use Rattle.std.proofs.Common.{get_or, take, drop, replicate, refl, sym, ◌∙◌, ap, arith}
use Rattle.std.proofs.Common.{length-append}
use Rattle.std.proofs.lemmas.List.{length-take, length-drop, length-replicate, get_or-take}
use Rattle.std.proofs.lemmas.List.{get_or-drop, get_or_append_left, get_or-append_right}
use Rattle.std.proofs.lemmas.List.{get_or_past, get_or-replicate}
use Rattle.std.proofs.lemmas.Bool.{cases_lt}
use Rattle.disk_model.specs.Disk.{Holds, Torn, file_written}

-- bytes outside the range stay
pub holds_kept :
    {at n p : ℕ} {c d bytes : List ℕ}
    → Holds c p bytes → Torn at n c d → (p + length bytes ≤ at) ⊎ (at + n ≤ p)
    → Holds d p bytes
holds_kept {at = at} {p = p} {bytes = bytes} holds torn (inl before) = record {
  within = omega (arith, holds.within, torn.no_shorter);
  each = λ i lt.
      torn.below (p + i) (omega (arith, holds.within)) (omega arith) ∙ holds.each i lt;
}
holds_kept {at = at} {p = p} {bytes = bytes} holds torn (inr behind) = record {
  within = omega (arith, holds.within, torn.no_shorter);
  each = λ i lt.
      torn.above (p + i) (omega (arith, holds.within)) (omega arith) ∙ holds.each i lt;
}

-- a front of what stands there
pub holds_front : {p : ℕ} {c : List ℕ} (a b : List ℕ) → Holds c p (a ++ b) → Holds c p a
holds_front a b holds = record {
  within = omega (arith, holds.within, length-append a b);
  each = λ i lt.
      holds.each i (omega (arith, length-append a b)) ∙ get_or_append_left a b 0 i lt;
}

-- and its rest
pub holds_rest :
    {p q : ℕ} {c : List ℕ} (a b : List ℕ)
    → p + length a ≡ q → Holds c p (a ++ b) → Holds c q b
holds_rest {p = p} {q = q} {c = c} a b is holds = record {
  within = omega (arith, holds.within, length-append a b);
  each = λ i lt.
      ap (λ (k : ℕ). get_or c k 0) (omega arith)
      ∙ holds.each (length a + i) (omega (arith, length-append a b))
      ∙ get_or-append_right a b (length a) (length a + i) 0 refl (omega arith)
      ∙ ap (λ (k : ℕ). get_or b k 0) (omega arith);
}

-- and both of them
pub holds_both :
    {p q : ℕ} {c : List ℕ} (a b : List ℕ)
    → p + length a ≡ q → Holds c p a → Holds c q b → Holds c p (a ++ b)
holds_both {p = p} {q = q} {c = c} a b is first second = record {
  within = omega (arith, second.within, length-append a b);
  each = λ i lt. elim (cases_lt i (length a)) [
    | inr past ↦
        ap (λ (k : ℕ). get_or c k 0) (omega arith)
        ∙ second.each (i - length a) (omega (arith, length-append a b))
        ∙ sym (get_or-append_right a b (length a) i 0 refl past)
    | inl in_front ↦ first.each i in_front ∙ sym (get_or_append_left a b 0 i in_front)
  ];
}

-- the old bytes, and zeros up to the place
abbrev padded : List ℕ → ℕ → List ℕ
padded old at = old ++ replicate (at - length old) 0

-- what stands before the place
abbrev front : List ℕ → ℕ → List ℕ
front old at = take at (padded old at)

padded_same : (old : List ℕ) (at i : ℕ) → i < at
    → get_or (padded old at) i 0 ≡ get_or old i 0
padded_same old at i lt = elim (cases_lt i (length old)) [
  | inl there ↦ get_or_append_left old (replicate (at - length old) 0) 0 i there
  | inr past ↦
      get_or-append_right old (replicate (at - length old) 0) (length old) i 0 refl past
      ∙ get_or-replicate (at - length old) (i - length old) 0 0 (omega arith)
      ∙ sym (get_or_past old i 0 past)
]

length-padded : (old : List ℕ) (at : ℕ) → at ≤ length (padded old at)
length-padded old at =
    omega (
      arith,
      length-append old (replicate (at - length old) 0),
      length-replicate {A = ℕ} (at - length old) 0,
    )

length-front : (old : List ℕ) (at : ℕ) → length (front old at) ≡ at
length-front old at = omega (arith, length-take at (padded old at), length-padded old at)

length-start :
    (old : List ℕ) (at : ℕ) (bytes : List ℕ)
    → length (front old at ++ bytes) ≡ at + length bytes
length-start old at bytes = omega (arith, length-append (front old at) bytes, length-front old at)

pub length-written :
    (old : List ℕ) (at : ℕ) (bytes : List ℕ)
    → length (file_written old at bytes) ≡ max (length old) (at + length bytes)
length-written old at bytes =
    omega (
      arith,
      length-append (front old at ++ bytes) (drop (at + length bytes) old),
      length-start old at bytes,
      length-drop (at + length bytes) old,
    )

-- below the place stands what stood there
pub written_below :
    (old : List ℕ) (at : ℕ) (bytes : List ℕ) (i : ℕ)
    → i < at → get_or (file_written old at bytes) i 0 ≡ get_or old i 0
written_below old at bytes i lt =
    get_or_append_left (front old at ++ bytes) (drop (at + length bytes) old) 0 i
    (omega (arith, length-start old at bytes))
    ∙ get_or_append_left (front old at) bytes 0 i (omega (arith, length-front old at))
    ∙ get_or-take at (padded old at) i 0 lt
    ∙ padded_same old at i lt

-- at the place stands the piece
pub written_within :
    (old : List ℕ) (at : ℕ) (bytes : List ℕ) (i : ℕ)
    → i < length bytes → get_or (file_written old at bytes) (at + i) 0 ≡ get_or bytes i 0
written_within old at bytes i lt =
    get_or_append_left (front old at ++ bytes) (drop (at + length bytes) old) 0 (at + i)
    (omega (arith, length-start old at bytes))
    ∙ get_or-append_right (front old at) bytes at (at + i) 0 (length-front old at) (omega arith)
    ∙ ap (λ (k : ℕ). get_or bytes k 0) (omega arith)

-- above the piece stands what stood there
pub written_above :
    (old : List ℕ) (at : ℕ) (bytes : List ℕ) (i : ℕ)
    → at + length bytes ≤ i → get_or (file_written old at bytes) i 0 ≡ get_or old i 0
written_above old at bytes i le =
    get_or-append_right (front old at ++ bytes) (drop (at + length bytes) old)
    (at + length bytes) i 0 (length-start old at bytes) le
    ∙ get_or-drop (at + length bytes) old (i - (at + length bytes)) 0
    ∙ ap (λ (k : ℕ). get_or old k 0) (omega arith)

-- a write that succeeds is one of the torn ones
pub torn_written :
    (old : List ℕ) (at : ℕ) (bytes : List ℕ)
    → Torn at (length bytes) old (file_written old at bytes)
torn_written old at bytes = record {
  no_shorter = omega (arith, length-written old at bytes);
  no_longer = omega (arith, length-written old at bytes);
  below = λ i inside lt. written_below old at bytes i lt;
  above = λ i inside le. written_above old at bytes i le;
}

-- and the piece stands there
pub holds_written :
    (old : List ℕ) (at : ℕ) (bytes : List ℕ) → Holds (file_written old at bytes) at bytes
holds_written old at bytes = record {
  within = omega (arith, length-written old at bytes);
  each = written_within old at bytes;
}

-- nothing written is a write too
pub torn_same : (at n : ℕ) (c : List ℕ) → Torn at n c c
torn_same at n c = record {
  no_shorter = omega arith;
  no_longer = omega arith;
  below = λ i inside lt. refl;
  above = λ i inside le. refl;
}
