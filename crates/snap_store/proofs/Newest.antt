-- Which area is the newest.
use Rattle.std.proofs.Common.{◌≡◌, ◌⊎◌, inl, inr, ◌≤◌, ◌∙◌, sym, ap}
use Rattle.std.proofs.Common.{ℕ, Bool, true, false, List, ◌++◌, refl}
use Rattle.std.specs.Prelude.{nat_lt, ◌&&◌, if◌then◌else◌, filter, Option, Some, None, nat_le, ◌==◌}
use Rattle.std.proofs.lemmas.Bool.{and_parts, eqb-true, leb-true}
use Rattle.snap_store.specs.declared.side.Side.{Side}
use Rattle.snap_store.specs.declared.side.Side.TheVariants.{A, B}
use Rattle.snap_store.specs.File.{Stored, area_listed, greatest, is_open_area}
use Rattle.snap_store.specs.File.{is_wanted_area, area_on_side, open_area, newest_area}
use Rattle.snap_store.proofs.FileLemmas.{none_some}

-- of two areas, each of which is wanted or not
abbrev pub choice : Bool → Bool → Stored → Stored → Option Stored
choice false false a b = None
choice true false a b = Some a
choice false true a b = Some b
choice true true a b = Some (if nat_lt a.count b.count then b else a)

pub choice_is :
    (open_a wanted_a open_b wanted_b : Bool) (a b : Stored) (test : Stored → Bool)
    → test a ≡ wanted_a → test b ≡ wanted_b
    → greatest (filter test (area_listed (if open_a then Some a else None)
    ++ area_listed (if open_b then Some b else None)))
    ≡ choice (open_a && wanted_a) (open_b && wanted_b) a b
choice_is false wanted_a false wanted_b a b test is_a is_b = refl
choice_is false wanted_a true true a b test is_a is_b = rw is_b refl
choice_is false wanted_a true false a b test is_a is_b = rw is_b refl
choice_is true true false wanted_b a b test is_a is_b = rw is_a refl
choice_is true false false wanted_b a b test is_a is_b = rw is_a refl
choice_is true true true true a b test is_a is_b = rw (is_a, is_b) refl
choice_is true true true false a b test is_a is_b = rw (is_a, is_b) refl
choice_is true false true true a b test is_a is_b = rw (is_a, is_b) refl
choice_is true false true false a b test is_a is_b = rw (is_a, is_b) refl

-- what is found is open and wanted
same_area : (x y : Stored) → Some x ≡ Some y → x ≡ y
same_area x y is = cc

one_of : (later : Bool) (a b x : Stored)
    → Some (if later then b else a) ≡ Some x → (a ≡ x) ⊎ (b ≡ x)
one_of true a b x is = inr (same_area b x is)
one_of false a b x is = inl (same_area a x is)

abbrev Among : Bool → Bool → Bool → Bool → Stored → Stored → Stored → Type 0
Among open_a wanted_a open_b wanted_b a b x =
    ((open_a ≡ true) × (wanted_a ≡ true) × (a ≡ x))
    ⊎ ((open_b ≡ true) × (wanted_b ≡ true) × (b ≡ x))

found_among :
    (open_a wanted_a open_b wanted_b : Bool) (a b x : Stored)
    → choice (open_a && wanted_a) (open_b && wanted_b) a b ≡ Some x
    → Among open_a wanted_a open_b wanted_b a b x
found_among true true true true a b x is = both (one_of (nat_lt a.count b.count) a b x is)
  where
    both : (a ≡ x) ⊎ (b ≡ x) → Among true true true true a b x
    both (inl here) = inl (refl, refl, here)
    both (inr there) = inr (refl, refl, there)
found_among true true true false a b x is = inl (refl, refl, same_area a x is)
found_among true true false wanted_b a b x is = inl (refl, refl, same_area a x is)
found_among true false true true a b x is = inr (refl, refl, same_area b x is)
found_among false wanted_a true true a b x is = inr (refl, refl, same_area b x is)
found_among open_a wanted_a open_b wanted_b a b x is = absurd (none_some x is)

wanted_is :
    (place most : ℕ) (x : Stored) → is_wanted_area place most x ≡ true
    → (x.place ≡ place) × (x.count ≤ most)
wanted_is place most x is =
    let parts = and_parts (x.place == place) (nat_le x.count most) is in
    (eqb-true x.place place parts.0, leb-true x.count most parts.1)

open_is :
    (side : Side) (file : List ℕ) (x : Stored)
    → is_open_area side file ≡ true → area_on_side side file ≡ x
    → open_area side file ≡ Some x
open_is side file x is same =
    ap (λ (b : Bool). if b then Some (area_on_side side file) else None) is
    ∙ ap (λ (y : Stored). Some y) same

pub newest_found :
    (place most : ℕ) (file : List ℕ) (x : Stored) → newest_area place most file ≡ Some x
    → (side : Side) × (open_area side file ≡ Some x) × (x.place ≡ place) × (x.count ≤ most)
newest_found place most file x is = from_side
    (found_among (is_open_area A file) (is_wanted_area place most (area_on_side A file))
    (is_open_area B file)
    (is_wanted_area place most (area_on_side B file)) (area_on_side A file) (area_on_side B file) x
    (sym (choice_is (is_open_area A file) (is_wanted_area place most (area_on_side A file))
    (is_open_area B file)
    (is_wanted_area place most (area_on_side B file)) (area_on_side A file) (area_on_side B file)
    (is_wanted_area place most) refl refl) ∙ is))
  where
    at_side :
        (side : Side) → is_open_area side file ≡ true
        → is_wanted_area place most (area_on_side side file) ≡ true → area_on_side side file ≡ x
        → (side : Side) × (open_area side file ≡ Some x) × (x.place ≡ place) × (x.count ≤ most)
    at_side side is_opened is_wanted_there same =
        let parts = wanted_is place most x
        (sym (ap (λ (y : Stored). is_wanted_area place most y) same) ∙ is_wanted_there) in
        (side, open_is side file x is_opened same, parts.0, parts.1)

    from_side :
        Among (is_open_area A file) (is_wanted_area place most (area_on_side A file))
        (is_open_area B file)
        (is_wanted_area place most (area_on_side B file)) (area_on_side A file)
        (area_on_side B file) x
        → (side : Side) × (open_area side file ≡ Some x) × (x.place ≡ place) × (x.count ≤ most)
    from_side (inl at) = at_side A at.0 at.1 at.2
    from_side (inr at) = at_side B at.0 at.1 at.2
