-- The newest area has each open one of its OPEN row behind it.
use Rattle.std.proofs.Common.{◌≡◌, ◌∙◌, ℕ, ◌≤◌, Bool, true, false, List, refl, ap, subst, arith}
use Rattle.std.specs.Prelude.{◌&&◌, nat_lt, if◌then◌else◌, Some}
use Rattle.std.proofs.lemmas.Bool.Decides.{nat_tests}
use Rattle.std.proofs.lemmas.Option.{cond_some}
use Rattle.snap_store.specs.declared.side.Side.{Side}
use Rattle.snap_store.specs.declared.side.Side.TheVariants.{A, B}
use Rattle.snap_store.specs.File.{Stored, area_on_side, is_open_area}
use Rattle.snap_store.specs.File.{is_wanted_area, newest_area, open_area}
use Rattle.snap_store.proofs.Newest.{choice, choice_is}

wanted : (place most : ℕ) (x : Stored) → x.place ≡ place → x.count ≤ most
    → is_wanted_area place most x ≡ true
wanted place most x same le = grind (arith, nat_tests)

-- it isn't older than one of the two
abbrev Finds : Bool → Bool → Stored → Stored → ℕ → Type 0
Finds left right a b least = (x : Stored) × (choice left right a b ≡ Some x) × (least ≤ x.count)

first : (right : Bool) (a b : Stored) → Finds true right a b a.count
first false a b = (a, refl, omega arith)
first true a b = of (nat_lt a.count b.count) refl
  where
    of : (t : Bool) → nat_lt a.count b.count ≡ t
        → (x : Stored)
        × (Some (if nat_lt a.count b.count then b else a) ≡ Some x)
        × (a.count ≤ x.count)
    of true is =
        (b, ap (λ (t : Bool). Some (if t then b else a)) is, grind (arith, nat_tests))
    of false is = (a, ap (λ (t : Bool). Some (if t then b else a)) is, omega arith)

second : (left : Bool) (a b : Stored) → Finds left true a b b.count
second false a b = (b, refl, omega arith)
second true a b = of (nat_lt a.count b.count) refl
  where
    of : (t : Bool) → nat_lt a.count b.count ≡ t
        → (x : Stored)
        × (Some (if nat_lt a.count b.count then b else a) ≡ Some x)
        × (b.count ≤ x.count)
    of true is = (b, ap (λ (t : Bool). Some (if t then b else a)) is, omega arith)
    of false is =
        (a, ap (λ (t : Bool). Some (if t then b else a)) is, grind (arith, nat_tests))

module _ (place most : ℕ) (file : List ℕ) where
  abbrev of_side : Side → Bool
  of_side side = is_open_area side file && is_wanted_area place most (area_on_side side file)

  newest_is : newest_area place most file
      ≡ choice (of_side A) (of_side B) (area_on_side A file) (area_on_side B file)
  newest_is =
      choice_is (is_open_area A file) (is_wanted_area place most (area_on_side A file))
      (is_open_area B file)
      (is_wanted_area place most (area_on_side B file)) (area_on_side A file) (area_on_side B file)
      (is_wanted_area place most) refl refl

  side_is : (side : Side) (area : Stored) → open_area side file ≡ Some area → area.place ≡ place
      → area.count ≤ most → (of_side side ≡ true) × (area_on_side side file ≡ area)
  side_is side area there same le =
      let parts = cond_some (is_open_area side file) (area_on_side side file) area there in
      let yes : is_wanted_area place most (area_on_side side file) ≡ true =
      ap (λ (x : Stored). is_wanted_area place most x) parts.1 ∙ wanted place most area same le in (
        ap (λ (b : Bool). b && is_wanted_area place most (area_on_side side file)) parts.0 ∙ yes,
        parts.1,
      )

  pub newest_since : (side : Side) (area : Stored) → open_area side file ≡ Some area
      → area.place ≡ place → area.count ≤ most
      → (x : Stored) × (newest_area place most file ≡ Some x) × (area.count ≤ x.count)
  newest_since A area there same le =
      let is = side_is A area there same le in
      let found = first (of_side B) (area_on_side A file) (area_on_side B file) in (
        found.0,
        newest_is
            ∙ ap (λ (b : Bool). choice b (of_side B) (area_on_side A file) (area_on_side B file))
            is.0
            ∙ found.1,
        subst (λ (x : Stored). x.count ≤ found.0.count) is.1 found.2,
      )
  newest_since B area there same le =
      let is = side_is B area there same le in
      let found = second (of_side A) (area_on_side A file) (area_on_side B file) in (
        found.0,
        newest_is
            ∙ ap (λ (b : Bool). choice (of_side A) b (area_on_side A file) (area_on_side B file))
            is.0
            ∙ found.1,
        subst (λ (x : Stored). x.count ≤ found.0.count) is.1 found.2,
      )
