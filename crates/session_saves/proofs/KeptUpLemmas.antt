-- Snapshots that are kept up: at an OPEN, with an input more, and what they say of the last inputs.
use Rattle.std.proofs.Common.{◌≡◌, ◌<◌, ◌≤◌, ◌+◌, ◌*◌, ◌/◌, ◌%◌, ◌&&◌, ◌∙◌, ℕ, Bool, true, false}
use Rattle.std.proofs.Common.{not, inl, inr, refl, sym, ap, arith}
use Rattle.std.specs.Prelude.{Option, Some, None}
use Rattle.std.proofs.lemmas.Bool.{or_cases, or_right, cases_order}
use Rattle.std.proofs.lemmas.Bool.Decides.{nat_tests}
use Rattle.std.proofs.Math.Nat.{mul-mod_left}
use Rattle.snap_store.specs.Slots.{is_open_for, is_stored, with_slot}
use Rattle.snap_store.specs.declared.side.Side.{Side}
use Rattle.snap_store.specs.declared.side.Side.TheVariants.{A, B}
use Rattle.snap_store.specs.declared.slot.Slot.{Slot}
use Rattle.snap_store.specs.declared.slot.Slot.TheVariants.{Closed, Open, Unsure}
use Rattle.snap_store.specs.declared.slot.Slots.{Slots}
use Rattle.session_saves.specs.declared.missed.Cause.{Cause}
use Rattle.session_saves.specs.declared.missed.Cause.TheVariants.{NoMemory, TooLong, DiskFailed}
use Rattle.session_saves.specs.declared.missed.Cause.TheVariants.{NotMade}
use Rattle.session_saves.specs.declared.missed.Missed.{Missed}
use Rattle.session_saves.specs.declared.saves.Point.{Point}
use Rattle.session_saves.specs.Saves.{HasSince, IsMissCounted, IsKeptUp, due_in, falls_due, is_at}
use Rattle.session_saves.specs.Saves.{none_missed, one_more, with_cause}
use Rattle.session_saves.specs.Laws.{IsWithinSixteen, StaysKeptUp}

-- ---- a snapshot that is stored

open_for : (place count : ℕ) (slot : Slot) → is_open_for place count slot ≡ true
    → slot ≡ Open place count
open_for place count Closed e = absurd cc
open_for place count Unsure e = absurd cc
open_for place count (Open place' count') e =
    let p : place' ≡ place = grind (arith, nat_tests, e) in
    let n : count' ≡ count = grind (arith, nat_tests, e) in
    rw (p, n) refl

pub stored_since : (place count : ℕ) (slots : Slots) → is_stored place count slots ≡ true
    → HasSince place count slots
stored_since place count slots e =
    elim (or_cases (is_open_for place count slots.a) (is_open_for place count slots.b) e) [
      | inl a ↦ record {
        side = A;
        count = count;
        open_there =
            open_for place count slots.a a;
        since = omega arith;
      }
      | inr b ↦ record {
        side = B;
        count = count;
        open_there =
            open_for place count slots.b b;
        since = omega arith;
      }
    ]

-- it has each earlier one behind it
pub earlier_since : (place count least : ℕ) (slots : Slots) → least ≤ count
    → HasSince place count slots → HasSince place least slots
earlier_since place count least slots le has =
    record {
      side = has.side;
      count = has.count;
      open_there = has.open_there;
      since =
          omega (arith, le, has.since);
    }

-- ---- at an OPEN

at_first : (slots : Slots) (missed : Missed) (place count : ℕ) → count ≤ 16
    → IsKeptUp place count slots missed
at_first slots missed place count few clear due some before =
    absurd (omega (arith, few, some, before))

-- ---- behind an open area

behind_open : (slots : Slots) (missed : Missed) (place due count : ℕ)
    → HasSince place (due * 16) slots → count ≤ due * 16 + 16
    → IsKeptUp place count slots missed
behind_open slots missed place due count has few clear earlier some before =
    earlier_since place (due * 16) (earlier * 16) slots (omega (arith, few, before)) has

-- ---- with an input more

falls : (due count : ℕ) → 0 < due → due * 16 ≡ count → falls_due count ≡ true
falls due count some e =
    let rest : count % 16 ≡ 0 = ap (λ (n : ℕ). n % 16) (sym e) ∙ mul-mod_left due 16 in
    let more : 0 < count = omega (arith, some, e) in
    grind (arith, nat_tests, rest, more)

not_missed : (place count : ℕ) (last : Option Point) → last ≡ None → is_at place count last ≡ false
not_missed place count last e = rw e refl

left_stored : (falls stored missed : Bool) → (falls && (not stored && not missed)) ≡ false
    → falls ≡ true → missed ≡ false → stored ≡ true
left_stored true true missed e f m = refl
left_stored true false true e f m = absurd cc
left_stored true false false e f m = absurd cc
left_stored false stored missed e f m = absurd cc

not_due_stored : (slots : Slots) (last : Option Point) (place count : ℕ)
    → due_in slots last place count ≡ false
    → falls_due count ≡ true → last ≡ None → is_stored place count slots ≡ true
unfolding due_in
not_due_stored slots last place count shut falls none =
    left_stored (falls_due count) (is_stored place count slots) (is_at place count last) shut falls
    (not_missed place count last none)

goes_on : (slots : Slots) (missed : Missed) (last : Option Point) (place count : ℕ)
    → IsMissCounted missed last
    → due_in slots last place count ≡ false → IsKeptUp place count slots missed
    → IsKeptUp place (count + 1) slots missed
goes_on slots missed last place count counted shut kept clear due some before =
    elim (cases_order (due * 16) count) [
      | inl at ↦ earlier_since place count (due * 16) slots (omega (arith, at))
          (stored_since place count slots
          (not_due_stored slots last place count shut (falls due count some at)
          (counted clear)))
      | inr (inl below) ↦ kept clear due some below
      | inr (inr above) ↦ absurd (omega (arith, before, above))
    ]

pub stays_kept_up : StaysKeptUp
stays_kept_up = record { begins = at_first; resumes = behind_open; goes_on = goes_on }

-- ---- the last 16 inputs

pub is_within_sixteen : IsWithinSixteen
is_within_sixteen slots place least kept some =
    let due = (least + 15) / 16 in
    earlier_since place (due * 16) least slots (omega arith)
    (kept refl due (omega (arith, some)) (omega arith))

-- ---- a snapshot that was put

pub stored_with : (slots : Slots) (side : Side) (place count : ℕ)
    → is_stored place count (with_slot slots side (Open place count)) ≡ true
stored_with slots A place count = grind (arith, nat_tests)
stored_with slots B place count =
    or_right (is_open_for place count slots.a) _ (grind (arith, nat_tests))

not_due : (falls stored missed : Bool) → stored ≡ true
    → (falls && (not stored && not missed)) ≡ false
not_due true true missed e = refl
not_due false true missed e = refl
not_due falls false missed e = absurd cc

pub put_not_due : (slots : Slots) (last : Option Point) (place count : ℕ)
    → is_stored place count slots ≡ true → due_in slots last place count ≡ false
unfolding due_in
put_not_due slots last place count e =
    not_due (falls_due count) (is_stored place count slots) (is_at place count last) e

pub put_keeps_up : (slots : Slots) (missed : Missed) (place count : ℕ)
    → is_stored place count slots ≡ true → IsKeptUp place count slots missed
put_keeps_up slots missed place count stored clear due some before =
    earlier_since place count (due * 16) slots (omega (arith, before))
    (stored_since place count slots stored)

-- ---- a snapshot that was missed

missed_due : (falls stored missed : Bool) → missed ≡ true
    → (falls && (not stored && not missed)) ≡ false
missed_due true true true e = refl
missed_due true false true e = refl
missed_due false stored true e = refl
missed_due falls stored false e = absurd cc

here : (place count : ℕ) → is_at place count (Some (record { place = place; count = count })) ≡ true
here place count = grind (arith, nat_tests)

pub missed_not_due : (slots : Slots) (last : Option Point) (place count : ℕ)
    → last ≡ Some (record { place = place; count = count }) → due_in slots last place count ≡ false
unfolding due_in
missed_not_due slots last place count e =
    missed_due (falls_due count) (is_stored place count slots) (is_at place count last)
    (ap (λ (o : Option Point). is_at place count o) e ∙ here place count)
