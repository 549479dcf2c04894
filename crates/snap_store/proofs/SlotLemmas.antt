-- Which area is the newest, which one is taken, and what is known of the other one.
use Rattle.std.proofs.Common.{◌≡◌, ◌∙◌, ℕ, Bool, true, false, refl, subst, arith}
use Rattle.std.specs.Prelude.{if◌then◌else◌, Option, Some, None}
use Rattle.snap_store.specs.declared.side.Side.{Side}
use Rattle.snap_store.specs.declared.side.Side.TheVariants.{A, B}
use Rattle.snap_store.specs.declared.slot.Slot.{Slot}
use Rattle.snap_store.specs.declared.slot.Slot.TheVariants.{Open}
use Rattle.snap_store.specs.declared.slot.Slots.{Slots}
use Rattle.snap_store.specs.Slots.{opposite_side, slot_of, is_before, newest_side}
use Rattle.snap_store.specs.Slots.{beside, taken_side}
use Rattle.snap_store.specs.Images.{Spares}

-- while area B is written area A is open
spares_of :
    (a b : Slot) → let slots : Slots = record { a = a; b = b } in
    Spares (taken_side slots) (slot_of slots (opposite_side (taken_side slots)))
spares_of (Open place count) (Open place' count') = by (is_before place count place' count')
  where
    by :
        (test : Bool) → Spares (opposite_side (if test then B else A))
        (slot_of (record { a = Open place count; b = Open place' count' })
        (opposite_side (opposite_side (if test then B else A))))
    by true = tt
    by false = tt
spares_of a (Open place count) = tt
spares_of a b = tt

pub spares_taken :
    (slots : Slots) → Spares (taken_side slots) (slot_of slots (opposite_side (taken_side slots)))
spares_taken slots = spares_of slots.a slots.b

-- the newest area is open
same_side : (x y : Side) → Some x ≡ Some y → x ≡ y
same_side x y is = cc

pub no_side : (side : Side) → None ≡ Some side → ⊥
no_side side is = grind arith

-- what is known of a side is that its gate is open
abbrev pub IsOpenSlot : Slot → Type 0
IsOpenSlot slot = (place : ℕ) × (count : ℕ) × (slot ≡ Open place count)

-- one side is the one that was found
that_side :
    (a b : Slot) (x side : Side) → Some x ≡ Some side
    → IsOpenSlot (slot_of (record { a = a; b = b }) x)
    → IsOpenSlot (slot_of (record { a = a; b = b }) side)
that_side a b x side is open_slot =
    subst (λ (s : Side). IsOpenSlot (slot_of (record { a = a; b = b }) s)) (same_side x side is)
    open_slot

newest_open_of :
    (a b : Slot) (side : Side) → newest_side (record { a = a; b = b }) ≡ Some side
    → IsOpenSlot (slot_of (record { a = a; b = b }) side)
newest_open_of (Open place count) (Open place' count') side is =
    later (is_before place count place' count') is
  where
    later :
        (test : Bool) → Some (if test then B else A) ≡ Some side
        → IsOpenSlot (slot_of (record { a = Open place count; b = Open place' count' }) side)
    later true is =
        that_side (Open place count) (Open place' count') B side is (place', count', refl)
    later false is =
        that_side (Open place count) (Open place' count') A side is (place, count, refl)
newest_open_of (Open place count) b side is =
    that_side (Open place count) b A side is (place, count, refl)
newest_open_of a (Open place count) side is =
    that_side a (Open place count) B side is (place, count, refl)
newest_open_of a b side is = absurd (no_side side is)

pub newest_open :
    (slots : Slots) (side : Side) → newest_side slots ≡ Some side
    → IsOpenSlot (slot_of slots side)
newest_open slots side is = newest_open_of slots.a slots.b side is

-- the newest side isn't the one that is taken
pub newest_is_beside :
    (slots : Slots) (side : Side) → newest_side slots ≡ Some side
    → opposite_side (taken_side slots) ≡ side
newest_is_beside slots side is = beside_is (newest_side slots) side is
  where
    twice : (side : Side) → opposite_side (opposite_side side) ≡ side
    twice A = refl
    twice B = refl

    beside_is :
        (found : Option Side) (side : Side)
        → found ≡ Some side → opposite_side (beside found) ≡ side
    beside_is None side is = absurd (no_side side is)
    beside_is (Some x) side is = twice x ∙ same_side x side is
