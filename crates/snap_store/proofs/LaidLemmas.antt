-- How writes change what stands in an image.
use Rattle.std.proofs.Common.{◌≡◌, ◌⊎◌, inl, inr, ℕ, ◌+◌, ◌^◌, ◌<◌, ◌≤◌, true, false, List, [], ◌∷◌}
use Rattle.std.proofs.Common.{length, get_or, refl, ◌∙◌, ap, arith}
use Rattle.std.specs.Prelude.{Option, Some, None}
use Rattle.disk_model.specs.Disk.{Torn, file_written}
use Rattle.disk_model.proofs.Torn.{torn_written, written_within}
use Rattle.snap_store.specs.declared.side.Side.{Side}
use Rattle.snap_store.specs.declared.side.Side.TheVariants.{A, B}
use Rattle.snap_store.specs.declared.slot.Slot.{Slot}
use Rattle.snap_store.specs.declared.slot.Slot.TheVariants.{Closed, Open, Unsure}
use Rattle.snap_store.specs.File.{Stored, gate_byte, gate_of, side_start, whole_area}
use Rattle.snap_store.specs.File.{is_whole, head_bytes}
use Rattle.snap_store.specs.Slots.{opposite_side, is_closed}
use Rattle.snap_store.specs.Images.{IsAreaOf, StandsOnSide, IsLaid, Spares, loosened}
use Rattle.snap_store.proofs.FileLemmas.{header_torn, header_long, gate_torn, whole_before}
use Rattle.snap_store.proofs.FileLemmas.{whole_behind, whole_is, whole_short_enough}
use Rattle.snap_store.proofs.AreaWritten.{length-head, whole_there}

-- the same gate and the same area
pub stands_same :
    (side : Side) (slot : Slot) (area : Option Stored) (c d : List ℕ)
    → gate_byte side c ≡ gate_byte side d → whole_area side c ≡ whole_area side d
    → StandsOnSide side slot area d → StandsOnSide side slot area c
stands_same side Closed area c d gate whole stands = gate ∙ stands
stands_same side Unsure area c d gate whole stands = whole ∙ stands
stands_same side (Open place count) area c d gate whole stands =
    (gate ∙ stands.0, whole ∙ stands.1, stands.2)

-- where nothing is known of the gate
pub stands_loosened :
    (side : Side) (slot : Slot) (area : Option Stored) (c : List ℕ)
    → StandsOnSide side slot area c → StandsOnSide side (loosened slot) area c
stands_loosened side Closed area c stands = stands
stands_loosened side Unsure area c stands = stands
stands_loosened side (Open place count) area c stands = stands.1

pub laid_loosened :
    (side : Side) (slot : Slot) (area : Option Stored) (beside : Slot)
    (beside_area : Option Stored) (c : List ℕ)
    → IsLaid side slot area beside beside_area c
    → IsLaid side (loosened slot) area beside beside_area c
laid_loosened side slot area beside beside_area c laid = record {
  header = laid.header;
  here = stands_loosened side slot area c laid.here;
  there = laid.there;
}

-- places of the two areas
gate_high : (side : Side) → 8 ≤ gate_of side
gate_high A = omega arith
gate_high B = omega arith

start_high : (side : Side) → 4096 ≤ side_start side
start_high A = omega arith
start_high B = omega arith

gate_low : (side : Side) → gate_of side + 1 ≤ 4096
gate_low A = omega arith
gate_low B = omega arith

gate_first : (side other_side : Side) → gate_of side + 1 ≤ side_start other_side
gate_first side other_side = omega (arith, gate_low side, start_high other_side)

gates_apart :
    (side : Side)
    → (gate_of (opposite_side side) + 1 ≤ gate_of side)
    ⊎ (gate_of side + 1 ≤ gate_of (opposite_side side))
gates_apart A = inr (omega arith)
gates_apart B = inl (omega arith)

module _ (side : Side) (area : Option Stored) (beside : Slot) (beside_area : Option Stored) where
  -- a write of the gate that a stop cuts short
  pub laid_gate_torn :
      (c d : List ℕ) → Torn (gate_of side) 1 d c
      → IsLaid side Unsure area beside beside_area d
      → IsLaid side Unsure area beside beside_area c
  laid_gate_torn c d torn laid = record {
    header = header_torn c d (gate_of side) 1 (gate_high side) torn laid.header;
    here = whole_before side c d (gate_of side) 1 (gate_first side side) torn ∙ laid.here;
    there = stands_same (opposite_side side) beside beside_area c d
        (gate_torn (opposite_side side) c d (gate_of side) 1 (gates_apart side) torn
        (omega (arith, header_long d laid.header, gate_low (opposite_side side))))
        (whole_before (opposite_side side) c d (gate_of side) 1
        (gate_first side (opposite_side side)) torn)
        laid.there;
  }

  gate_written : (d : List ℕ) (byte : ℕ)
      → gate_byte side (file_written d (gate_of side) (byte ∷ [])) ≡ byte
  unfolding gate_byte
  gate_written d byte =
      ap (λ (k : ℕ). get_or (file_written d (gate_of side) (byte ∷ [])) k 0) (omega arith)
      ∙ written_within d (gate_of side) (byte ∷ []) 0 (omega arith)

  -- the gate is closed
  pub laid_closed :
      (d : List ℕ) → IsLaid side Unsure area beside beside_area d
      → IsLaid side Closed area beside beside_area (file_written d (gate_of side) (0 ∷ []))
  laid_closed d laid =
      let kept = laid_gate_torn (file_written d (gate_of side) (0 ∷ [])) d
      (torn_written d (gate_of side) (0 ∷ [])) laid in
      record { header = kept.header; here = gate_written d 0; there = kept.there }

  -- the same, where the gate wasn't known to be closed
  pub laid_closing :
      (slot : Slot) (c d : List ℕ) → is_closed slot ≡ false → Torn (gate_of side) 1 d c
      → IsLaid side (loosened slot) area beside beside_area d
      → IsLaid side (loosened slot) area beside beside_area c
  laid_closing Closed c d open_gate torn laid = absurd (cc)
  laid_closing slot c d open_gate torn laid = laid_gate_torn c d torn laid

  pub laid_shut :
      (slot : Slot) (d : List ℕ) → is_closed slot ≡ false
      → IsLaid side (loosened slot) area beside beside_area d
      → IsLaid side Closed area beside beside_area (file_written d (gate_of side) (0 ∷ []))
  laid_shut Closed d open_gate laid = absurd (cc)
  laid_shut slot d open_gate laid = laid_closed d laid

  -- and where it was
  pub laid_was :
      (slot : Slot) (d : List ℕ) → is_closed slot ≡ true
      → IsLaid side slot area beside beside_area d
      → IsLaid side Closed area beside beside_area d
  laid_was Closed d shut laid = laid
  laid_was slot d shut laid = absurd (cc)

  pub laid_of_shut :
      (slot : Slot) (d : List ℕ) → is_closed slot ≡ true
      → IsLaid side Closed area beside beside_area d
      → IsLaid side (loosened slot) area beside beside_area d
  laid_of_shut Closed d shut laid = laid
  laid_of_shut slot d shut laid = absurd (cc)

  -- the area beside it, through a write of this one
  spared :
      (side : Side) (slot : Slot) (c d : List ℕ) (at n : ℕ)
      → Spares side slot → StandsOnSide (opposite_side side) slot beside_area d
      → side_start side ≤ at → at + n ≤ side_start side + 16 + 8388608
      → Torn at n d c → gate_byte (opposite_side side) c ≡ gate_byte (opposite_side side) d
      → StandsOnSide (opposite_side side) slot beside_area c
  spared A slot c d at n spares stands from to torn gate =
      stands_same B slot beside_area c d gate (whole_before B c d at n (omega arith) torn) stands
  spared B Closed c d at n spares stands from to torn gate = gate ∙ stands
  spared B Unsure c d at n spares stands from to torn gate = absurd spares
  spared B (Open place count) c d at n spares stands from to torn gate =
      stands_same A (Open place count) beside_area c d gate
      (whole_behind A c d at n whole
      (omega (arith, whole_short_enough A d whole)) torn) stands
    where
      is_some : (o : Option Stored)
          → IsAreaOf place count o → whole_area A d ≡ o
          → is_whole A d ≡ true
      is_some None is there = absurd is
      is_some (Some x) is there = whole_is A d x there

      whole : is_whole A d ≡ true
      whole = is_some beside_area stands.2 stands.1

  -- a write in the area that a stop cuts short
  pub laid_area_torn :
      (c d : List ℕ) (at n : ℕ)
      → Spares side beside
      → side_start side ≤ at → at + n ≤ side_start side + 16 + 8388608
      → Torn at n d c
      → IsLaid side Closed area beside beside_area d
      → IsLaid side Closed area beside beside_area c
  laid_area_torn c d at n spares from to torn laid = record {
    header = header_torn c d at n (omega (arith, start_high side)) torn laid.header;
    here = gate_torn side c d at n (inl (omega (arith, gate_first side side))) torn
        (omega (arith, header_long d laid.header, gate_low side)) ∙ laid.here;
    there = spared side beside c d at n spares laid.there from to torn
        (gate_torn (opposite_side side) c d at n
        (inl (omega (arith, gate_low (opposite_side side), start_high side))) torn
        (omega (arith, header_long d laid.header, gate_low (opposite_side side))));
  }

module _ (side : Side) (beside : Slot) (beside_area : Option Stored) where
  -- the area is written
  pub laid_filled :
      (area : Option Stored) (d : List ℕ) (place count : ℕ) (bytes : List ℕ)
      → place < 2 ^ 64 → count < 2 ^ 32 → length bytes ≤ 8388608 → Spares side beside
      → IsLaid side Closed area beside beside_area d
      → IsLaid side Unsure (Some (record { place = place; count = count; bytes = bytes }))
      beside beside_area
      (file_written (file_written d (side_start side) (head_bytes place count (length bytes)))
      (side_start side + 16) bytes)
  laid_filled area d place count bytes place_fits count_fits short spares laid =
      let head = head_bytes place count (length bytes) in
      let begun = file_written d (side_start side) head in
      let done = file_written begun (side_start side + 16) bytes in
      let first =
      laid_area_torn side area beside beside_area begun d (side_start side) (length head)
      spares (omega arith) (omega (arith, length-head place count (length bytes)))
      (torn_written d (side_start side) head) laid in
      let second = laid_area_torn side area beside beside_area done begun (side_start side + 16)
      (length bytes) spares (omega arith) (omega arith)
      (torn_written begun (side_start side + 16) bytes) first in
      record {
        header = second.header;
        here = whole_there side d place count bytes place_fits count_fits short;
        there = second.there;
      }

  -- the gate is opened
  pub laid_opened :
      (area : Stored) (d : List ℕ) → IsLaid side Unsure (Some area) beside beside_area d
      → IsLaid side (Open area.place area.count) (Some area) beside beside_area
      (file_written d (gate_of side) (1 ∷ []))
  laid_opened area d laid =
      let kept = laid_gate_torn side (Some area) beside beside_area
      (file_written d (gate_of side) (1 ∷ [])) d (torn_written d (gate_of side) (1 ∷ [])) laid in
      record {
        header = kept.header;
        here = (gate_written side (Some area) beside beside_area d 1, kept.here, (refl, refl));
        there = kept.there;
      }
