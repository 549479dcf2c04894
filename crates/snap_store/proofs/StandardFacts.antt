-- Rows of the rules of a snapshot file, said of the definitions.
use Rattle.std.proofs.Common.{◌≡◌, ◌+◌, refl, [], ◌∷◌, false}
use Rattle.std.specs.Prelude.{Some}
use Rattle.snap_store.specs.declared.side.Side.TheVariants.{A, B}
use Rattle.snap_store.specs.declared.slot.Slot.TheVariants.{Closed, Open, Unsure}
use Rattle.snap_store.specs.declared.outline.TheConstants.{MAX_SNAPSHOT, PAGE}
use Rattle.snap_store.specs.File.{head_bytes, gate_of, side_start}
use Rattle.snap_store.specs.File.{has_header, snapshot_header, greatest}
use Rattle.snap_store.specs.Slots.{taken_side}

-- the first area of an OPEN row at place 16, after 16 inputs, with three bytes
pub first_area :
    head_bytes 16 16 3
    ≡ 0 ∷ 0 ∷ 0 ∷ 0 ∷ 0 ∷ 0 ∷ 0 ∷ 16 ∷ 0 ∷ 0 ∷ 0 ∷ 16 ∷ 0 ∷ 0 ∷ 0 ∷ 3 ∷ []
first_area = refl

-- the most bytes of a snapshot, and the least of a file with its header
pub limits : MAX_SNAPSHOT ∷ PAGE ∷ [] ≡ 8388608 ∷ 4096 ∷ []
limits = refl

-- area B starts where the longest area A ends, and the longest area B ends here
pub ends_of_areas :
    (side_start A + 16 + MAX_SNAPSHOT) ∷ (side_start B + 16 + MAX_SNAPSHOT) ∷ []
    ≡ side_start B ∷ 16781344 ∷ []
ends_of_areas = refl

pub gates : gate_of A ∷ gate_of B ∷ [] ≡ 10 ∷ 11 ∷ []
gates = refl

-- the header's bytes alone are no header
pub too_short : has_header snapshot_header ≡ false
unfolding has_header
too_short = refl

-- which area is taken: the one that isn't the newest, and A where none is open
pub taken_of_none : taken_side (record { a = Unsure; b = Closed }) ≡ A
taken_of_none = refl

pub taken_beside_one : taken_side (record { a = Open 16 16; b = Unsure }) ≡ B
taken_beside_one = refl

pub taken_by_count : taken_side (record { a = Open 16 16; b = Open 16 32 }) ≡ A
taken_by_count = refl

pub taken_by_place : taken_side (record { a = Open 90 16; b = Open 16 32 }) ≡ B
taken_by_place = refl

pub taken_at_equal_ones : taken_side (record { a = Open 16 16; b = Open 16 16 }) ≡ B
taken_at_equal_ones = refl

-- of equal counts the first area
pub first_of_equal :
    greatest (record { place = 16; count = 32; bytes = 1 ∷ [] }
    ∷ record { place = 16; count = 32; bytes = 2 ∷ [] } ∷ [])
    ≡ Some (record { place = 16; count = 32; bytes = 1 ∷ [] })
first_of_equal = refl
