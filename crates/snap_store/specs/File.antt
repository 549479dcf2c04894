-- A snapshot file as bytes (own: docs/FORMATS.md, "Snapshot files").
use Rattle.std.specs.Prelude.{◌≡◌, ℕ, ◌+◌, Bool, ◌&&◌, not, ◌==◌, nat_eq, nat_le, nat_lt}
use Rattle.std.specs.Prelude.{if◌then◌else◌, List, [], ◌∷◌, ◌++◌, length, take, drop, replicate}
use Rattle.std.specs.Prelude.{slice_index, filter, Option, Some, None, option_map}
use Rattle.std.specs.List.{starts_with}
use Rattle.byteorder.specs.Endian.{big_from, big_bytes}
use Rattle.snap_store.specs.declared.side.Side.{Side}
use Rattle.snap_store.specs.declared.side.Side.TheVariants.{A, B}
use Rattle.snap_store.specs.declared.outline.Head.{Head}
use Rattle.snap_store.specs.declared.outline.TheConstants.{MAX_SNAPSHOT, PAGE}
use Rattle.snap_store.specs.declared.side.TheConstants.{GATE_A, GATE_B}
use Rattle.snap_store.specs.declared.area.Area.{Area}

-- the eight bytes with which it begins
abbrev pub snapshot_header : List ℕ
snapshot_header = 83 ∷ 84 ∷ 72 ∷ 83 ∷ 0 ∷ 0 ∷ 0 ∷ 1 ∷ []

-- a file with both areas closed: the header, and zeros up to 4,096 bytes
unfoldable pub empty_snapshot_file : List ℕ
empty_snapshot_file = snapshot_header ++ replicate 4088 0

-- the place of an area's gate
abbrev pub gate_of : Side → ℕ
gate_of A = GATE_A
gate_of B = GATE_B

-- the place where an area starts
abbrev pub side_start : Side → ℕ
side_start A = 4096
side_start B = 8392720

-- An area: the place of its OPEN row's gate in the journal, the count of inputs applied, and the
-- bytes of the snapshot.
pub record Stored : Type 0 where
  pub place : ℕ
  pub count : ℕ
  pub bytes : List ℕ

-- the area with these fields
abbrev pub area_with : ℕ → ℕ → List ℕ → Stored
area_with place count bytes = record { place = place; count = count; bytes = bytes }

-- the sixteen bytes with which an area starts: its place, its count and how many bytes follow
abbrev pub head_bytes : ℕ → ℕ → ℕ → List ℕ
head_bytes place count length = big_bytes 8 place ++ (big_bytes 4 count ++ big_bytes 4 length)

-- the file begins with the header's bytes, and has at least 4,096
unfoldable pub has_header : List ℕ → Bool
has_header file = starts_with nat_eq file snapshot_header && nat_le PAGE (length file)

-- an area's gate byte
unfoldable pub gate_byte : Side → List ℕ → ℕ
gate_byte side file = slice_index file (gate_of side)

-- the three numbers with which an area starts, of 8, 4 and 4 bytes, the highest byte first
unfoldable pub area_place : Side → List ℕ → ℕ
area_place side file = big_from (side_start side) 8 file

unfoldable pub count_at : Side → List ℕ → ℕ
count_at side file = big_from (side_start side + 8) 4 file

unfoldable pub length_at : Side → List ℕ → ℕ
length_at side file = big_from (side_start side + 12) 4 file

abbrev pub area_head : Side → List ℕ → Head
area_head side file = record {
  place = area_place side file;
  count = count_at side file;
  length = length_at side file;
}

-- the length is at most 8,388,608, and the area ends inside the file
unfoldable pub is_whole : Side → List ℕ → Bool
is_whole side file =
    nat_le (length_at side file) MAX_SNAPSHOT
    && nat_le (side_start side + 16 + length_at side file) (length file)

-- what stands there as an area
unfoldable pub area_on_side : Side → List ℕ → Stored
area_on_side side file = record {
  place = area_place side file;
  count = count_at side file;
  bytes = take (length_at side file) (drop (side_start side + 16) file);
}

-- the area, where it is whole, whatever its gate
abbrev pub whole_area : Side → List ℕ → Option Stored
whole_area side file = if is_whole side file then Some (area_on_side side file) else None

-- the area is open: the file has its header, the gate is 1, the area is whole
abbrev pub is_open_area : Side → List ℕ → Bool
is_open_area side file = has_header file && (gate_byte side file == 1) && is_whole side file

-- the area may open: the same, but the gate isn't 0
abbrev pub may_open : Side → List ℕ → Bool
may_open side file = has_header file && not (gate_byte side file == 0) && is_whole side file

-- the area, where it is open
abbrev pub open_area : Side → List ℕ → Option Stored
open_area side file = if is_open_area side file then Some (area_on_side side file) else None

-- the area, where it may open
abbrev pub openable_area : Side → List ℕ → Option Stored
openable_area side file = if may_open side file then Some (area_on_side side file) else None

-- the open areas, A before B
abbrev pub area_listed : Option Stored → List Stored
area_listed None = []
area_listed (Some area) = area ∷ []

abbrev pub open_areas : List ℕ → List Stored
open_areas file = area_listed (open_area A file) ++ area_listed (open_area B file)

-- it is of this OPEN row, and its count isn't above `most`
abbrev pub is_wanted_area : ℕ → ℕ → Stored → Bool
is_wanted_area place most area = (area.place == place) && nat_le area.count most

-- the first of those with the greatest count
abbrev pub greatest_from : Stored → List Stored → Stored
greatest_from best [] = best
greatest_from best (area ∷ areas) =
    greatest_from (if nat_lt best.count area.count then area else best) areas

abbrev pub greatest : List Stored → Option Stored
greatest [] = None
greatest (area ∷ areas) = Some (greatest_from area areas)

-- the newest open area of an OPEN row with a count of at most `most`; area A at equal counts
abbrev pub newest_area : ℕ → ℕ → List ℕ → Option Stored
newest_area place most file = greatest (filter (is_wanted_area place most) (open_areas file))

-- what is given of an area
abbrev pub area_given : Option Stored → Option Area
area_given area = option_map (λ x. record { count = x.count; bytes = x.bytes }) area

-- ---- a law

-- no area is open, and none may open
pub record HasNoArea (file : List ℕ) : Type 0 where
  pub opened : open_areas file ≡ []
  pub openable : (side : Side) → openable_area side file ≡ None

-- so it is with each file of before, whose gates stood at 8 and 9, and whose bytes 10 and 11 are 0
abbrev pub KeepsAreasOfBeforeClosed : Type 0
KeepsAreasOfBeforeClosed =
    (file : List ℕ) → slice_index file 10 ≡ 0 → slice_index file 11 ≡ 0 → HasNoArea file
