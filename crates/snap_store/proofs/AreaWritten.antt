-- An area that is written by two writes, its head and then its bytes, is whole.
use Rattle.std.proofs.Common.{◌≡◌, ℕ, ◌+◌, ◌^◌, ◌<◌, ◌≤◌, true, List, [], ◌++◌, length, get_or}
use Rattle.std.proofs.Common.{take, drop, refl, ◌∙◌, ap, arith}
use Rattle.std.specs.Prelude.{Some}
use Rattle.std.proofs.lemmas.List.{ext_get_or, length-take, length-drop, get_or-take, get_or-drop}
use Rattle.std.proofs.lemmas.List.{get_or-append_right}
use Rattle.std.proofs.lemmas.Bool.Decides.{nat_tests}
use Rattle.std.proofs.Math.Nat.{mod-eq_of_lt}
use Rattle.byteorder.specs.Endian.{big_from, big_bytes}
use Rattle.byteorder.specs.Numbers.{big_from-bytes, length-bytes_high_first}
use Rattle.disk_model.specs.Disk.{file_written}
use Rattle.disk_model.proofs.Torn.{written_below, written_within, length-written}
use Rattle.snap_store.specs.declared.side.Side.{Side}
use Rattle.snap_store.specs.File.{side_start, head_bytes, area_place, count_at, length_at}
use Rattle.snap_store.specs.File.{is_whole, area_on_side, whole_area}
use Rattle.snap_store.proofs.FileLemmas.{big_from_same}

pub length-head : (place count many : ℕ) → length (head_bytes place count many) ≡ 16
length-head place count many = refl

-- a number behind other bytes
big_from_behind :
    (n : ℕ) (front rest : List ℕ) (i : ℕ) → length front ≡ i
    → big_from i n (front ++ rest) ≡ big_from 0 n rest
big_from_behind n front rest i is = big_from_same n i 0 (front ++ rest) rest (λ k lt.
    get_or-append_right front rest i (i + k) 0 is (omega arith)
    ∙ ap (λ (j : ℕ). get_or rest j 0) (omega arith))

head_place :
    (place count many : ℕ) → place < 2 ^ 64
    → big_from 0 8 (head_bytes place count many) ≡ place
head_place place count many lt =
    big_from-bytes 8 place (big_bytes 4 count ++ big_bytes 4 many) ∙ mod-eq_of_lt lt

head_count :
    (place count many : ℕ) → count < 2 ^ 32
    → big_from 8 4 (head_bytes place count many) ≡ count
head_count place count many lt =
    big_from_behind 4 (big_bytes 8 place) (big_bytes 4 count ++ big_bytes 4 many) 8
    (length-bytes_high_first 8 place)
    ∙ big_from-bytes 4 count (big_bytes 4 many) ∙ mod-eq_of_lt lt

head_length :
    (place count many : ℕ) → many < 2 ^ 32
    → big_from 12 4 (head_bytes place count many) ≡ many
head_length place count many lt = big_from-bytes 4 many [] ∙ mod-eq_of_lt lt

module _ (side : Side) (d : List ℕ) (place count : ℕ) (bytes : List ℕ)
    (place_fits : place < 2 ^ 64) (count_fits : count < 2 ^ 32)
    (short : length bytes ≤ 8388608) where
  abbrev head : List ℕ
  head = head_bytes place count (length bytes)

  abbrev begun : List ℕ
  begun = file_written d (side_start side) head

  abbrev done : List ℕ
  done = file_written begun (side_start side + 16) bytes

  head_there : (i : ℕ) → i < 16 → get_or done (side_start side + i) 0 ≡ get_or head i 0
  head_there i lt =
      written_below begun (side_start side + 16) bytes (side_start side + i) (omega arith)
      ∙ written_within d (side_start side) head i
      (omega (arith, length-head place count (length bytes)))

  number_there :
      (n i : ℕ) → i + n ≤ 16 → big_from (side_start side + i) n done ≡ big_from i n head
  number_there n i le = big_from_same n (side_start side + i) i done head (λ k lt.
      ap (λ (j : ℕ). get_or done j 0) (omega arith) ∙ head_there (i + k) (omega arith))

  place_there : area_place side done ≡ place
  unfolding area_place
  place_there =
      ap (λ (at : ℕ). big_from at 8 done) (omega arith) ∙ number_there 8 0 (omega arith)
      ∙ head_place place count (length bytes) place_fits

  count_there : count_at side done ≡ count
  unfolding count_at
  count_there = number_there 4 8 (omega arith) ∙ head_count place count (length bytes) count_fits

  length_there : length_at side done ≡ length bytes
  unfolding length_at
  length_there =
      number_there 4 12 (omega arith) ∙ head_length place count (length bytes) (omega arith)

  long : side_start side + 16 + length bytes ≤ length done
  long = omega (arith, length-written begun (side_start side + 16) bytes)

  bytes_there : take (length bytes) (drop (side_start side + 16) done) ≡ bytes
  bytes_there =
      let size : length (take (length bytes) (drop (side_start side + 16) done)) ≡ length bytes =
      omega (
        arith,
        long,
        length-take (length bytes) (drop (side_start side + 16) done),
        length-drop (side_start side + 16) done,
      ) in
      ext_get_or 0 (take (length bytes) (drop (side_start side + 16) done)) bytes size (λ i lt.
      get_or-take (length bytes) (drop (side_start side + 16) done) i 0 (omega (arith, size))
      ∙ get_or-drop (side_start side + 16) done i 0
      ∙ written_within begun (side_start side + 16) bytes i (omega (arith, size)))

  is_whole_there : is_whole side done ≡ true
  unfolding is_whole
  is_whole_there =
      let is = length_there in
      let ends = long in
      grind (arith, nat_tests)

  area_there :
      area_on_side side done ≡ record { place = place; count = count; bytes = bytes }
  unfolding area_on_side
  area_there =
      let p = place_there in
      let n = count_there in
      let m = length_there in
      let b = bytes_there in
      rw (p, n, m, b) refl

  pub whole_there :
      whole_area side done ≡ Some (record { place = place; count = count; bytes = bytes })
  whole_there = rw (is_whole_there, area_there) refl
