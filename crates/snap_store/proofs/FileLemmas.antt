-- What stands in a file that agrees with another one.
use Rattle.std.proofs.Common.{◌≡◌, ◌⊎◌, inl, inr, ℕ, zero, suc, ◌+◌, ◌*◌, ◌^◌, ◌<◌, ◌≤◌, Bool, true}
use Rattle.std.proofs.Common.{false, List, length, get_or, take, drop, refl, sym, ◌∙◌, ap, arith}
use Rattle.std.specs.Prelude.{nat_eq, nat_le, if◌then◌else◌, Some, None}
use Rattle.std.specs.List.{starts_with}
use lib.Pointwise.{pointwise}
use Rattle.std.proofs.lemmas.List.{ext_get_or, length-take, length-drop, get_or-take, get_or-drop}
use Rattle.std.proofs.lemmas.List.{get_or_past}
use Rattle.std.proofs.lemmas.Bool.{cases_lt, cases_Bool}
use Rattle.std.proofs.lemmas.Bool.Decides.{nat_tests}
use Rattle.byteorder.specs.Endian.{big_from}
use Rattle.disk_model.specs.Disk.{Torn, ReadsFile}
use Rattle.snap_store.specs.declared.side.Side.{Side}
use Rattle.snap_store.specs.File.{Stored, snapshot_header, gate_of, side_start}
use Rattle.snap_store.specs.File.{has_header, gate_byte, area_place, count_at}
use Rattle.snap_store.specs.File.{length_at, is_whole, area_on_side, whole_area}

-- the same elements at the front
pub take_same :
    (n : ℕ) (xs ys : List ℕ) → n ≤ length xs → n ≤ length ys
    → ((i : ℕ) → i < n → get_or xs i 0 ≡ get_or ys i 0)
    → take n xs ≡ take n ys
take_same n xs ys long_x long_y same =
    ext_get_or 0 (take n xs) (take n ys) (omega (arith, length-take n xs, length-take n ys))
    (λ i lt.
    get_or-take n xs i 0 (omega (arith, length-take n xs))
    ∙ same i (omega (arith, length-take n xs))
    ∙ sym (get_or-take n ys i 0 (omega (arith, length-take n xs))))

-- the same elements behind a place
pub drop_same :
    (at : ℕ) (xs ys : List ℕ) → length xs ≡ length ys
    → ((i : ℕ) → at ≤ i → get_or xs i 0 ≡ get_or ys i 0)
    → drop at xs ≡ drop at ys
drop_same at xs ys long same =
    ext_get_or 0 (drop at xs) (drop at ys) (omega (arith, length-drop at xs, length-drop at ys))
    (λ i lt.
    get_or-drop at xs i 0 ∙ same (at + i) (omega arith) ∙ sym (get_or-drop at ys i 0))

-- the same bytes are the same number
pub big_from_same :
    (n i j : ℕ) (xs ys : List ℕ)
    → ((k : ℕ) → k < n → get_or xs (i + k) 0 ≡ get_or ys (j + k) 0)
    → big_from i n xs ≡ big_from j n ys
big_from_same zero i j xs ys same = refl
big_from_same (suc n) i j xs ys same =
    let first : get_or xs i 0 ≡ get_or ys j 0 =
    ap (λ (k : ℕ). get_or xs k 0) (omega arith) ∙ same 0 (omega arith)
    ∙ ap (λ (k : ℕ). get_or ys k 0) (omega arith) in
    let rest : big_from (suc i) n xs ≡ big_from (suc j) n ys =
    big_from_same n (suc i) (suc j) xs ys (λ k lt.
    ap (λ (m : ℕ). get_or xs m 0) (omega arith) ∙ same (suc k) (omega arith)
    ∙ ap (λ (m : ℕ). get_or ys m 0) (omega arith)) in
    ap (λ (b : ℕ). b * 256 ^ n + big_from (suc i) n xs) first
    ∙ ap (λ (r : ℕ). get_or ys j 0 * 256 ^ n + r) rest

-- a number in bytes that were read from a place on
pub number_read :
    (n i m at : ℕ) (file bytes : List ℕ) → ReadsFile file at bytes → i + n ≤ length bytes → n ≤ m
    → big_from 0 n (take m (drop i bytes)) ≡ big_from (at + i) n file
number_read n i m at file bytes reads within le =
    big_from_same n 0 (at + i) (take m (drop i bytes)) file (λ k lt.
    get_or-take m (drop i bytes) (0 + k) 0 (omega arith)
    ∙ get_or-drop i bytes (0 + k) 0
    ∙ reads (i + (0 + k)) (omega arith)
    ∙ ap (λ (j : ℕ). get_or file j 0) (omega arith))

pub first_number_read :
    (n at : ℕ) (file bytes : List ℕ) → ReadsFile file at bytes → n ≤ length bytes
    → big_from 0 n bytes ≡ big_from at n file
first_number_read n at file bytes reads within =
    big_from_same n 0 at bytes file (λ k lt.
    reads (0 + k) (omega arith) ∙ ap (λ (j : ℕ). get_or file j 0) (omega arith))

-- the first bytes tell whether the header is there
pub starts_same :
    (xs ys : List ℕ) → 8 ≤ length xs → 8 ≤ length ys
    → ((i : ℕ) → i < 8 → get_or xs i 0 ≡ get_or ys i 0)
    → starts_with nat_eq xs snapshot_header ≡ starts_with nat_eq ys snapshot_header
starts_same xs ys long_x long_y same =
    ap (λ (l : List ℕ). pointwise nat_eq snapshot_header l) (take_same 8 xs ys long_x long_y same)

-- a file with the first bytes of one that isn't too short
pub header_same :
    (c d : List ℕ) → 4096 ≤ length d → length d ≤ length c
    → ((i : ℕ) → i < 8 → get_or c i 0 ≡ get_or d i 0)
    → has_header c ≡ has_header d
unfolding has_header
header_same c d long longer same =
    let starts = starts_same c d (omega arith) (omega arith) same in
    let at_c : nat_le 4096 (length c) ≡ true = grind (arith, nat_tests) in
    let at_d : nat_le 4096 (length d) ≡ true = grind (arith, nat_tests) in
    rw (starts, at_c, at_d) refl

-- a file with its header isn't short
pub header_long : (c : List ℕ) → has_header c ≡ true → 4096 ≤ length c
unfolding has_header
header_long c is = grind (arith, nat_tests)

-- a write behind the header
pub header_torn :
    (c d : List ℕ) (at n : ℕ) → 8 ≤ at → Torn at n d c → has_header d ≡ true
    → has_header c ≡ true
header_torn c d at n behind torn is =
    header_same c d (header_long d is) torn.no_shorter
    (λ i lt. torn.below i (omega (arith, header_long d is)) (omega arith)) ∙ is

-- a write elsewhere than at the gate
pub gate_torn :
    (side : Side) (c d : List ℕ) (at n : ℕ)
    → (gate_of side + 1 ≤ at) ⊎ (at + n ≤ gate_of side)
    → Torn at n d c → gate_of side < length d
    → gate_byte side c ≡ gate_byte side d
unfolding gate_byte
gate_torn side c d at n (inl below) torn long = torn.below (gate_of side) long (omega arith)
gate_torn side c d at n (inr above) torn long = torn.above (gate_of side) long above

-- the numbers and the test of an area in two files with the same bytes from its start on
module _ (side : Side) (c d : List ℕ)
    (long : length c ≡ length d)
    (same : (i : ℕ) → side_start side ≤ i → get_or c i 0 ≡ get_or d i 0) where
  numbers_same : (i n : ℕ) → side_start side ≤ i → big_from i n c ≡ big_from i n d
  numbers_same i n le = big_from_same n i i c d (λ k lt. same (i + k) (omega arith))

  length_same : length_at side c ≡ length_at side d
  unfolding length_at
  length_same = numbers_same (side_start side + 12) 4 (omega arith)

  is_whole_same : is_whole side c ≡ is_whole side d
  unfolding is_whole
  is_whole_same = rw (length_same, long) refl

  area_same : area_on_side side c ≡ area_on_side side d
  unfolding area_on_side area_place count_at
  area_same =
      let place = numbers_same (side_start side) 8 (omega arith) in
      let count = numbers_same (side_start side + 8) 4 (omega arith) in
      let bytes = drop_same (side_start side + 16) c d long (λ i le. same i (omega arith)) in
      rw (place, count, length_same, bytes) refl

  pub whole_same : whole_area side c ≡ whole_area side d
  whole_same = rw (is_whole_same, area_same) refl

-- an area whose numbers pass the file's end isn't whole
is_whole_short : (side : Side) (c : List ℕ)
    → length c < side_start side + 16 → is_whole side c ≡ false
unfolding is_whole
is_whole_short side c short = grind (arith, nat_tests)

pub whole_short :
    (side : Side) (c : List ℕ) → length c < side_start side + 16 → whole_area side c ≡ None
whole_short side c short =
    ap (λ (b : Bool). if b then Some (area_on_side side c) else None) (is_whole_short side c short)

-- a write before the area
pub whole_before :
    (side : Side) (c d : List ℕ) (at n : ℕ) → at + n ≤ side_start side → Torn at n d c
    → whole_area side c ≡ whole_area side d
whole_before side c d at n before torn = elim (cases_lt (length d) (side_start side + 16)) [
  | inl short ↦
      whole_short side c (omega (arith, torn.no_longer)) ∙ sym (whole_short side d short)
  | inr long ↦
      let size : length c ≡ length d = omega (arith, torn.no_shorter, torn.no_longer) in
      whole_same side c d size (λ i le. elim (cases_lt i (length d)) [
        | inl there ↦ torn.above i there (omega arith)
        | inr past ↦ get_or_past c i 0 (omega arith) ∙ sym (get_or_past d i 0 past)
      ])
]

-- an area that is whole ends inside the file, and isn't too long
pub whole_ends :
    (side : Side) (d : List ℕ) → is_whole side d ≡ true
    → side_start side + 16 + length_at side d ≤ length d
unfolding is_whole
whole_ends side d is = grind (arith, nat_tests)

pub whole_short_enough :
    (side : Side) (d : List ℕ) → is_whole side d ≡ true → length_at side d ≤ 8388608
unfolding is_whole
whole_short_enough side d is = grind (arith, nat_tests)

-- where an area is given it is whole
pub none_some : (area : Stored) → None ≡ Some area → ⊥
none_some area is = grind arith

pub whole_is :
    (side : Side) (d : List ℕ) (area : Stored) → whole_area side d ≡ Some area
    → is_whole side d ≡ true
whole_is side d area is = elim (cases_Bool (is_whole side d)) [
  | inl there ↦ there
  | inr past ↦ absurd (none_some area
      (sym (ap (λ (b : Bool). if b then Some (area_on_side side d) else None) past) ∙ is))
]

-- a write behind an area that is whole
module _ (side : Side) (c d : List ℕ) (at n : ℕ)
    (whole : is_whole side d ≡ true)
    (behind : side_start side + 16 + length_at side d ≤ at)
    (torn : Torn at n d c) where
  below_same :
      (i : ℕ) → i < side_start side + 16 + length_at side d → get_or c i 0 ≡ get_or d i 0
  below_same i lt = torn.below i (omega (arith, whole_ends side d whole)) (omega arith)

  numbers_below : (i n : ℕ) → i + n ≤ side_start side + 16 → big_from i n c ≡ big_from i n d
  numbers_below i n le = big_from_same n i i c d (λ k lt. below_same (i + k) (omega arith))

  length_below : length_at side c ≡ length_at side d
  unfolding length_at
  length_below = numbers_below (side_start side + 12) 4 (omega arith)

  is_whole_below : is_whole side c ≡ true
  unfolding is_whole
  is_whole_below =
      let ends = whole_ends side d whole in
      let enough = whole_short_enough side d whole in
      let longer = torn.no_shorter in
      let is = length_below in
      grind (arith, nat_tests)

  bytes_below :
      take (length_at side d) (drop (side_start side + 16) c)
      ≡ take (length_at side d) (drop (side_start side + 16) d)
  bytes_below =
      let ends = whole_ends side d whole in
      take_same (length_at side d) (drop (side_start side + 16) c) (drop (side_start side + 16) d)
      (omega (arith, length-drop (side_start side + 16) c, torn.no_shorter, ends))
      (omega (arith, length-drop (side_start side + 16) d, ends))
      (λ i lt.
      get_or-drop (side_start side + 16) c i 0
      ∙ below_same (side_start side + 16 + i) (omega arith)
      ∙ sym (get_or-drop (side_start side + 16) d i 0))

  area_below : area_on_side side c ≡ area_on_side side d
  unfolding area_on_side area_place count_at
  area_below =
      let place = numbers_below (side_start side) 8 (omega arith) in
      let count = numbers_below (side_start side + 8) 4 (omega arith) in
      rw (place, count, length_below, bytes_below) refl

  pub whole_behind : whole_area side c ≡ whole_area side d
  whole_behind = rw (is_whole_below, whole, area_below) refl
