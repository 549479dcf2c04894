-- Lemmas on the bytes that differ from the original list.
use Rattle.std.proofs.Common.{◌≡◌, ◌≢◌, ℕ, ◌+◌, ◌-◌, ◌*◌, ◌/◌, ◌%◌, ◌<◌, ◌≤◌, List, []}
use Rattle.std.proofs.Common.{length, slice_index, replicate, refl, ap, sym, ◌∙◌, arith}
use Rattle.std.proofs.Common.{inl, inr, subst, Bool, true, take, drop, nat_eq, slice_range}
use Rattle.std.specs.List.{starts_with}
use Rattle.std.proofs.lemmas.Bool.Decides.{Decides-eqb}
use Rattle.std.proofs.lemmas.Slice.Eq.{starts_is}
use Rattle.std.proofs.lemmas.List.{get_or-take, get_or-drop, length-take, length-drop}
use Rattle.std.proofs.lemmas.List.{get_or_append_left, get_or-append_right, get_or-replicate}
use Rattle.std.proofs.lemmas.List.{get_or_past, get_or_default, length-replicate, nil_from_length}
use Rattle.std.proofs.lemmas.Bool.{cases_lt}
use Rattle.vm_memory.specs.MemoryMap.{original, IsNextChange}
use Rattle.vm_memory.specs.Pages.{Rows, items_at, page_in, shown, byte_of, laid}
use Rattle.vm_memory.proofs.RowLemmas.{items_at_past}
use Rattle.vm_memory.proofs.LaidLemmas.{byte_above, byte_below, byte_laid, length_laid}

-- a zero among zeros, or past them
zero_at : (n k : ℕ) → slice_index (replicate n 0) k ≡ 0
zero_at n k = elim (cases_lt k n) [
  | inl low ↦ get_or-replicate n k 0 0 low
  | inr high ↦ get_or_past (replicate n 0) k 0 (omega (arith, length-replicate {A = ℕ} n 0))
]

-- the original list shows the image's byte, and 0 past it
pub original_at : (rom : List ℕ) (endmem at : ℕ)
    → slice_index rom at ≡ slice_index (original rom endmem) at
original_at rom endmem at = elim (cases_lt at (length rom)) [
  | inl low ↦ sym (get_or_append_left rom (replicate (endmem - length rom) 0) 0 at low)
  | inr high ↦
      get_or_past rom at 0 high
      ∙ sym (get_or-append_right rom (replicate (endmem - length rom) 0) (length rom) at 0 refl high
      ∙ zero_at (endmem - length rom) (at - length rom))
]

-- a byte of RAM whose page isn't held, or not so far
pub byte_unheld : (rom : List ℕ) (ramstart : ℕ) (rows : Rows) (i : ℕ)
    → length (page_in rows (i / 256)) ≤ i % 256
    → byte_of rom ramstart rows i ≡ slice_index rom i
unfolding shown
byte_unheld rom ramstart rows i past = elim (cases_lt i ramstart) [
  | inl low ↦ byte_below rom ramstart rows i low
  | inr high ↦ byte_above rom ramstart rows i high
      ∙ get_or_past (page_in rows (i / 256)) (i % 256) (slice_index rom i) past
]

-- a byte of RAM whose page is held so far
pub byte_held : (rom : List ℕ) (ramstart : ℕ) (rows : Rows) (i : ℕ)
    → ramstart ≤ i → i % 256 < length (page_in rows (i / 256))
    → byte_of rom ramstart rows i ≡ slice_index (page_in rows (i / 256)) (i % 256)
unfolding shown
byte_held rom ramstart rows i high held =
    byte_above rom ramstart rows i high
    ∙ get_or_default (page_in rows (i / 256)) (i % 256) (slice_index rom i) 0 held

-- no page is held that a row lacks at its end
pub row_none : (rows : Rows) (at i : ℕ) → length (items_at rows (at / 16384)) ≤ at / 256 % 64
    → at ≤ i → i < (at / 16384 + 1) * 16384 → page_in rows (i / 256) ≡ []
unfolding page_in
row_none rows at i short low high =
    let e : i / 256 / 64 ≡ at / 16384 = omega arith in
    rw e (items_at_past (items_at rows (at / 16384)) (i / 256 % 64) (omega (arith, e, short)))

-- a page that isn't held
pub page_none : (rows : Rows) (at i : ℕ) → length (page_in rows (at / 256)) ≡ 0
    → at ≤ i → i < (at / 256 + 1) * 256 → page_in rows (i / 256) ≡ []
page_none rows at i none low high =
    let e : i / 256 ≡ at / 256 = omega arith in
    rw e (nil_from_length (page_in rows (at / 256)) none)

-- addresses among unheld pages
pub same_unheld : (rom : List ℕ) (ramstart : ℕ) (rows : Rows) (from at to : ℕ)
    → ((i : ℕ) → from ≤ i → i < at → byte_of rom ramstart rows i ≡ slice_index rom i)
    → ((i : ℕ) → at ≤ i → i < to → page_in rows (i / 256) ≡ [])
    → (i : ℕ) → from ≤ i → i < to → byte_of rom ramstart rows i ≡ slice_index rom i
same_unheld rom ramstart rows from at to was none i low high = elim (cases_lt i at) [
  | inl below ↦ was i low below
  | inr past ↦ byte_unheld rom ramstart rows i (omega (arith, ap length (none i past high)))
]

-- places of a held page
pub same_held : (rom : List ℕ) (ramstart : ℕ) (rows : Rows) (first i : ℕ)
    → first ≡ i / 256 * 256 → ramstart ≤ i → i % 256 < length (page_in rows (i / 256))
    → slice_index (page_in rows (i / 256)) (i % 256) ≡ slice_index rom (first + i % 256)
    → byte_of rom ramstart rows i ≡ slice_index rom i
same_held rom ramstart rows first i e high held same =
    byte_held rom ramstart rows i high held ∙ same ∙ ap (slice_index rom) (omega (arith, e))

-- a held page, up to a place below which its bytes are the image's
pub same_further : (rom : List ℕ) (ramstart : ℕ) (rows : Rows) (page : List ℕ)
    (from at to first end : ℕ) → page ≡ page_in rows (at / 256) → first ≡ at / 256 * 256
    → ramstart ≤ at → to ≤ first + 256
    → ((i : ℕ) → from ≤ i → i < at → byte_of rom ramstart rows i ≡ slice_index rom i)
    → ((k : ℕ) → at - first ≤ k → k < end → slice_index page k ≡ slice_index rom (first + k))
    → ((k : ℕ) → end ≤ k → first + k < to → length page ≤ k)
    → (i : ℕ) → from ≤ i → i < to → byte_of rom ramstart rows i ≡ slice_index rom i
same_further rom ramstart rows page from at to first end p f ram top was same past i low high =
    elim (cases_lt i at) [
      | inl below ↦ was i low below
      | inr here ↦
          let e : i / 256 ≡ at / 256 = omega (arith, f, top) in
          let q : page ≡ page_in rows (i / 256) = p ∙ ap (page_in rows) (sym e) in
          elim (cases_lt (i % 256) (length page)) [
            | inl held ↦ elim (cases_lt (i % 256) end) [
              | inl near ↦ same_held rom ramstart rows first i (omega (arith, f, e)) (omega (arith, ram))
                  (subst (λ (xs : List ℕ). i % 256 < length xs) q held)
                  (ap (λ (xs : List ℕ). slice_index xs (i % 256)) (sym q)
                  ∙ same (i % 256) (omega (arith, f, e)) near)
              | inr far ↦ absurd (omega (arith, past (i % 256) far (omega (arith, f, e)), held))
            ]
            | inr none ↦ byte_unheld rom ramstart rows i
                (subst (λ (xs : List ℕ). length xs ≤ i % 256) q none)
          ]
    ]

-- a place of a held page whose byte isn't the image's
pub other_held : (rom : List ℕ) (ramstart : ℕ) (rows : Rows) (page : List ℕ) (at first place : ℕ)
    → page ≡ page_in rows (at / 256) → first ≡ at / 256 * 256 → place < 256
    → ramstart ≤ first + place → place < length page
    → slice_index page place ≢ slice_index rom (first + place)
    → byte_of rom ramstart rows (first + place) ≢ slice_index rom (first + place)
other_held rom ramstart rows page at first place p f low ram held other = λ same.
    let e : (first + place) / 256 ≡ at / 256 = omega (arith, f) in
    let m : (first + place) % 256 ≡ place = omega (arith, f) in
    let q : page_in rows ((first + place) / 256) ≡ page = ap (page_in rows) e ∙ sym p in
    let inside : (first + place) % 256 < length (page_in rows ((first + place) / 256)) =
    rw (q, m) held in
    let is = byte_held rom ramstart rows (first + place) ram inside in
    other (ap (slice_index page) (sym m)
    ∙ ap (λ (xs : List ℕ). slice_index xs ((first + place) % 256)) (sym q) ∙ sym is ∙ same)

-- the next address whose byte isn't the image's, as one of memory
pub next_change_is : (rom : List ℕ) (ramstart : ℕ) (rows : Rows) (size endmem from at end : ℕ)
    → end ≡ size → from ≤ at → at ≤ end
    → ((i : ℕ) → from ≤ i → i < at → byte_of rom ramstart rows i ≡ slice_index rom i)
    → (at < end → byte_of rom ramstart rows at ≢ slice_index rom at)
    → IsNextChange (record {
      bytes = laid rom ramstart rows size;
      ramstart = ramstart;
      rom = rom;
      endmem = endmem;
    }) from at
next_change_is rom ramstart rows size endmem from at end e low high same other =
    let n = length_laid rom ramstart rows size in
    record {
      least = low;
      within = omega (arith, n);
      same = λ i a b. byte_laid rom ramstart rows size i 0 (omega arith) ∙ same i a b
          ∙ original_at rom endmem i;
      other = λ below is. other (omega (arith, n))
          (sym (byte_laid rom ramstart rows size at 0 (omega (arith, n))) ∙ is
          ∙ sym (original_at rom endmem at));
    }

-- a place of a part, and of a front
pub part_at : (xs : List ℕ) (a n k : ℕ) → k < n
    → slice_index (slice_range xs a (a + n)) k ≡ slice_index xs (a + k)
part_at xs a n k l =
    get_or-take (a + n - a) (drop a xs) k 0 (omega (arith, l)) ∙ get_or-drop a xs k 0

length_part : (xs : List ℕ) (a n : ℕ) → a + n ≤ length xs
    → length (slice_range xs a (a + n)) ≡ n
length_part xs a n l =
    omega (arith, l, length-take (a + n - a) (drop a xs), length-drop a xs)

-- sixteen bytes that are found the same
pub sixteen_alike : (xs ys : List ℕ) (at : ℕ) (found : Bool) → at + 16 ≤ length xs
    → at + 16 ≤ length ys
    → found ≡ starts_with nat_eq (slice_range xs at (at + 16)) (slice_range ys at (at + 16))
    → found ≡ true → (k : ℕ) → at ≤ k → k < at + 16 → slice_index xs k ≡ slice_index ys k
sixteen_alike xs ys at found lx ly e told k low high =
    let these = slice_range xs at (at + 16) in
    let those = slice_range ys at (at + 16) in
    let is = (starts_is Decides-eqb these those found e).0 told in
    let j = k - at in
    let n : at + j ≡ k = omega (arith, low) in
    let inside : j < 16 = omega (arith, low, high) in
    ap (slice_index xs) (sym n) ∙ sym (part_at xs at 16 j inside)
    ∙ ap (λ (zs : List ℕ). slice_index zs j) is
    ∙ get_or_append_left those (drop (length those) these) 0 j
    (omega (arith, inside, length_part ys at 16 ly))
    ∙ part_at ys at 16 j inside ∙ ap (slice_index ys) n

-- a page's front that is a part's, up to a place
pub same_front : (page part rom : List ℕ) (first end from to : ℕ) → to ≤ end
    → ((k : ℕ) → k < end → slice_index part k ≡ slice_index rom (first + k))
    → ((k : ℕ) → from ≤ k → k < to → slice_index (take end page) k ≡ slice_index part k)
    → (k : ℕ) → from ≤ k → k < to → slice_index page k ≡ slice_index rom (first + k)
same_front page part rom first end from to fits is same k low high =
    sym (get_or-take end page k 0 (omega (arith, high, fits)))
    ∙ same k low high ∙ is k (omega (arith, high, fits))

-- the place behind it
pub other_front : (page part rom : List ℕ) (first end at : ℕ) → at < end
    → ((k : ℕ) → k < end → slice_index part k ≡ slice_index rom (first + k))
    → slice_index (take end page) at ≢ slice_index part at
    → slice_index page at ≢ slice_index rom (first + at)
other_front page part rom first end at inside is other = λ same.
    other (get_or-take end page at 0 inside ∙ same ∙ sym (is at inside))

-- zeros, past the file's bytes
pub zeros_past : (rom : List ℕ) (first end n k : ℕ) → length rom ≤ first → k < end
    → slice_index (take end (replicate n 0)) k ≡ slice_index rom (first + k)
zeros_past rom first end n k past inside =
    get_or-take end (replicate n 0) k 0 inside ∙ zero_at n k
    ∙ sym (get_or_past rom (first + k) 0 (omega (arith, past)))
