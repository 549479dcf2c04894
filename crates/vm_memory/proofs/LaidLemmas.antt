-- Lemmas on the list of bytes that held pages over an image stand for.
use Rattle.std.proofs.Common.{◌≡◌, ℕ, zero, suc, add-zero, min, ◌^◌, ◌+◌, ◌-◌, ◌*◌, ◌/◌, ◌%◌, ◌<◌}
use Rattle.std.proofs.Common.{◌≤◌, List, [], ◌∷◌, ◌++◌, length, get_or, take, drop, replicate}
use Rattle.std.proofs.Common.{slice_index, refl, ap, sym, ◌∙◌, arith, inl, inr, ◌⊎◌}
use Rattle.std.proofs.lemmas.List.{same_lists, get_or-take, get_or-drop, get_or_append_left}
use Rattle.std.proofs.lemmas.List.{get_or-append_right, get_or_default, length-append, length-drop}
use Rattle.std.proofs.lemmas.List.{length-take, length-replicate, get_or-replicate, get_or_past}
use Rattle.std.proofs.lemmas.List.{drop_all, take_rest, take_more, append_assoc}
use Rattle.std.proofs.lemmas.List.{append-nil, take_all, nil_from_length}
use Rattle.std.proofs.lemmas.List.FromFn.{get_or-map-range_with_len, length-map-range_with_len}
use Rattle.std.proofs.lemmas.List.FromFn.{take-map-range_with_len, fill_by_all}
use Rattle.std.proofs.lemmas.Bool.{cases_lt, lt-ltb, le-ltb}
use Rattle.byteorder.specs.Endian.{big_number, big_from}
use Rattle.vm_memory.specs.MemoryMap.{replaced, original, number_at, KeepsRom}
use Rattle.vm_memory.specs.Code.{IsCode}
use Rattle.vm_memory.specs.Pages.{Rows, page_in, shown, byte_of, laid, PutsBytes, Shows, Cuts}
use Rattle.vm_memory.proofs.RowLemmas.{shows_alike}
use Rattle.vm_memory.proofs.PutLemmas.{length_replaced, byte_before, byte_within, byte_after}

pub length_laid : (rom : List ℕ) (ramstart : ℕ) (rows : Rows) (size : ℕ)
    → length (laid rom ramstart rows size) ≡ size
unfolding laid
length_laid rom ramstart rows size = length-map-range_with_len (byte_of rom ramstart rows) 0 size

pub byte_laid : (rom : List ℕ) (ramstart : ℕ) (rows : Rows) (size i d : ℕ) → i < size
    → get_or (laid rom ramstart rows size) i d ≡ byte_of rom ramstart rows i
unfolding laid
byte_laid rom ramstart rows size i d below = get_or-map-range_with_len
    (byte_of rom ramstart rows) 0 size i i d below (omega arith)

pub byte_below : (rom : List ℕ) (ramstart : ℕ) (rows : Rows) (i : ℕ) → i < ramstart
    → byte_of rom ramstart rows i ≡ slice_index rom i
unfolding byte_of
byte_below rom ramstart rows i l = let t = lt-ltb i ramstart l in rw t refl

pub byte_above : (rom : List ℕ) (ramstart : ℕ) (rows : Rows) (i : ℕ) → ramstart ≤ i
    → byte_of rom ramstart rows i ≡ shown rom rows i
unfolding byte_of
byte_above rom ramstart rows i l = let t = le-ltb i ramstart l in rw t refl

-- the bytes of memory are a list of as many, each of which they show
laid_is : (rom : List ℕ) (ramstart : ℕ) (rows : Rows) (size : ℕ) (bytes : List ℕ)
    → length bytes ≡ size → ((k : ℕ) → k < size → byte_of rom ramstart rows k ≡ slice_index bytes k)
    → laid rom ramstart rows size ≡ bytes
unfolding laid
laid_is rom ramstart rows size bytes e same =
    sym (fill_by_all (byte_of rom ramstart rows) bytes size 0 e (λ k l. sym (same k l)))

pub byte_same : (rom : List ℕ) (ramstart : ℕ) (old new : Rows) (i : ℕ)
    → shown rom new i ≡ shown rom old i → byte_of rom ramstart new i ≡ byte_of rom ramstart old i
unfolding byte_of
byte_same rom ramstart old new i e = rw e refl

pub laid_shows : (rom : List ℕ) (ramstart : ℕ) (old new : Rows) (size : ℕ) → Shows rom old new
    → laid rom ramstart new size ≡ laid rom ramstart old size
laid_shows rom ramstart old new size shows =
    laid_is rom ramstart new size _ (length_laid rom ramstart old size) (λ k l.
    byte_same rom ramstart old new k (shows.same k) ∙ sym (byte_laid rom ramstart old size k 0 l))

-- bytes that are put into RAM
pub laid_puts : (rom : List ℕ) (ramstart : ℕ) (old new : Rows) (size at : ℕ) (bytes : List ℕ)
    → PutsBytes rom old new at bytes → ramstart ≤ at → at + length bytes ≤ size
    → laid rom ramstart new size ≡ replaced (laid rom ramstart old size) at bytes
laid_puts rom ramstart old new size at bytes puts ram inside =
    let m = length_laid rom ramstart old size in
    let fits : at + length bytes ≤ length (laid rom ramstart old size) = omega (arith, m) in
    let z = length_replaced (laid rom ramstart old size) at bytes fits in
    laid_is rom ramstart new size _ (omega (arith, m, z)) (λ k l.
    let was = byte_laid rom ramstart old size k 0 l in
    elim (cases_lt k at) [
      | inl low ↦ byte_same rom ramstart old new k (puts.below k low)
          ∙ sym (byte_before (laid rom ramstart old size) at bytes k 0 fits low ∙ was)
      | inr from ↦ elim (cases_lt k (at + length bytes)) [
        | inl high ↦ byte_above rom ramstart new k (omega arith) ∙ puts.inside k from high
            ∙ sym (byte_within (laid rom ramstart old size) at bytes k 0 fits from high)
        | inr past ↦ byte_same rom ramstart old new k (puts.past k past)
            ∙ sym (byte_after (laid rom ramstart old size) at bytes k 0 fits past ∙ was)
      ]
    ])

-- no page held
pub shown_none : (rom : List ℕ) (i : ℕ) → shown rom [] i ≡ slice_index rom i
unfolding shown page_in
shown_none rom i = refl

pub byte_none : (rom : List ℕ) (ramstart i : ℕ) → byte_of rom ramstart [] i ≡ slice_index rom i
byte_none rom ramstart i = elim (cases_lt i ramstart) [
  | inl low ↦ byte_below rom ramstart [] i low
  | inr high ↦ byte_above rom ramstart [] i high ∙ shown_none rom i
]

pub laid_original : (rom : List ℕ) (ramstart size : ℕ) → length rom ≤ size
    → laid rom ramstart [] size ≡ original rom size
laid_original rom ramstart size within =
    laid_is rom ramstart [] size (original rom size)
    (omega (arith, length-append {A = ℕ}, length-replicate {A = ℕ})) (λ k l.
    byte_none rom ramstart k
    ∙ elim (cases_lt k (length rom)) [
      | inl low ↦ sym (get_or_append_left rom (replicate (size - length rom) 0) 0 k low)
      | inr high ↦ get_or_past rom k 0 high
          ∙ sym (get_or-append_right rom (replicate (size - length rom) 0)
          (length rom) k 0 refl high
          ∙ get_or-replicate (size - length rom) (k - length rom) 0 0 (omega arith))
    ])

-- another size, where nothing is held past the smaller one
pub laid_cuts : (rom : List ℕ) (ramstart : ℕ) (old new : Rows) (was size least : ℕ)
    → Cuts rom old new least → least ≤ was → least ≤ size → least ≡ was ⊎ (least ≡ size)
    → ramstart ≤ length rom → length rom ≤ least
    → laid rom ramstart new size ≡ take size (laid rom ramstart old was) ++ replicate
    (size - length (laid rom ramstart old was)) 0
laid_cuts rom ramstart old new was size least cuts a b which ram within =
    let m = length_laid rom ramstart old was in
    let t = length-take size (laid rom ramstart old was) in
    let z = length-replicate {A = ℕ} (size - length (laid rom ramstart old was)) 0 in
    let s = length-append (take size (laid rom ramstart old was)) (replicate (size - length
    (laid rom ramstart old was)) 0) in
    laid_is rom ramstart new size _ (omega (arith, m, t, z, s)) (λ k l.
    elim (cases_lt k least) [
      | inl low ↦
          byte_same rom ramstart old new k (cuts.below k low)
          ∙ sym (get_or_append_left (take size (laid rom ramstart old was)) _ 0 k (omega
          (arith, t, m)) ∙ get_or-take size (laid rom ramstart old was) k 0 l
          ∙ byte_laid rom ramstart old was k 0 (omega arith))
      | inr high ↦
          byte_above rom ramstart new k (omega arith) ∙ cuts.past k high
          ∙ get_or_past rom k 0 (omega arith)
          ∙ sym (get_or-append_right (take size (laid rom ramstart old was)) _ was k 0 (omega
          (arith, t, m)) (omega arith) ∙ get_or-replicate _ (k - was) 0 0 (omega (arith, m)))
    ])

-- below RAMSTART stands the image
pub laid_rom : (rom : List ℕ) (ramstart : ℕ) (rows : Rows) (size : ℕ) → ramstart ≤ length rom
    → ramstart ≤ size → KeepsRom ramstart rom (laid rom ramstart rows size)
unfolding laid
laid_rom rom ramstart rows size within fits = record {
  within = within;
  same = take-map-range_with_len (byte_of rom ramstart rows) 0 size ramstart fits
      ∙ laid_is rom ramstart rows ramstart (take ramstart rom)
      (omega (arith, length-take ramstart rom))
      (λ k l. byte_below rom ramstart rows k l ∙ sym (get_or-take ramstart rom k 0 l));
}

-- bytes at an address, by index
pub slice_laid : (rom : List ℕ) (ramstart : ℕ) (rows : Rows) (size at n : ℕ) (bytes : List ℕ)
    → at + n ≤ size → length bytes ≡ n → ((i : ℕ) → i < n
    → slice_index bytes i ≡ byte_of rom ramstart rows (at + i))
    → bytes ≡ take n (drop at (laid rom ramstart rows size))
slice_laid rom ramstart rows size at n bytes fits m same =
    let z = length_laid rom ramstart rows size in
    same_lists bytes (take n (drop at (laid rom ramstart rows size)))
    (omega (arith, m, z, length-take {A = ℕ}, length-drop {A = ℕ})) (λ k d l.
    get_or_default bytes k d 0 l ∙ same k (omega (arith, m))
    ∙ sym (get_or-take n (drop at (laid rom ramstart rows size)) k d (omega (arith, m))
    ∙ get_or-drop at (laid rom ramstart rows size) k d
    ∙ byte_laid rom ramstart rows size (at + k) d (omega (arith, m))))

pub slice_rom : (rom : List ℕ) (ramstart : ℕ) (rows : Rows) (size at n : ℕ) → at + n ≤ size
    → at + n ≤ ramstart → ramstart ≤ length rom
    → take n (drop at rom) ≡ take n (drop at (laid rom ramstart rows size))
slice_rom rom ramstart rows size at n fits low within =
    slice_laid rom ramstart rows size at n (take n (drop at rom)) fits
    (omega (arith, length-take {A = ℕ}, length-drop {A = ℕ}))
    (λ i l. get_or-take n (drop at rom) i 0 l ∙ get_or-drop at rom i 0
    ∙ sym (byte_below rom ramstart rows (at + i) (omega arith)))

-- the 32 bytes of the image below RAMSTART are memory's
pub code_below : (rom : List ℕ) (ramstart : ℕ) (rows : Rows) (size endmem at : ℕ) (bytes : List ℕ)
    → at + 32 ≤ ramstart → ramstart ≤ length rom → ramstart ≤ size → bytes ≡ take 32 (drop at rom)
    → IsCode (record {
      bytes = laid rom ramstart rows size;
      ramstart = ramstart;
      rom = rom;
      endmem = endmem;
    }) at bytes
code_below rom ramstart rows size endmem at bytes low within high e = record {
  bytes = e ∙ slice_rom rom ramstart rows size at 32 (omega arith) low within;
  below = low;
  inside = rw (length_laid rom ramstart rows size) (omega arith);
}

pub slice_page : (rom : List ℕ) (ramstart : ℕ) (rows : Rows) (size at n : ℕ) → at + n ≤ size
    → ramstart ≤ at → at % 256 + n ≤ 256 → at % 256 + n ≤ length (page_in rows (at / 256))
    → take n (drop (at % 256) (page_in rows (at / 256))) ≡ take n (drop at
    (laid rom ramstart rows size))
unfolding shown
slice_page rom ramstart rows size at n fits high one held =
    let page = page_in rows (at / 256) in
    slice_laid rom ramstart rows size at n (take n (drop (at % 256) page)) fits (omega
    (arith, length-take n (drop (at % 256) page), length-drop (at % 256) page))
    (λ i l.
    let e : (at + i) / 256 ≡ at / 256 = omega arith in
    let f : (at + i) % 256 ≡ at % 256 + i = omega arith in
    get_or-take n (drop (at % 256) page) i 0 l ∙ get_or-drop (at % 256) page i 0
    ∙ get_or_default page (at % 256 + i) 0 (slice_index rom (at + i)) (omega arith)
    ∙ sym (byte_above rom ramstart rows (at + i) (omega arith) ∙ rw (e, f) refl))

pub slice_image : (rom : List ℕ) (ramstart : ℕ) (rows : Rows) (size at n : ℕ) → at + n ≤ size
    → ramstart ≤ at → at % 256 + n ≤ 256 → length (page_in rows (at / 256)) ≤ at % 256
    → at + n ≤ length rom → take n (drop at rom) ≡ take n (drop at (laid rom ramstart rows size))
unfolding shown
slice_image rom ramstart rows size at n fits high one past within =
    slice_laid rom ramstart rows size at n (take n (drop at rom)) fits (omega
    (arith, length-take n (drop at rom), length-drop at rom))
    (λ i l.
    let e : (at + i) / 256 ≡ at / 256 = omega arith in
    get_or-take n (drop at rom) i 0 l ∙ get_or-drop at rom i 0
    ∙ sym (byte_above rom ramstart rows (at + i) (omega arith)
    ∙ rw e (get_or_past (page_in rows (at / 256)) ((at + i) % 256) (slice_index rom (at + i))
    (omega arith))))

-- a number depends on its bytes alone
pub big_from_same : (i n : ℕ) (xs ys : List ℕ) → ((k : ℕ) → k < i + n
    → slice_index xs k ≡ slice_index ys k) → big_from i n xs ≡ big_from i n ys
big_from_same i zero xs ys same = refl
big_from_same i (suc n) xs ys same =
    let h = same i (omega arith) in
    let rest = big_from_same (suc i) n xs ys (λ k l. same k (omega arith)) in
    ap (λ b. b * 256 ^ n + big_from (suc i) n xs) h ∙ ap (λ r. slice_index ys i * 256 ^ n + r) rest

pub number_of_slice : (n : ℕ) (xs ys : List ℕ) → xs ≡ take n ys → big_number n xs ≡ big_number n ys
number_of_slice n xs ys e = ap (big_number n) e
    ∙ big_from_same 0 n (take n ys) ys (λ k l. get_or-take n ys k 0 (omega arith))

-- the byte at a place past an address
pub byte_from : (rom : List ℕ) (ramstart : ℕ) (rows : Rows) (size at k : ℕ) → at + k < size
    → byte_of rom ramstart rows (at + k) ≡ slice_index (drop at (laid rom ramstart rows size)) k
byte_from rom ramstart rows size at k l = sym (get_or-drop at (laid rom ramstart rows size) k 0
    ∙ byte_laid rom ramstart rows size (at + k) 0 l)

first_byte : (rom : List ℕ) (ramstart : ℕ) (rows : Rows) (size at : ℕ) → at + 1 ≤ size
    → byte_of rom ramstart rows at ≡ slice_index (drop at (laid rom ramstart rows size)) 0
first_byte rom ramstart rows size at fits =
    ap (byte_of rom ramstart rows) (sym (add-zero at))
    ∙ byte_from rom ramstart rows size at 0 (omega arith)

pub number_of_one : (rom : List ℕ) (ramstart : ℕ) (rows : Rows) (size at : ℕ) → at + 1 ≤ size
    → number_at 1 (laid rom ramstart rows size) at ≡ byte_of rom ramstart rows at
number_of_one rom ramstart rows size at fits =
    let e = first_byte rom ramstart rows size at fits in omega (arith, e)

pub number_of_two : (rom : List ℕ) (ramstart : ℕ) (rows : Rows) (size at : ℕ) → at + 2 ≤ size
    → big_number 2 (byte_of rom ramstart rows at ∷ byte_of rom ramstart rows
    (at + 1) ∷ []) ≡ number_at 2 (laid rom ramstart rows size) at
number_of_two rom ramstart rows size at fits =
    let a = first_byte rom ramstart rows size at (omega arith) in
    let b = byte_from rom ramstart rows size at 1 (omega arith) in
    omega (arith, a, b)

pub number_of_four : (rom : List ℕ) (ramstart : ℕ) (rows : Rows) (size at : ℕ) → at + 4 ≤ size
    → big_number 4 (byte_of rom ramstart rows at ∷ byte_of rom ramstart rows
    (at + 1) ∷ byte_of rom ramstart rows (at + 2) ∷ byte_of rom ramstart rows
    (at + 3) ∷ []) ≡ number_at 4 (laid rom ramstart rows size) at
number_of_four rom ramstart rows size at fits =
    let a = first_byte rom ramstart rows size at (omega arith) in
    let b = byte_from rom ramstart rows size at 1 (omega arith) in
    let c = byte_from rom ramstart rows size at 2 (omega arith) in
    let d = byte_from rom ramstart rows size at 3 (omega arith) in
    omega (arith, a, b, c, d)

-- one more byte at an address
pub take_byte : (rom : List ℕ) (ramstart : ℕ) (rows : Rows) (size at i : ℕ) → at ≤ i → i < size
    → take (i + 1 - at) (drop at (laid rom ramstart rows size)) ≡ take (i - at) (drop at
    (laid rom ramstart rows size)) ++ byte_of rom ramstart rows i ∷ []
take_byte rom ramstart rows size at i from below =
    let bytes = laid rom ramstart rows size in
    let n = length_laid rom ramstart rows size in
    let d = length-drop at bytes in
    ap (λ k. take k (drop at bytes)) (omega arith)
    ∙ take_more (drop at bytes) (i - at) 0 (omega (arith, n, d))
    ∙ ap (λ b. take (i - at) (drop at bytes) ++ b ∷ []) (get_or-drop at bytes (i - at) 0
    ∙ ap (λ k. get_or bytes k 0) (omega arith) ∙ byte_laid rom ramstart rows size i 0 below)

pub append_byte : (rom : List ℕ) (ramstart : ℕ) (rows : Rows) (size at i : ℕ)
    (old was new : List ℕ) (b : ℕ) → new ≡ was ++ b ∷ []
    → was ≡ old ++ take (i - at) (drop at (laid rom ramstart rows size))
    → b ≡ byte_of rom ramstart rows i → at ≤ i → i < size
    → new ≡ old ++ take (i + 1 - at) (drop at (laid rom ramstart rows size))
append_byte rom ramstart rows size at i old was new b pushed before is from below =
    let bytes = take (i - at) (drop at (laid rom ramstart rows size)) in
    pushed ∙ ap (λ xs. xs ++ b ∷ []) before ∙ append_assoc old bytes (b ∷ [])
    ∙ ap (λ x. old ++ (bytes ++ x ∷ [])) is
    ∙ ap (λ xs. old ++ xs) (sym (take_byte rom ramstart rows size at i from below))

-- the same pages
pub laid_alike : (rom : List ℕ) (ramstart : ℕ) (old new : Rows) (size : ℕ) → ((k : ℕ)
    → page_in new k ≡ page_in old k) → laid rom ramstart new size ≡ laid rom ramstart old size
laid_alike rom ramstart old new size same = laid_shows rom ramstart old new size
    (shows_alike rom old new same)

-- RAM as a whole
pub ram_is : (bytes : List ℕ) (n size : ℕ) → size ≡ length bytes
    → take (size - n) (drop n bytes) ≡ drop n bytes
ram_is bytes n size e = ap (λ k. take (k - n) (drop n bytes)) e ∙ take_rest bytes n

pub with_ram_is : (bytes ram : List ℕ) (n : ℕ) → n + length ram ≡ length bytes
    → replaced bytes n ram ≡ take n bytes ++ ram
with_ram_is bytes ram n e = ap (λ t. take n bytes ++ ram ++ t) (drop_all (n + length ram) bytes
    (omega arith)) ∙ append-nil (take n bytes ++ ram)

pub with_no_ram : (bytes ram : List ℕ) (n : ℕ) → n + length ram ≡ length bytes → length ram ≡ 0
    → bytes ≡ take n bytes ++ ram
with_no_ram bytes ram n e z = sym (take_all n bytes (omega arith))
    ∙ sym (append-nil (take n bytes)) ∙ ap (λ t. take n bytes ++ t) (sym (nil_from_length ram z))

pub laid_zeros : (rom : List ℕ) (ramstart : ℕ) (old new : Rows) (size at n : ℕ)
    → PutsBytes rom old new at (replicate n 0) → ramstart ≤ at → at + n ≤ size
    → laid rom ramstart new size ≡ replaced (laid rom ramstart old size) at (replicate n 0)
laid_zeros rom ramstart old new size at n puts ram inside = laid_puts rom ramstart old new size at
    (replicate n 0) puts ram (omega (arith, length-replicate {A = ℕ} n 0))

pub laid_resized : (rom : List ℕ) (ramstart : ℕ) (old new : Rows) (was size least : ℕ)
    → Cuts rom old new least → least ≡ min size was → ramstart ≤ length rom → length rom ≤ size
    → length rom ≤ was
    → laid rom ramstart new size ≡ take size (laid rom ramstart old was) ++ replicate
    (size - length (laid rom ramstart old was)) 0
laid_resized rom ramstart old new was size least cuts e ram low high =
    laid_cuts rom ramstart old new was size least cuts (omega arith) (omega arith)
    (elim (cases_lt was size) [ inl l ↦ inl (omega arith) | inr l ↦ inr (omega arith) ]) ram
    (omega arith)

-- a number below RAMSTART is the image's
pub number_of_front : (rom : List ℕ) (ramstart : ℕ) (rows : Rows) (size at n : ℕ)
    → at + n ≤ ramstart → ramstart ≤ size
    → big_from 0 n (take (length rom - at) (drop at rom)) ≡ big_from 0 n (drop at
    (laid rom ramstart rows size))
number_of_front rom ramstart rows size at n low fits =
    ap (big_from 0 n) (take_rest rom at)
    ∙ big_from_same 0 n (drop at rom) (drop at (laid rom ramstart rows size)) (λ k l.
    get_or-drop at rom k 0 ∙ sym (byte_below rom ramstart rows (at + k) (omega arith))
    ∙ byte_from rom ramstart rows size at k (omega arith))

pub byte_of_front : (rom : List ℕ) (ramstart : ℕ) (rows : Rows) (size at : ℕ) → at + 1 ≤ ramstart
    → ramstart ≤ size → slice_index rom at ≡ number_at 1 (laid rom ramstart rows size) at
byte_of_front rom ramstart rows size at low fits = sym (byte_below rom ramstart rows at
    (omega arith)) ∙ sym (number_of_one rom ramstart rows size at (omega arith))
