-- Lemmas on the pages that differ from the original list.
use Rattle.std.proofs.Common.{◌≡◌, ◌≢◌, ℕ, zero, suc, add-zero, add-one, zero-add, ◌+◌, ◌-◌, ◌*◌}
use Rattle.std.proofs.Common.{◌/◌, ◌%◌, ◌<◌, ◌≤◌, List, [], Bool, true, false, cond, length}
use Rattle.std.proofs.Common.{get_or, drop, slice_index, refl, ap, sym, ◌∙◌, arith, inl, inr, ◌⊎◌}
use Rattle.std.proofs.lemmas.List.{same_lists, get_or-take, get_or-drop, length-drop, length-take}
use Rattle.std.proofs.lemmas.List.{get_or_past, length-append, length-replicate}
use Rattle.std.proofs.lemmas.List.Sums.{sum_by-cons}
use Rattle.std.proofs.lemmas.Slice.Eq.{bytes_eq-Decides}
use Rattle.std.proofs.lemmas.Bool.{cases_lt, cases_eq, cases_Bool}
use Rattle.std.specs.Prelude.{not, replicate, count_by, if◌then◌else◌, ◌==◌}
use Rattle.std.specs.List.{range_with_len}
use Rattle.std.specs.Str.{bytes_eq}
use Rattle.vm_memory.specs.MemoryMap.{MemoryMap, original, replaced, memory_of}
use Rattle.vm_memory.specs.Access.{with_bytes}
use Rattle.vm_memory.specs.OwnPages.{page_of, page_differs, own_pages}
use Rattle.vm_memory.specs.Pages.{Rows, page_in, shown, byte_of, laid}
use Rattle.vm_memory.proofs.RowLemmas.{page_in_past}
use Rattle.vm_memory.proofs.PutLemmas.{length_replaced, byte_before, byte_after}
use Rattle.vm_memory.proofs.LaidLemmas.{length_laid, byte_laid, laid_original, byte_none}
use Rattle.vm_memory.proofs.LaidLemmas.{byte_above, byte_below}

differs_not : (rom bytes : List ℕ) (n : ℕ)
    → page_of bytes n ≡ page_of (original rom (length bytes)) n → page_differs rom bytes n ≡ false
differs_not rom bytes n e = ap not ((bytes_eq-Decides (page_of bytes n) (page_of (original rom
    (length bytes)) n)).1 e)

differs_yes : (rom bytes : List ℕ) (n : ℕ)
    → page_of bytes n ≢ page_of (original rom (length bytes)) n → page_differs rom bytes n ≡ true
differs_yes rom bytes n q = elim (cases_Bool (bytes_eq (page_of bytes n) (page_of (original rom
    (length bytes)) n))) [
      | inl t ↦ absurd (q ((bytes_eq-Decides (page_of bytes n) (page_of (original rom
          (length bytes)) n)).0 t))
      | inr f ↦ ap not f
    ]

-- a byte of a page
page_byte : (bytes : List ℕ) (n k d : ℕ) → k < 256
    → get_or (page_of bytes n) k d ≡ get_or bytes (n * 256 + k) d
page_byte bytes n k d l = get_or-take 256 (drop (n * 256) bytes) k d l
    ∙ get_or-drop (n * 256) bytes k d

length_page : (xs ys : List ℕ) (n : ℕ) → length xs ≡ length ys
    → length (page_of xs n) ≡ length (page_of ys n)
length_page xs ys n e = omega (arith, e, length-take {A = ℕ}, length-drop {A = ℕ})

in_page : (bytes : List ℕ) (n k : ℕ) → k < length (page_of bytes n)
    → (k < 256) × (n * 256 + k < length bytes)
in_page bytes n k l =
    let short = length-take 256 (drop (n * 256) bytes) in
    (omega (arith, short), omega (arith, short, length-drop (n * 256) bytes))

-- two lists with the same bytes in a page
page_same : (xs ys : List ℕ) (n : ℕ) → length xs ≡ length ys → ((i d : ℕ) → i / 256 ≡ n
    → i < length xs → get_or xs i d ≡ get_or ys i d) → page_of xs n ≡ page_of ys n
page_same xs ys n e same =
    same_lists _ _ (length_page xs ys n e) (λ k d l.
    let within = in_page xs n k l in
    page_byte xs n k d within.0 ∙ same (n * 256 + k) d (omega arith) within.1
    ∙ sym (page_byte ys n k d within.0))

-- the original list by index, as no held page shows it
original_is : (rom : List ℕ) (ramstart : ℕ) (rows : Rows) (size : ℕ) → length rom ≤ size
    → original rom (length (laid rom ramstart rows size)) ≡ laid rom ramstart [] size
original_is rom ramstart rows size l = ap (original rom) (length_laid rom ramstart rows size)
    ∙ sym (laid_original rom ramstart size l)

pub own_no : (rom : List ℕ) (ramstart : ℕ) (rows : Rows) (size n : ℕ) → length rom ≤ size
    → ((i : ℕ) → i / 256 ≡ n → i < size → byte_of rom ramstart rows i ≡ slice_index rom i)
    → page_differs rom (laid rom ramstart rows size) n ≡ false
own_no rom ramstart rows size n within same =
    let m = length_laid rom ramstart rows size in
    let z = length_laid rom ramstart [] size in
    differs_not rom (laid rom ramstart rows size) n
    (page_same (laid rom ramstart rows size) (laid rom ramstart [] size) n (omega (arith, m, z))
    (λ i d e l.
    byte_laid rom ramstart rows size i d (omega (arith, m)) ∙ same i e (omega (arith, m))
    ∙ sym (byte_laid rom ramstart [] size i d (omega (arith, m)) ∙ byte_none rom ramstart i))
    ∙ ap (λ bytes. page_of bytes n) (sym (original_is rom ramstart rows size within)))

pub own_yes : (rom : List ℕ) (ramstart : ℕ) (rows : Rows) (size n i : ℕ) → length rom ≤ size
    → i / 256 ≡ n → i < size → byte_of rom ramstart rows i ≢ slice_index rom i
    → page_differs rom (laid rom ramstart rows size) n ≡ true
own_yes rom ramstart rows size n i within e l q =
    let at_i : n * 256 + i % 256 ≡ i = omega arith in
    differs_yes rom (laid rom ramstart rows size) n (λ same.
    q (sym (byte_laid rom ramstart rows size i 0 l)
    ∙ ap (λ k. get_or (laid rom ramstart rows size) k 0) (sym at_i)
    ∙ sym (page_byte (laid rom ramstart rows size) n (i % 256) 0 (omega arith))
    ∙ ap (λ page. get_or page (i % 256) 0) (same
    ∙ ap (λ bytes. page_of bytes n) (original_is rom ramstart rows size within))
    ∙ page_byte (laid rom ramstart [] size) n (i % 256) 0 (omega arith)
    ∙ ap (λ k. get_or (laid rom ramstart [] size) k 0) at_i
    ∙ byte_laid rom ramstart [] size i 0 l ∙ byte_none rom ramstart i))

-- a page that isn't held
pub own_unheld : (rom : List ℕ) (ramstart : ℕ) (rows : Rows) (size n : ℕ) → length rom ≤ size
    → length (page_in rows n) ≡ 0 → page_differs rom (laid rom ramstart rows size) n ≡ false
unfolding shown
own_unheld rom ramstart rows size n within none =
    own_no rom ramstart rows size n within (λ i e l. elim (cases_lt i ramstart) [
      | inl low ↦ byte_below rom ramstart rows i low
      | inr high ↦ byte_above rom ramstart rows i high
          ∙ get_or_past (page_in rows (i / 256)) (i % 256) (slice_index rom i) (omega (
            arith,
            ap
                (λ k. length (page_in rows k)) e,
          ))
    ])

abbrev pub one_if : Bool → ℕ
one_if b = cond b 1 0

pub counted : (b c : Bool) → b ≡ c → one_if b ≡ one_if c
counted b c e = ap one_if e

-- one more number of a range
count_next : (p : ℕ → Bool) (s k : ℕ)
    → count_by p (range_with_len s (suc k)) ≡ cond (p s) 1 0 + count_by p (range_with_len (s + 1) k)
count_next p s k = sum_by-cons (λ n. cond (p n) 1 0) s (range_with_len (s + 1) k)

pub count_more : (p : ℕ → Bool) (s k : ℕ)
    → count_by p (range_with_len s (suc k)) ≡ count_by p (range_with_len s k) + cond (p (s + k)) 1 0
count_more p s zero = let last = counted (p s) (p (s + 0)) (ap p (sym (add-zero s))) in omega
    (arith, last, count_next p s 0)
count_more p s (suc k) =
    let here = count_next p s (suc k) in
    let rest = count_more p (s + 1) k in
    let was = count_next p s k in
    let last : cond (p (s + 1 + k)) 1 0 ≡ cond (p (s + suc k)) 1 0 = counted (p (s + 1 + k)) (p
    (s + suc k)) (ap p (omega arith)) in
    omega (arith, here, rest, was, last)

-- counts of two tests that agree from a number on, and that agree but at one number
count_from : (p q : ℕ → Bool) (s k : ℕ) → ((n : ℕ) → s ≤ n → p n ≡ q n)
    → count_by p (range_with_len s k) ≡ count_by q (range_with_len s k)
count_from p q s zero same = refl
count_from p q s (suc k) same =
    let head = counted (p s) (q s) (same s (omega arith)) in
    let rest = count_from p q (s + 1) k (λ n l. same n (omega arith)) in
    omega (arith, head, rest, count_next p s k, count_next q s k)

pub at_most_one : (b : Bool) → cond b 1 0 ≤ 1
at_most_one true = omega arith
at_most_one false = omega arith

count_one : (p q : ℕ → Bool) (a s k : ℕ) → ((n : ℕ) → n ≢ a → p n ≡ q n)
    → count_by p (range_with_len s k) ≤ count_by q (range_with_len s k) + 1
count_one p q a s zero same = omega arith
count_one p q a s (suc k) same = elim (cases_eq s a) [
  | inl e ↦
      let rest = count_from p q (s + 1) k (λ n l. same n (λ f. absurd (omega (arith, e, f)))) in
      omega (arith, rest, at_most_one (p s), count_next p s k, count_next q s k)
  | inr other ↦
      let head = counted (p s) (q s) (same s other) in
      let rest = count_one p q a (s + 1) k same in
      omega (arith, head, rest, count_next p s k, count_next q s k)
]

count_two : (p q : ℕ → Bool) (a b s k : ℕ) → ((n : ℕ) → n ≢ a → n ≢ b → p n ≡ q n)
    → count_by p (range_with_len s k) ≤ count_by q (range_with_len s k) + 2
count_two p q a b s k same =
    let r : ℕ → Bool = λ n. if n == b then q n else p n in
    let first : count_by p (range_with_len s k) ≤ count_by r
    (range_with_len s k) + 1 = count_one p r b s k (λ n f. grind (arith, f)) in
    let second : count_by r (range_with_len s k) ≤ count_by q
    (range_with_len s k) + 1 = count_one r q a s k (λ n f. elim (cases_eq n b) [
      | inl e ↦ grind
          (arith, e)
      | inr g ↦ let h = same n f g in grind (arith, g, h)
    ]) in
    omega (arith, first, second)

-- a write of bytes within two pages
pub own_put : (m : MemoryMap) (at : ℕ) (new : List ℕ) → 0 < length new → length new ≤ 256
    → at + length new ≤ length m.bytes → own_pages (with_bytes m at new) ≤ own_pages m + 2
unfolding own_pages
own_put m at new some few fits =
    let z = length_replaced m.bytes at new fits in
    let same : (n : ℕ) → n ≢ at / 256 → n ≢ (at + length new - 1) / 256
    → page_differs m.rom (replaced m.bytes at new) n ≡ page_differs m.rom m.bytes n = λ n f g.
    ap not (ap (λ page. bytes_eq page (page_of (original m.rom (length
    (replaced m.bytes at new))) n)) (page_same (replaced m.bytes at new) m.bytes n z
    (λ i d e l. elim (cases_lt i at) [
      | inl low ↦ byte_before m.bytes at new i d fits low
      | inr high ↦ byte_after m.bytes at new i d fits (omega (arith, f, g))
    ])) ∙ ap (λ k. bytes_eq (page_of m.bytes n) (page_of (original m.rom k) n)) z) in
    let count =
    count_two (page_differs m.rom (replaced m.bytes at new)) (page_differs m.rom m.bytes)
    (at / 256) ((at + length new - 1) / 256) 0 (length m.bytes / 256 + 1) same in
    omega (
      arith,
      count,
      ap (λ k. count_by (page_differs m.rom (replaced m.bytes at new))
          (range_with_len 0 (k / 256 + 1))) z,
    )

count_none : (p : ℕ → Bool) (s k : ℕ) → ((n : ℕ) → p n ≡ false)
    → count_by p (range_with_len s k) ≡ 0
count_none p s zero none = refl
count_none p s (suc k) none =
    let head = counted (p s) false (none s) in
    omega (arith, head, count_next p s k, count_none p (s + 1) k none)

-- the original memory
pub own_original : (rom : List ℕ) (ramstart endmem : ℕ) → length rom ≤ endmem
    → own_pages (memory_of rom ramstart endmem) ≡ 0
unfolding own_pages
own_original rom ramstart endmem within =
    let n = length-append rom (replicate (endmem - length rom) 0) in
    let z = length-replicate {A = ℕ} (endmem - length rom) 0 in
    let whole : length (original rom endmem) ≡ endmem = omega (arith, n, z) in
    count_none (page_differs rom (original rom endmem)) 0 (length (original rom endmem) / 256 + 1)
    (λ k. differs_not rom (original rom endmem) k (ap (λ size. page_of (original rom size) k)
    (sym whole)))

-- the count of one more page, where it is 1 or 0
pub own_more : (rom bytes : List ℕ) (n count own : ℕ) (b : Bool)
    → count ≡ count_by (page_differs rom bytes) (range_with_len 0 n) → b ≡ page_differs rom bytes n
    → own ≡ cond b 1 0 → count + own ≡ count_by (page_differs rom bytes) (range_with_len 0 (n + 1))
own_more rom bytes n count own b was is one =
    let more = count_more (page_differs rom bytes) 0 n in
    let here = counted b (page_differs rom bytes n) is in
    let at_n =
    counted (page_differs rom bytes n) (page_differs rom bytes (0 + n)) (ap (page_differs rom bytes)
    (sym (zero-add n))) in
    let next = add-one n in
    let total : count + own ≡ count_by (page_differs rom bytes) (range_with_len 0 (suc n)) = omega
    (arith, was, one, more, here, at_n) in
    total ∙ ap (λ k. count_by (page_differs rom bytes) (range_with_len 0 k)) (sym next)

pub own_pages_is : (m : MemoryMap) (size : ℕ) → length m.bytes ≡ size
    → own_pages m ≡ count_by (page_differs m.rom m.bytes) (range_with_len 0 (size / 256 + 1))
unfolding own_pages
own_pages_is m size e = ap (λ k. count_by (page_differs m.rom m.bytes) (range_with_len 0
    (k / 256 + 1))) e

-- a count past the last number that is counted
count_stop : (p : ℕ → Bool) (k j : ℕ) → ((n : ℕ) → k ≤ n → p n ≡ false)
    → count_by p (range_with_len 0 (k + j)) ≡ count_by p (range_with_len 0 k)
count_stop p k zero none = ap (λ n. count_by p (range_with_len 0 n)) (add-zero k)
count_stop p k (suc j) none =
    let e : k + suc j ≡ suc (k + j) = omega arith in
    let more = count_more p 0 (k + j) in
    let last = counted (p (0 + (k + j))) false (none (0 + (k + j)) (omega arith)) in
    let rest = count_stop p k j none in
    let total : count_by p (range_with_len 0 (suc (k + j))) ≡ count_by p
    (range_with_len 0 k) = omega (arith, more, last, rest) in
    ap (λ n. count_by p (range_with_len 0 n)) e ∙ total

-- the pages past the last row, which aren't held
pub own_stop : (rom : List ℕ) (ramstart : ℕ) (rows : Rows) (size some all : ℕ)
    → length rom ≤ size → some ≤ all → length rows * 64 ≤ some ⊎ (some ≡ all)
    → count_by (page_differs rom (laid rom ramstart rows size)) (range_with_len 0 some) ≡ count_by
    (page_differs rom (laid rom ramstart rows size)) (range_with_len 0 all)
own_stop rom ramstart rows size some all within few past = elim past [
  | inl high ↦
      let p = page_differs rom (laid rom ramstart rows size) in
      let none : (n : ℕ) → some ≤ n
      → p n ≡ false = λ n l. own_unheld rom ramstart rows size n within (ap length
      (page_in_past rows n (omega arith))) in
      let e : some + (all - some) ≡ all = omega arith in
      sym (count_stop p some (all - some) none) ∙ ap (λ n. count_by p (range_with_len 0 n)) e
  | inr e ↦
      ap (λ n. count_by (page_differs rom (laid rom ramstart rows size)) (range_with_len 0 n)) e
]
