-- Steps of the writer and of the reader of contents.
use Rattle.std.proofs.Common.{◌≡◌, ◌≢◌, ℕ, zero, suc, ◌+◌, ◌-◌, ◌<◌, ◌≤◌, List, [], ◌∷◌, ◌++◌}
use Rattle.std.proofs.Common.{length, take, drop, set, slice_index, refl, ap, sym}
use Rattle.std.proofs.Common.{◌∙◌, ◌==◌, arith, false, append_assoc}
use Rattle.std.specs.Int.RustNames.{bit_xor}
use Rattle.std.specs.Int.Bits.{xor_self}
use Rattle.std.proofs.lemmas.Bool.Decides.{nat_tests}
use Rattle.std.proofs.lemmas.List.{length-drop, get_or-drop, drop_more, drop_all, set_split}
use Rattle.std.proofs.lemmas.List.{drop-set-add}
use Rattle.vm_memory.specs.MemoryMap.{MemoryMap, IsNextChange, original, original_byte, origin_of}
use Rattle.vm_memory.specs.MemoryMap.{ram_of, replaced}
use Rattle.vm_memory.proofs.ChangeLemmas.{original_at}
use Rattle.vm_undo.specs.Contents.{changes, first_ram}
use Rattle.vm_undo.specs.Runs.{differences, runs_coded, zeros}
use Rattle.vm_undo.proofs.ContentsLemmas.{length_differences, length_first}
use Rattle.vm_undo.proofs.RunLemmas.{same_from_xor}

difference_at : (os rs : List ℕ) (i : ℕ) → length os ≡ length rs → i < length rs
    → slice_index (differences os rs) i ≡ bit_xor (slice_index os i) (slice_index rs i)
difference_at [] [] i e l = absurd (omega (arith, l))
difference_at [] (r ∷ rs) i e l = absurd (omega (arith, e))
difference_at (o ∷ os) [] i e l = absurd (omega (arith, e))
difference_at (o ∷ os) (r ∷ rs) zero e l = refl
difference_at (o ∷ os) (r ∷ rs) (suc i) e l =
    difference_at os rs i (omega (arith, e)) (omega (arith, l))

first_at : (m : MemoryMap) (k : ℕ)
    → slice_index (first_ram (origin_of m) (length m.bytes)) k
    ≡ original_byte m (m.ramstart + k)
first_at m k =
    get_or-drop m.ramstart (original m.rom (length m.bytes)) k 0
    ∙ sym (original_at m.rom (length m.bytes) (m.ramstart + k))
    ∙ original_at m.rom m.endmem (m.ramstart + k)

pub length_changes : (m : MemoryMap) → length m.rom ≤ length m.bytes
    → length (changes m) ≡ length m.bytes - m.ramstart
length_changes m l =
    let first = length_first (origin_of m) (length m.bytes) l in
    let ram = length-drop m.ramstart m.bytes in
    length_differences (first_ram (origin_of m) (length m.bytes)) (ram_of m) (first ∙ sym ram) ∙ ram

pub change_at : (m : MemoryMap) (k : ℕ) → length m.rom ≤ length m.bytes
    → m.ramstart + k < length m.bytes
    → slice_index (changes m) k
    ≡ bit_xor (original_byte m (m.ramstart + k)) (slice_index m.bytes (m.ramstart + k))
change_at m k l below =
    let first = first_ram (origin_of m) (length m.bytes) in
    let ram = length-drop m.ramstart m.bytes in
    let same : length first ≡ length (ram_of m) =
    length_first (origin_of m) (length m.bytes) l ∙ sym ram in
    difference_at first (ram_of m) k same (omega (arith, below, ram))
    ∙ ap (λ (x : ℕ). bit_xor x (slice_index (ram_of m) k)) (first_at m k)
    ∙ ap (bit_xor (original_byte m (m.ramstart + k))) (get_or-drop m.ramstart m.bytes k 0)

-- differences that are 0 wait
waiting : (ds : List ℕ) (k a n : ℕ) → a + n ≤ length ds
    → ((i : ℕ) → a ≤ i → i < a + n → slice_index ds i ≡ 0)
    → runs_coded k (drop a ds) ≡ runs_coded (k + n) (drop (a + n) ds)
waiting ds k a zero l none =
    let e : k + zero ≡ k = omega arith in
    let f : a + zero ≡ a = omega arith in
    rw (e, f) refl
waiting ds k a (suc n) l none =
    let here : slice_index ds a ≡ 0 = none a (omega arith) (omega arith) in
    let more = waiting ds (k + 1) (a + 1) n (omega (arith, l))
    (λ i low high. none i (omega (arith, low)) (omega (arith, high))) in
    let e : k + 1 + n ≡ k + suc n = omega arith in
    let f : a + 1 + n ≡ a + suc n = omega arith in
    ap (runs_coded k) (drop_more ds a 0 (omega (arith, l))
    ∙ ap (λ (x : ℕ). x ∷ drop (a + 1) ds) here)
    ∙ more ∙ ap (λ (j : ℕ). runs_coded j (drop (a + 1 + n) ds)) e
    ∙ ap (λ (j : ℕ). runs_coded (k + suc n) (drop j ds)) f

-- none of the addresses up to the next change is coded yet
pub quiet : (m : MemoryMap) (at next : ℕ) → length m.rom ≤ length m.bytes → m.ramstart ≤ at
    → IsNextChange m at next
    → runs_coded 0 (drop (at - m.ramstart) (changes m))
    ≡ runs_coded (next - at) (drop (next - m.ramstart) (changes m))
quiet m at next l ram is =
    let r = m.ramstart in
    let low = is.least in
    let high = is.within in
    let n = length_changes m l in
    let e : 0 + (next - at) ≡ next - at = omega arith in
    let f : at - r + (next - at) ≡ next - r = omega (arith, low, ram) in
    waiting (changes m) 0 (at - r) (next - at) (omega (arith, n, low, high, ram)) (λ i a b.
    let inside : r + i < length m.bytes = omega (arith, a, b, low, high, ram) in
    change_at m i l inside
    ∙ ap (bit_xor (original_byte m (r + i))) (is.same (r + i) (omega (arith, a, ram))
    (omega (arith, b, low, ram)))
    ∙ xor_self (original_byte m (r + i)))
    ∙ ap (λ (k : ℕ). runs_coded k (drop (at - r + (next - at)) (changes m))) e
    ∙ ap (λ (k : ℕ). runs_coded (next - at) (drop k (changes m))) f

-- nothing is coded at the end
pub coded_end : (m : MemoryMap) (k at : ℕ) → length m.rom ≤ length m.bytes
    → length m.bytes ≤ at → runs_coded k (drop (at - m.ramstart) (changes m)) ≡ []
coded_end m k at l past =
    ap (runs_coded k) (drop_all (at - m.ramstart) (changes m)
    (omega (arith, past, length_changes m l)))

-- a change and what stands before it
pub coded_change : (m : MemoryMap) (k at : ℕ) → length m.rom ≤ length m.bytes → m.ramstart ≤ at
    → at < length m.bytes → slice_index m.bytes at ≢ original_byte m at
    → runs_coded k (drop (at - m.ramstart) (changes m))
    ≡ zeros k ++ (bit_xor (original_byte m at) (slice_index m.bytes at)
    ∷ runs_coded 0 (drop (at + 1 - m.ramstart) (changes m)))
coded_change m k at l ram below other =
    let r = m.ramstart in
    let d = bit_xor (original_byte m at) (slice_index m.bytes at) in
    let e : r + (at - r) ≡ at = omega (arith, ram) in
    let is : slice_index (changes m) (at - r) ≡ d =
    change_at m (at - r) l (omega (arith, e, below))
    ∙ ap (λ (i : ℕ). bit_xor (original_byte m i) (slice_index m.bytes i)) e in
    let some : (d == 0) ≡ false = grind (
      arith,
      nat_tests,
      λ (z : d ≡ 0).
          other (sym (same_from_xor (original_byte m at) (slice_index m.bytes at) z)),
    ) in
    let f : at - r + 1 ≡ at + 1 - r = omega (arith, ram) in
    ap (runs_coded k) (drop_more (changes m) (at - r) 0
    (omega (arith, length_changes m l, below, ram))
    ∙ ap (λ (x : ℕ). x ∷ drop (at - r + 1) (changes m)) is
    ∙ ap (λ (i : ℕ). d ∷ drop i (changes m)) f)
    ∙ rw some refl

-- a change behind a change
pub coded_literal : (m : MemoryMap) (at : ℕ) → length m.rom ≤ length m.bytes → m.ramstart ≤ at
    → at < length m.bytes → bit_xor (original_byte m at) (slice_index m.bytes at) ≢ 0
    → runs_coded 0 (drop (at - m.ramstart) (changes m))
    ≡ bit_xor (original_byte m at) (slice_index m.bytes at)
    ∷ runs_coded 0 (drop (at + 1 - m.ramstart) (changes m))
unfolding zeros
coded_literal m at l ram below some =
    coded_change m 0 at l ram below (λ same. some (ap (bit_xor (original_byte m at)) same
    ∙ xor_self (original_byte m at)))

-- what the writer has written, and what is left, behind a change
pub written_more : (out was now new left rest all : List ℕ) (d : ℕ)
    → out ++ left ≡ all → left ≡ was ++ (d ∷ rest) → now ≡ out ++ was → new ≡ now ++ d ∷ []
    → new ++ rest ≡ all
written_more out was now new left rest all d before is a b =
    ap (λ (xs : List ℕ). xs ++ rest) (b ∙ ap (λ (xs : List ℕ). xs ++ d ∷ []) a)
    ∙ append_assoc (out ++ was) (d ∷ []) rest ∙ append_assoc out was (d ∷ rest)
    ∙ ap (λ (xs : List ℕ). out ++ xs) (sym is) ∙ before

-- one byte of RAM
pub ram_set : (bytes : List ℕ) (r at x : ℕ) → r ≤ at → at < length bytes
    → drop r (replaced bytes at (x ∷ [])) ≡ set (drop r bytes) (at - r) x
ram_set bytes r at x low below =
    let e : r + (at - r) ≡ at = omega (arith, low) in
    let next : at + length (x ∷ []) ≡ suc at = omega arith in
    let is : replaced bytes at (x ∷ []) ≡ set bytes at x =
    ap (λ (n : ℕ). take at bytes ++ (x ∷ []) ++ drop n bytes) next
    ∙ append_assoc (take at bytes) (x ∷ []) (drop (suc at) bytes)
    ∙ sym (set_split bytes at x below) in
    ap (drop r) (is ∙ ap (λ (n : ℕ). set bytes n x) (sym e)) ∙ drop-set-add r bytes (at - r) x
