-- What is printed is read again.
use Rattle.std.proofs.Common.{◌≡◌, ℕ, zero, suc, ◌+◌, ◌-◌, ◌%◌, ◌^◌, ◌<◌, ◌≤◌, Bool, true, false}
use Rattle.std.proofs.Common.{◌==◌, cond, nat_lt, List, [], ◌∷◌, ◌++◌, length, take, drop, Option}
use Rattle.std.proofs.Common.{Some, None, Ok, refl, ap, subst, ◌∙◌, append_assoc, arith}
use Rattle.std.specs.Int.{w32, to_be_bytes}
use Rattle.std.proofs.lemmas.Bool.Decides.{nat_tests}
use Rattle.std.proofs.lemmas.List.{append-nil, take_at, drop_at, take_all, length-append}
use Rattle.std.specs.Prelude.{All}
use Rattle.std.proofs.lemmas.List.Elements.{All-head, All-tail, All-nil, All-cons}
use Rattle.glulx_image.specs.Header.{word}
use Rattle.quetzal.specs.Chunks.{chunk_at, are_chunks, first_named, form_body, parts_of}
use Rattle.quetzal.specs.Printing.{padding, chunk, heap_chunk, chunks_of, ReadsWhatIsPrinted}
use Rattle.quetzal.specs.Laws.{IsChunk, bytes_of_chunks, first_contents, ReadsFirstOfEachName}
use Rattle.quetzal.proofs.MemoryLemmas.{word_again}

behind_by : (n : ℕ) (rest : List ℕ) (odd : Bool)
    → (n % 2 == 1) ≡ odd
    → drop (n % 2) (cond odd (0 ∷ []) [] ++ rest) ≡ rest
behind_by n rest true e = let one : n % 2 ≡ 1 = grind (arith, nat_tests, e) in rw one refl
behind_by n rest false e = let none : n % 2 ≡ 0 = grind (arith, nat_tests, e) in rw none refl

behind_padding : (n : ℕ) (rest : List ℕ) → drop (n % 2) (padding n ++ rest) ≡ rest
behind_padding n rest = behind_by n rest (n % 2 == 1) refl

pub length-chunk : (name : ℕ) (contents : List ℕ)
    → (8 + length contents ≤ length (chunk name contents))
unfolding chunk
length-chunk name contents = omega (arith, length-append contents (padding (length contents)))

chunk_again : (name : ℕ) (contents rest : List ℕ)
    → name < 2 ^ 32 → length contents < 2 ^ 32
    → chunk_at (chunk name contents ++ rest) ≡ Some (name, contents, rest)
unfolding chunk chunk_at
chunk_again name contents rest small fits =
    let n = length contents in
    let tail = contents ++ (padding n ++ rest) in
    let whole : chunk name contents ++ rest ≡ to_be_bytes w32 name ++ (to_be_bytes w32 n ++ tail) =
    ap (λ (t : List ℕ). to_be_bytes w32 name ++ (to_be_bytes w32 n ++ t))
    (append_assoc contents (padding n) rest) in
    let long : nat_lt (length (to_be_bytes w32 name ++ (to_be_bytes w32 n ++ tail))) 8 ≡ false =
    grind (arith, nat_tests) in
    let first : word (to_be_bytes w32 name ++ (to_be_bytes w32 n ++ tail)) 0 ≡ name =
    word_again name (to_be_bytes w32 n ++ tail) small in
    let second : word (to_be_bytes w32 name ++ (to_be_bytes w32 n ++ tail)) 4 ≡ n =
    word_again n tail fits in
    let inside : nat_lt (length tail) n ≡ false =
    grind (arith, nat_tests, length-append contents (padding n ++ rest)) in
    let behind : drop (n % 2) (padding n ++ rest) ≡ rest = behind_padding n rest in
    ap chunk_at whole
    ∙ rw (
      long,
      first,
      second,
      inside,
      take_at contents (padding n ++ rest) n refl,
      drop_at contents (padding n ++ rest) n refl,
      behind,
    ) refl

some_bytes : (name : ℕ) (contents rest : List ℕ)
    → (length (chunk name contents ++ rest) == 0) ≡ false
some_bytes name contents rest =
    grind (arith, nat_tests, length-append (chunk name contents) rest, length-chunk name contents)

are_further : (n name : ℕ) (contents rest : List ℕ)
    → name < 2 ^ 32 → length contents < 2 ^ 32
    → are_chunks (suc n) (chunk name contents ++ rest) ≡ are_chunks n rest
are_further n name contents rest small fits =
    rw (some_bytes name contents rest, chunk_again name contents rest small fits) refl

named_further : (want n name : ℕ) (contents rest : List ℕ)
    → name < 2 ^ 32 → length contents < 2 ^ 32
    → first_named want (suc n) (chunk name contents ++ rest)
    ≡ cond (name == want) (Some contents) (first_named want n rest)
named_further want n name contents rest small fits =
    rw (some_bytes name contents rest, chunk_again name contents rest small fits) refl

-- ---- chunks one after the other

count-le : (cs : List (ℕ × List ℕ)) → length cs ≤ length (bytes_of_chunks cs)
count-le [] = omega arith
count-le (c ∷ cs) =
    let h : length cs ≤ length (bytes_of_chunks cs) = count-le cs in
    omega (arith, h, length-append (chunk c.0 c.1) (bytes_of_chunks cs), length-chunk c.0 c.1)

none-are : (n : ℕ) → are_chunks n [] ≡ true
none-are zero = refl
none-are (suc n) = refl

none-named : (name n : ℕ) → first_named name n [] ≡ None
none-named name zero = refl
none-named name (suc n) = refl

all-are : (cs : List (ℕ × List ℕ)) (n : ℕ)
    → length cs ≤ n → All IsChunk cs
    → are_chunks n (bytes_of_chunks cs) ≡ true
all-are [] n h a = none-are n
all-are (c ∷ cs) zero h a = absurd (omega (arith, h))
all-are (c ∷ cs) (suc n) h a =
    let k : IsChunk c = All-head IsChunk c cs a in
    are_further n c.0 c.1 (bytes_of_chunks cs) k.name k.size
    ∙ all-are cs n (omega (arith, h)) (All-tail IsChunk c cs a)

all-named : (name : ℕ) (cs : List (ℕ × List ℕ)) (n : ℕ) → length cs ≤ n → All IsChunk cs
    → first_named name n (bytes_of_chunks cs) ≡ first_contents name cs
all-named name [] n h a = none-named name n
all-named name (c ∷ cs) zero h a = absurd (omega (arith, h))
all-named name (c ∷ cs) (suc n) h a =
    let k : IsChunk c = All-head IsChunk c cs a in
    named_further name n c.0 c.1 (bytes_of_chunks cs) k.name k.size
    ∙ ap (cond (c.0 == name) (Some c.1))
    (all-named name cs n (omega (arith, h)) (All-tail IsChunk c cs a))

pub reads_first : ReadsFirstOfEachName
reads_first cs a = record {
  whole = all-are cs (length (bytes_of_chunks cs)) (count-le cs) a;
  first = λ name. all-named name cs (length (bytes_of_chunks cs)) (count-le cs) a;
}

-- ---- a save

pub parts_fit : (header memory stack : List ℕ) (heap : Option (List ℕ))
    → 4 + length (chunks_of header memory stack heap) < 2 ^ 32
    → (length header < 2 ^ 32) × (length memory < 2 ^ 32)
    × (length stack < 2 ^ 32)
    × (length (heap_chunk heap) < 2 ^ 32)
parts_fit header memory stack heap fits = (
  omega (arith, length-append {A = ℕ}, fits, length-chunk),
  omega (arith, length-append {A = ℕ}, fits, length-chunk),
  omega (arith, length-append {A = ℕ}, fits, length-chunk),
  omega (arith, length-append {A = ℕ}, fits, length-chunk),
)

body_again : (chunks : List ℕ)
    → 4 + length chunks < 2 ^ 32
    → form_body (to_be_bytes w32 0x464F524D
    ++ (to_be_bytes w32 (4 + length chunks) ++ (to_be_bytes w32 0x49465A53 ++ chunks)))
    ≡ Ok chunks
unfolding form_body
body_again chunks fits =
    let p =
    to_be_bytes w32 0x464F524D
    ++ (to_be_bytes w32 (4 + length chunks) ++ (to_be_bytes w32 0x49465A53 ++ chunks)) in
    let size : word p 4 ≡ 4 + length chunks =
    word_again (4 + length chunks) (to_be_bytes w32 0x49465A53 ++ chunks) fits in
    let long : nat_lt (length p) 12 ≡ false = grind (arith, nat_tests) in
    let enough : nat_lt (4 + length chunks) 4 ≡ false = grind (arith, nat_tests) in
    let inside : nat_lt (length p) (8 + (4 + length chunks)) ≡ false = grind (arith, nat_tests) in
    let all : take (4 + length chunks - 4) chunks ≡ chunks =
    ap (λ (k : ℕ). take k chunks) (omega arith) ∙ take_all (length chunks) chunks (omega arith) in
    rw (long, size, enough, inside, all) refl

abbrev heap_list : Option (List ℕ) → List (ℕ × List ℕ)
heap_list None = []
heap_list (Some blocks) = (0x4D416C6C, blocks) ∷ []

heap_spelled : (heap : Option (List ℕ)) → bytes_of_chunks (heap_list heap) ≡ heap_chunk heap
heap_spelled None = refl
heap_spelled (Some blocks) = append-nil (chunk 0x4D416C6C blocks)

heap_fits : (heap : Option (List ℕ))
    → length (heap_chunk heap) < 2 ^ 32
    → All IsChunk (heap_list heap)
heap_fits None fits = All-nil IsChunk
heap_fits (Some blocks) fits =
    let size = length-chunk 0x4D416C6C blocks in
    All-cons IsChunk (0x4D416C6C, blocks) []
    (record { name = omega arith; size = omega (arith, fits, size) }) (All-nil IsChunk)

heap_first : (heap : Option (List ℕ)) → first_contents 0x4D416C6C (heap_list heap) ≡ heap
heap_first None = refl
heap_first (Some blocks) = refl

pub reads_printed : ReadsWhatIsPrinted
unfolding parts_of
reads_printed header memory stack heap fits =
    let small = parts_fit header memory stack heap fits in
    let all = chunks_of header memory stack heap in
    let cs1 = (0x53746B73, stack) ∷ heap_list heap in
    let cs2 = (0x434D656D, memory) ∷ cs1 in
    let cs = (0x49466864, header) ∷ cs2 in
    let reads =
    reads_first cs
    (All-cons IsChunk (0x49466864, header) cs2 (record { name = omega arith; size = small.0 })
    (All-cons IsChunk (0x434D656D, memory) cs1 (record { name = omega arith; size = small.1 })
    (All-cons IsChunk (0x53746B73, stack) (heap_list heap)
    (record { name = omega arith; size = small.2 }) (heap_fits heap small.3)))) in
    let spelled : bytes_of_chunks cs ≡ all =
    ap (λ (t : List ℕ). chunk 0x49466864 header
    ++ (chunk 0x434D656D memory ++ (chunk 0x53746B73 stack ++ t))) (heap_spelled heap) in
    let whole : are_chunks (length all) all ≡ true =
    subst (λ (bytes : List ℕ). are_chunks (length bytes) bytes ≡ true) spelled reads.whole in
    let first : (name : ℕ) → first_named name (length all) all ≡ first_contents name cs =
    subst (λ (bytes : List ℕ).
    (name : ℕ) → first_named name (length bytes) bytes ≡ first_contents name cs) spelled
    reads.first in
    let is-header : first_named 0x49466864 (length all) all ≡ Some header = first 0x49466864 in
    let is-memory : first_named 0x434D656D (length all) all ≡ Some memory = first 0x434D656D in
    let is-stack : first_named 0x53746B73 (length all) all ≡ Some stack = first 0x53746B73 in
    let is-heap : first_named 0x4D416C6C (length all) all ≡ heap =
    first 0x4D416C6C ∙ heap_first heap in
    rw (body_again all fits, whole, is-header, is-stack, is-memory, is-heap) refl
