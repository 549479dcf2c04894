-- Memory and its contents, both ways.
use Rattle.std.proofs.Common.{◌≡◌, ℕ, ◌+◌, ◌-◌, ◌<◌, ◌≤◌, ◌^◌, true, nat_le, List, [], ◌∷◌, ◌++◌}
use Rattle.std.proofs.Common.{length, take, drop, get_or, replicate, refl, ap, sym, ◌∙◌, arith}
use Rattle.std.proofs.Common.{subst, inl, inr, Some}
use Rattle.std.specs.Prelude.{IsTrue}
use Rattle.std.specs.Int.{w32, to_be_bytes}
use Rattle.std.proofs.lemmas.Bool.Decides.{nat_tests}
use Rattle.std.proofs.lemmas.Nat.{be_bytes_4}
use Rattle.std.proofs.lemmas.List.{length-append, length-drop, length-take, length-replicate}
use Rattle.std.proofs.lemmas.List.{take-append-drop, take_at, drop_at, get_or-take, get_or_past}
use Rattle.std.proofs.lemmas.Bool.{cases_lt}
use Rattle.vm_memory.specs.MemoryMap.{MemoryMap, Origin, KeepsRom, number_at, original, origin_of}
use Rattle.vm_memory.specs.MemoryMap.{ram_of}
use Rattle.vm_undo.specs.Contents.{first_ram, contents, memory_with, is_size, has_size}
use Rattle.vm_undo.specs.Contents.{memory_of_contents, IsOrigin, IsContents, is_contents}
use Rattle.vm_undo.specs.Contents.{GivesMemoryBack, GivesContentsBack, AreBytes, TellsContents}
use Rattle.vm_undo.specs.Runs.{differences, runs_coded}
use Rattle.vm_undo.specs.RunsTest.{are_runs}
use Rattle.vm_undo.specs.SavedState.{IsSize}
use Rattle.vm_undo.specs.declared.runs.Behind.TheVariants.{Change}
use Rattle.vm_undo.proofs.RunLemmas.{restored_again, xor_back}
use Rattle.vm_undo.proofs.TestLemmas.{coded_pass, passed, both}

pub length_original : (rom : List ℕ) (size : ℕ) → length rom ≤ size
    → length (original rom size) ≡ size
length_original rom size l =
    omega (
      arith,
      l,
      length-append rom (replicate (size - length rom) 0),
      length-replicate {A = ℕ} (size - length rom) 0,
    )

pub length_first : (o : Origin) (size : ℕ) → length o.rom ≤ size
    → length (first_ram o size) ≡ size - o.ramstart
length_first o size l =
    length-drop o.ramstart (original o.rom size)
    ∙ ap (λ (n : ℕ). n - o.ramstart) (length_original o.rom size l)

pub word_again : (n : ℕ) (rest : List ℕ) → n < 2 ^ 32
    → number_at 4 (to_be_bytes w32 n ++ rest) 0 ≡ n
word_again n rest lt = omega (arith, lt)

pub size_tests : (endmem size : ℕ) → IsSize endmem size → is_size endmem size ≡ true
size_tests endmem size s =
    let a = s.pages in
    let b = s.least in
    let c = s.limit in
    grind (arith, nat_tests, a, b, c)

pub size_holds : (endmem size : ℕ) → is_size endmem size ≡ true → IsSize endmem size
size_holds endmem size t = record {
  pages = grind (arith, nat_tests, t);
  least = grind (arith, nat_tests, t);
  limit = grind (arith, nat_tests, t);
}

-- the size with which contents begin
pub contents_size : (m : MemoryMap) → length m.bytes < 2 ^ 32
    → number_at 4 (contents m) 0 ≡ length m.bytes
contents_size m l =
    word_again (length m.bytes)
    (runs_coded 0 (differences (first_ram (origin_of m) (length m.bytes)) (ram_of m))) l

pub has_contents_size : (m : MemoryMap) → 4 ≤ length (contents m)
has_contents_size m = omega arith

has_its_size : (m : MemoryMap) → IsSize m.endmem (length m.bytes)
    → has_size m.endmem (contents m) ≡ true
has_its_size m s =
    let coded = runs_coded 0 (differences (first_ram (origin_of m) (length m.bytes)) (ram_of m)) in
    let limit = s.limit in
    let number : number_at 4 (contents m) 0 ≡ length m.bytes =
    word_again (length m.bytes) coded (omega (arith, limit)) in
    let long : nat_le 4 (length (contents m)) ≡ true = grind (arith, nat_tests) in
    rw (long, number) (size_tests m.endmem (length m.bytes) s)

pub memory_whole : (m : MemoryMap) → KeepsRom m.ramstart m.rom m.bytes
    → memory_with (origin_of m) (ram_of m) ≡ m
memory_whole m rom =
    ap (λ (bytes : List ℕ). record m { bytes = bytes })
    (ap (λ (front : List ℕ). front ++ drop m.ramstart m.bytes) (sym rom.same)
    ∙ take-append-drop m.ramstart m.bytes)

memory_back : (m : MemoryMap) → KeepsRom m.ramstart m.rom m.bytes → length m.rom ≤ m.endmem
    → IsSize m.endmem (length m.bytes)
    → memory_of_contents (origin_of m) (contents m) ≡ Some m
memory_back m rom extent s =
    let n = length m.bytes in
    let first = first_ram (origin_of m) n in
    let least = s.least in
    let limit = s.limit in
    let same : length first ≡ length (ram_of m) =
    length_first (origin_of m) n (omega (arith, extent, least))
    ∙ sym (length-drop m.ramstart m.bytes) in
    let number : number_at 4 (contents m) 0 ≡ n =
    word_again n (runs_coded 0 (differences first (ram_of m))) (omega (arith, limit)) in
    rw (has_its_size m s, number, restored_again first (ram_of m) same)
    (ap (λ (x : MemoryMap). Some x) (memory_whole m rom))

-- memory is what its contents give
pub given_back : GivesMemoryBack
given_back o m is =
    let rom = subst (λ (x : Origin). KeepsRom x.ramstart x.rom m.bytes) (sym is.image) is.rom in
    let extent = subst (λ (x : Origin). length x.rom ≤ x.endmem) (sym is.image) is.extent in
    let s = subst (λ (x : Origin). IsSize x.endmem (length m.bytes)) (sym is.image) is.size in
    subst (λ (x : Origin). memory_of_contents x (contents m) ≡ Some m) is.image
    (memory_back m rom extent s)

some_same : (m n : MemoryMap) → Some m ≡ Some n → m ≡ n
some_same m n e = cc

-- contents are those of the memory that they give
pub contents_back : GivesContentsBack
contents_back o bytes m is gives =
    let e : Some is.memory ≡ Some m =
    sym (given_back o is.memory is.is) ∙ ap (memory_of_contents o) is.spelled ∙ gives in
    ap contents (sym (some_same is.memory m e)) ∙ is.spelled

pub length_differences : (os rs : List ℕ) → length os ≡ length rs
    → length (differences os rs) ≡ length rs
length_differences [] [] e = refl
length_differences [] (r ∷ rs) e = absurd (omega (arith, e))
length_differences (o ∷ os) [] e = absurd (omega (arith, e))
length_differences (o ∷ os) (r ∷ rs) e =
    let more = length_differences os rs (omega (arith, e)) in omega (arith, more)

differences_again : (os ds : List ℕ) → length os ≡ length ds
    → differences os (differences os ds) ≡ ds
differences_again [] [] e = refl
differences_again [] (d ∷ ds) e = absurd (omega (arith, e))
differences_again (o ∷ os) [] e = absurd (omega (arith, e))
differences_again (o ∷ os) (d ∷ ds) e =
    ap (λ (x : ℕ). x ∷ differences os (differences os ds)) (xor_back o d)
    ∙ ap (λ (xs : List ℕ). d ∷ xs) (differences_again os ds (omega (arith, e)))

test_contents : (m : MemoryMap) → length m.rom ≤ m.endmem → IsSize m.endmem (length m.bytes)
    → IsTrue (is_contents m.ramstart m.endmem (contents m))
test_contents m extent s =
    let n = length m.bytes in
    let first = first_ram (origin_of m) n in
    let least = s.least in
    let limit = s.limit in
    let ds = differences first (ram_of m) in
    let ram = length-drop m.ramstart m.bytes in
    let same : length first ≡ length (ram_of m) =
    length_first (origin_of m) n (omega (arith, extent, least)) ∙ sym ram in
    let number : number_at 4 (contents m) 0 ≡ n =
    word_again n (runs_coded 0 ds) (omega (arith, limit)) in
    let room : n - m.ramstart ≡ 0 + length ds = omega
    (arith, length_differences first (ram_of m) same, ram) in
    rw (has_its_size m s, number, room) (coded_pass 0 ds)

found : (o : Origin) (bytes : List ℕ) → IsContents o bytes
    → IsTrue (is_contents o.ramstart o.endmem bytes)
found o bytes is =
    let m = is.memory in
    let extent = subst (λ (x : Origin). length x.rom ≤ x.endmem) (sym is.is.image) is.is.extent in
    let s = subst (λ (x : Origin). IsSize x.endmem (length m.bytes)) (sym is.is.image) is.is.size in
    let test = subst (λ (x : Origin). IsTrue (is_contents x.ramstart x.endmem (contents m)))
    is.is.image (test_contents m extent s) in
    subst (λ (xs : List ℕ). IsTrue (is_contents o.ramstart o.endmem xs)) is.spelled test

fits_taken : (bytes : List ℕ) → AreBytes bytes → (i : ℕ) → get_or (take 4 bytes) i 0 < 256
fits_taken bytes fit i = elim (cases_lt i 4) [
  | inl l ↦ rw (get_or-take 4 bytes i 0 l) (fit i)
  | inr past ↦
      let none = get_or_past (take 4 bytes) i 0 (omega (arith, past, length-take 4 bytes)) in
      omega (arith, none)
]

-- the first four bytes are those of their number
word_bytes : (bytes : List ℕ) → 4 ≤ length bytes → AreBytes bytes
    → to_be_bytes w32 (number_at 4 bytes 0) ≡ take 4 bytes
word_bytes bytes l fit =
    let a = get_or-take 4 bytes 0 0 (omega arith) in
    let b = get_or-take 4 bytes 1 0 (omega arith) in
    let c = get_or-take 4 bytes 2 0 (omega arith) in
    let d = get_or-take 4 bytes 3 0 (omega arith) in
    be_bytes_4 (take 4 bytes) (number_at 4 bytes 0) (omega (arith, l, length-take 4 bytes))
    (fits_taken bytes fit) (omega (arith, a, b, c, d))

-- the memory that has these differences
coded_memory : (o : Origin) (bytes ds : List ℕ) (n : ℕ) → IsOrigin o → IsSize o.endmem n
    → length ds ≡ n - o.ramstart → runs_coded 0 ds ≡ drop 4 bytes
    → to_be_bytes w32 n ≡ take 4 bytes → IsContents o bytes
coded_memory o bytes ds n origin s size coded word =
    let first = first_ram o n in
    let ram = differences first ds in
    let m = memory_with o ram in
    let low = origin.ram in
    let extent = origin.extent in
    let least = s.least in
    let same : length first ≡ length ds =
    length_first o n (omega (arith, extent, least)) ∙ sym size in
    let long = length_differences first ds same in
    let front : length (take o.ramstart o.rom) ≡ o.ramstart = omega
    (arith, length-take o.ramstart o.rom, low) in
    let whole : length m.bytes ≡ n = omega
    (arith, length-append (take o.ramstart o.rom) ram, front, long, size, low, extent, least) in
    let here : ram_of m ≡ ram = drop_at (take o.ramstart o.rom) ram o.ramstart front in
    record {
      memory = m;
      is = record {
        image = refl;
        rom = record {
          within = low;
          same = take_at (take o.ramstart o.rom) ram o.ramstart front;
        };
        extent = extent;
        size = subst (IsSize o.endmem) (sym whole) s;
      };
      spelled =
          ap (λ (k : ℕ). to_be_bytes w32 k ++ runs_coded 0 (differences (first_ram o k) (ram_of m)))
          whole
          ∙ ap (λ (xs : List ℕ). to_be_bytes w32 n ++ runs_coded 0 (differences first xs)) here
          ∙ ap (λ (xs : List ℕ). to_be_bytes w32 n ++ runs_coded 0 xs)
          (differences_again first ds same)
          ∙ ap (λ (xs : List ℕ). to_be_bytes w32 n ++ xs) coded
          ∙ ap (λ (xs : List ℕ). xs ++ drop 4 bytes) word ∙ take-append-drop 4 bytes;
    }

only : (o : Origin) (bytes : List ℕ) → IsOrigin o → AreBytes bytes
    → IsTrue (is_contents o.ramstart o.endmem bytes) → IsContents o bytes
only o bytes origin fit t =
    let n = number_at 4 bytes 0 in
    let h = both (has_size o.endmem bytes) (are_runs (n - o.ramstart) (drop 4 bytes)) t in
    let g = both (nat_le 4 (length bytes)) (is_size o.endmem n) h.0 in
    let l = g.0 in
    let long : 4 ≤ length bytes = grind (arith, nat_tests, l) in
    let c = passed Change (n - o.ramstart) (drop 4 bytes) h.1 in
    coded_memory o bytes c.ds n origin (size_holds o.endmem n g.1) c.size c.codes
    (word_bytes bytes long fit)

-- the test tells contents from all else
pub tells : TellsContents
tells = record { only = only; found = found }
