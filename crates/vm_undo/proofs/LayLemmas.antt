-- Runs laid over memory, byte by byte.
use Rattle.std.proofs.Common.{◌≡◌, ◌≢◌, ℕ, ◌+◌, ◌-◌, ◌<◌, ◌≤◌, Bool, true, false}
use Rattle.std.proofs.Common.{List, [], ◌∷◌, ◌++◌, length, take, drop, get_or, set, slice_index}
use Rattle.std.proofs.Common.{replicate, refl, ap, sym, ◌∙◌, arith, subst, append_assoc}
use Rattle.std.specs.Int.RustNames.{bit_xor}
use Rattle.std.proofs.lemmas.List.{length-drop, get_or-drop, take_all, replicate-append-replicate}
use Rattle.vm_memory.specs.Access.{with_bytes}
use Rattle.vm_memory.specs.MemoryMap.{MemoryMap, KeepsMap, Origin, original, original_byte, origin_of}
use Rattle.vm_memory.specs.MemoryMap.{KeepsRom, ram_of, replaced, resized, memory_of, number_at}
use Rattle.vm_memory.proofs.ChangeLemmas.{original_at}
use Rattle.vm_memory.proofs.PutLemmas.{length_replaced, byte_after}
use Rattle.vm_undo.specs.Contents.{IsMemoryOf, first_ram, is_size, memory_of_contents, memory_over}
use Rattle.vm_undo.specs.Contents.{memory_with}
use Rattle.vm_undo.specs.SavedState.{IsSize}
use Rattle.std.proofs.lemmas.Bool.Decides.{nat_tests}
use Rattle.std.specs.Prelude.{nat_le}
use Rattle.vm_undo.specs.Runs.{runs_decoded}
use Rattle.vm_undo.proofs.ContentsLemmas.{length_original, memory_whole, size_tests}
use Rattle.vm_undo.proofs.RunLemmas.{Keeps, keeps_run, keeps_zero, keeps_change, with_nothing}
use Rattle.vm_undo.proofs.WriteLemmas.{ram_set}

-- what is laid of the runs before the i-th byte, and what is to come
pub record Laid (old : MemoryMap) (runs : List ℕ) (m : MemoryMap) (size at : ℕ) (due : Bool)
    (i : ℕ) : Type 0 where
  pub least : m.ramstart ≤ at
  pub within : at ≤ size
  pub whole : size ≡ length m.bytes
  pub kept : KeepsMap old m
  pub keeps : Keeps (ram_of old) runs (ram_of m) (at - m.ramstart) due i
  pub rest : (k : ℕ) → at ≤ k → k < size → slice_index m.bytes k ≡ original_byte m k

keeps_start : (ram runs : List ℕ) (at : ℕ) → at ≡ 0 → Keeps ram runs ram at false 0
keeps_start ram runs at e = rw e (omega arith, refl, with_nothing (runs_decoded false ram runs))

pub laid_start : (m : MemoryMap) (runs : List ℕ) (size at : ℕ) → at ≡ m.ramstart
    → size ≡ length m.bytes → m.ramstart ≤ size
    → ram_of m ≡ first_ram (origin_of m) (length m.bytes) → Laid m runs m size at false 0
laid_start m runs size at a s low first = record {
  least = omega (arith, a);
  within = omega (arith, a, low);
  whole = s;
  kept = record { origin = refl; size = refl };
  keeps = keeps_start (ram_of m) runs (at - m.ramstart) (omega (arith, a));
  rest = λ k l h.
      let e : m.ramstart + (k - m.ramstart) ≡ k = omega (arith, a, l) in
      ap (slice_index m.bytes) (sym e)
      ∙ sym (get_or-drop m.ramstart m.bytes (k - m.ramstart) 0)
      ∙ ap (λ (xs : List ℕ). slice_index xs (k - m.ramstart)) first
      ∙ get_or-drop m.ramstart (original m.rom (length m.bytes)) (k - m.ramstart) 0
      ∙ ap (slice_index (original m.rom (length m.bytes))) e
      ∙ sym (original_at m.rom (length m.bytes) k) ∙ original_at m.rom m.endmem k;
}

ram_size : (m : MemoryMap) (size : ℕ) → size ≡ length m.bytes
    → length (ram_of m) ≡ size - m.ramstart
ram_size m size e = omega (arith, e, length-drop m.ramstart m.bytes)

pub laid_run : (old m : MemoryMap) (runs : List ℕ) (size at i : ℕ)
    → i < length runs → Laid old runs m size at true i → get_or runs i 0 + 1 ≤ size - at
    → Laid old runs m size (at + (get_or runs i 0 + 1)) false (i + 1)
laid_run old m runs size at i l laid fits =
    let low = laid.least in
    let high = laid.within in
    let e : at - m.ramstart + (get_or runs i 0 + 1) ≡ at + (get_or runs i 0 + 1) - m.ramstart =
    omega (arith, low) in
    record {
      least = omega (arith, low);
      within = omega (arith, high, fits);
      whole = laid.whole;
      kept = laid.kept;
      keeps = subst (λ (a : ℕ). Keeps (ram_of old) runs (ram_of m) a false (i + 1)) e
          (keeps_run (ram_of old) runs (ram_of m) (at - m.ramstart) i l laid.keeps
          (omega (arith, low, high, fits, ram_size m size laid.whole)));
      rest = λ k a b. laid.rest k (omega (arith, a)) b;
    }

pub laid_zero : (old m : MemoryMap) (runs : List ℕ) (size at i : ℕ)
    → i < length runs → Laid old runs m size at false i → get_or runs i 0 ≡ 0
    → Laid old runs m size at true (i + 1)
laid_zero old m runs size at i l laid e = record {
  least = laid.least;
  within = laid.within;
  whole = laid.whole;
  kept = laid.kept;
  keeps = keeps_zero (ram_of old) runs (ram_of m) (at - m.ramstart) i l laid.keeps e;
  rest = laid.rest;
}

changed_ram : (m : MemoryMap) (at b : ℕ) → m.ramstart ≤ at → at < length m.bytes
    → slice_index m.bytes at ≡ original_byte m at
    → drop m.ramstart (replaced m.bytes at (bit_xor (original_byte m at) b ∷ []))
    ≡ set (ram_of m) (at - m.ramstart) (bit_xor (get_or (ram_of m) (at - m.ramstart) 0) b)
changed_ram m at b low below first =
    let e : m.ramstart + (at - m.ramstart) ≡ at = omega (arith, low) in
    let here : get_or (ram_of m) (at - m.ramstart) 0 ≡ original_byte m at =
    get_or-drop m.ramstart m.bytes (at - m.ramstart) 0 ∙ ap (slice_index m.bytes) e ∙ first in
    ram_set m.bytes m.ramstart at (bit_xor (original_byte m at) b) low below
    ∙ ap (λ (x : ℕ). set (ram_of m) (at - m.ramstart) (bit_xor x b)) (sym here)

laid_with : (old m : MemoryMap) (runs : List ℕ) (size at i : ℕ)
    → i < length runs → Laid old runs m size at false i → get_or runs i 0 ≢ 0 → at ≢ size
    → Laid old runs (with_bytes m at (bit_xor (original_byte m at) (get_or runs i 0) ∷ [])) size
    (at + 1) false (i + 1)
laid_with old m runs size at i l laid ne inside =
    let low = laid.least in
    let high = laid.within in
    let whole = laid.whole in
    let below : at < length m.bytes = omega (arith, high, inside, whole) in
    let x = bit_xor (original_byte m at) (get_or runs i 0) in
    let fits : at + length (x ∷ []) ≤ length m.bytes = omega (arith, below) in
    let same = length_replaced m.bytes at (x ∷ []) fits in
    let e : at - m.ramstart + 1 ≡ at + 1 - m.ramstart = omega (arith, low) in
    let ram = changed_ram m at (get_or runs i 0) low below
    (laid.rest at (omega arith) (omega (arith, below, whole))) in
    record {
      least = omega (arith, low);
      within = omega (arith, high, inside);
      whole = omega (arith, whole, same);
      kept = record { origin = laid.kept.origin; size = laid.kept.size ∙ sym same };
      keeps = subst (λ (a : ℕ). Keeps (ram_of old) runs
          (drop m.ramstart (replaced m.bytes at (x ∷ []))) a false (i + 1)) e
          (subst (λ (xs : List ℕ). Keeps (ram_of old) runs xs (at - m.ramstart + 1) false (i + 1))
          (sym ram) (keeps_change (ram_of old) runs (ram_of m) (at - m.ramstart) i l laid.keeps ne
          (λ (z : at - m.ramstart ≡ length (ram_of m)).
          inside (omega (arith, z, low, high, whole, ram_size m size whole)))));
      rest = λ k a b.
          byte_after m.bytes at (x ∷ []) k 0 fits (omega (arith, a)) ∙ laid.rest k (omega (arith, a)) b;
    }

pub laid_change : (old m n : MemoryMap) (runs : List ℕ) (size at i : ℕ)
    → i < length runs → Laid old runs m size at false i → get_or runs i 0 ≢ 0 → at ≢ size
    → n ≡ with_bytes m at (bit_xor (original_byte m at) (get_or runs i 0) ∷ [])
    → Laid old runs n size (at + 1) false (i + 1)
laid_change old m n runs size at i l laid ne inside e =
    subst (λ (k : MemoryMap). Laid old runs k size (at + 1) false (i + 1)) (sym e)
    (laid_with old m runs size at i l laid ne inside)

-- memory of another size, as it was at first
pub grown : (rom : List ℕ) (endmem size : ℕ) → length rom ≤ endmem → endmem ≤ size
    → take size (original rom endmem) ++ replicate (size - length (original rom endmem)) 0
    ≡ original rom size
grown rom endmem size low high =
    let n = length_original rom endmem low in
    let e : endmem - length rom + (size - length (original rom endmem)) ≡ size - length rom = omega
    (arith, n, low, high) in
    ap (λ (xs : List ℕ). xs ++ replicate (size - length (original rom endmem)) 0)
    (take_all size (original rom endmem) (omega (arith, n, high)))
    ∙ append_assoc rom (replicate (endmem - length rom) 0)
    (replicate (size - length (original rom endmem)) 0)
    ∙ ap (λ (xs : List ℕ). rom ++ xs)
    (replicate-append-replicate (endmem - length rom) (size - length (original rom endmem)) 0
    ∙ ap (λ (k : ℕ). replicate {A = ℕ} k 0) e)

pub first_memory : (rom : List ℕ) (ramstart endmem size : ℕ) (m n : MemoryMap)
    → length rom ≤ endmem → endmem ≤ size → m ≡ memory_of rom ramstart endmem → n ≡ resized m size
    → n ≡ record { bytes = original rom size; ramstart = ramstart; rom = rom; endmem = endmem }
first_memory rom ramstart endmem size m n low high e f =
    f ∙ ap (λ (x : MemoryMap). resized x size) e
    ∙ ap (λ (bytes : List ℕ). record {
      bytes = bytes;
      ramstart = ramstart;
      rom = rom;
      endmem = endmem;
    }) (grown rom endmem size low high)

pub first_of : (o : Origin) (size : ℕ) (n : MemoryMap) → length o.rom ≤ size
    → n ≡ record { bytes = original o.rom size; ramstart = o.ramstart; rom = o.rom; endmem = o.endmem }
    → ram_of n ≡ first_ram (origin_of n) (length n.bytes)
first_of o size n low e =
    ap ram_of e
    ∙ sym (ap (λ (x : MemoryMap). first_ram (origin_of x) (length x.bytes)) e
    ∙ ap (first_ram o) (length_original o.rom size low))

-- contents that begin with a size that memory may have
pub runs_of_contents : (o : Origin) (bytes : List ℕ) (size : ℕ) → 4 ≤ length bytes
    → size ≡ number_at 4 bytes 0 → IsSize o.endmem size
    → memory_of_contents o bytes
    ≡ memory_over o (runs_decoded false (first_ram o size) (drop 4 bytes))
runs_of_contents o bytes size long e s =
    let l : nat_le 4 (length bytes) ≡ true = grind (arith, nat_tests) in
    let is : is_size o.endmem (number_at 4 bytes 0) ≡ true =
    ap (is_size o.endmem) (sym e) ∙ size_tests o.endmem size s in
    rw (l, is) (ap (λ (n : ℕ). memory_over o
    (runs_decoded false (first_ram o n) (drop 4 bytes))) (sym e))

-- memory as it was at first, over which runs are laid
pub first_decoded : (o : Origin) (size : ℕ) (m : MemoryMap) (runs bytes : List ℕ)
    → length o.rom ≤ size
    → m ≡ record { bytes = original o.rom size; ramstart = o.ramstart; rom = o.rom; endmem = o.endmem }
    → runs ≡ drop 4 bytes
    → runs_decoded false (first_ram o size) (drop 4 bytes) ≡ runs_decoded false (ram_of m) runs
first_decoded o size m runs bytes low e back =
    sym (ap (λ (x : MemoryMap). runs_decoded false (ram_of x) runs) e
    ∙ ap (runs_decoded false (first_ram o size)) back)

pub laid_memory : (o : Origin) (size : ℕ) (m n : MemoryMap)
    → m ≡ record { bytes = original o.rom size; ramstart = o.ramstart; rom = o.rom; endmem = o.endmem }
    → KeepsMap m n → KeepsRom n.ramstart n.rom n.bytes → memory_with o (ram_of n) ≡ n
laid_memory o size m n e kept rom =
    ap (λ (x : Origin). memory_with x (ram_of n)) (sym (ap origin_of e) ∙ kept.origin)
    ∙ memory_whole n rom

-- it is memory of the image, of a size that it may have
pub laid_is : (o : Origin) (size : ℕ) (m n : MemoryMap) → length o.rom ≤ o.endmem
    → m ≡ record { bytes = original o.rom size; ramstart = o.ramstart; rom = o.rom; endmem = o.endmem }
    → KeepsMap m n → KeepsRom n.ramstart n.rom n.bytes → IsSize o.endmem size → IsMemoryOf o n
laid_is o size m n extent e kept rom s =
    let image : origin_of n ≡ o = sym kept.origin ∙ ap origin_of e in
    let least = s.least in
    let long : size ≡ length n.bytes =
    sym (length_original o.rom size (omega (arith, extent, least)))
    ∙ sym (ap (λ (x : MemoryMap). length x.bytes) e) ∙ kept.size in
    record {
      image = image;
      rom = subst (λ (x : Origin). KeepsRom x.ramstart x.rom n.bytes) image rom;
      extent = extent;
      size = subst (IsSize o.endmem) long s;
    }
