-- The memory of a chunk.
use Rattle.std.proofs.Common.{◌≡◌, ℕ, ◌+◌, ◌-◌, ◌^◌, ◌<◌, ◌≤◌}
use Rattle.std.proofs.Common.{List, ◌++◌, length, take, replicate, refl, ap, ◌∙◌, arith, subst}
use Rattle.std.specs.Int.{w32, to_be_bytes}
use Rattle.std.proofs.lemmas.List.{length-append, length-take, take-append-le, take-take, take_at}
use Rattle.glulx_image.specs.Header.{word}
use Rattle.vm_memory.specs.MemoryMap.{Origin, original, memory_of, resized, with_ram}
use Rattle.vm_undo.specs.Contents.{IsMemoryOf, memory_with}
use Rattle.vm_undo.specs.SavedState.{IsSize}

pub word_again : (n : ℕ) (rest : List ℕ) → n < 2 ^ 32 → word (to_be_bytes w32 n ++ rest) 0 ≡ n
word_again n rest lt = omega (arith, lt)

-- the first bytes of memory of another size are the file's
front_of : (n size : ℕ) (file tail rest : List ℕ) → n ≤ length file → n ≤ size
    → take n (take size (file ++ tail) ++ rest) ≡ take n file
front_of n size file tail rest low le =
    take-append-le n (take size (file ++ tail)) rest
    (omega (arith, length-take size (file ++ tail), length-append file tail, low, le))
    ∙ take-take n size (file ++ tail) le
    ∙ take-append-le n file tail low

-- the memory of an image of another size with these bytes in RAM
pub loaded : (o : Origin) (size : ℕ) (ram : List ℕ) → o.ramstart ≤ length o.rom → o.ramstart ≤ size
    → with_ram (resized (memory_of o.rom o.ramstart o.endmem) size) ram ≡ memory_with o ram
loaded o size ram low le =
    let zeros = replicate {A = ℕ} (o.endmem - length o.rom) 0 in
    let rest = replicate {A = ℕ} (size - length (original o.rom o.endmem)) 0 in
    ap (λ (front : List ℕ). record {
      bytes = front ++ ram;
      ramstart = o.ramstart;
      rom = o.rom;
      endmem = o.endmem;
    }) (front_of o.ramstart size o.rom zeros rest low le)

pub memory_is : (o : Origin) (size : ℕ) (ram : List ℕ) → o.ramstart ≤ length o.rom
    → length o.rom ≤ o.endmem → IsSize o.endmem size → o.ramstart + length ram ≡ size
    → IsMemoryOf o (memory_with o ram)
memory_is o size ram low extent s whole =
    let front : length (take o.ramstart o.rom) ≡ o.ramstart = omega
    (arith, length-take o.ramstart o.rom, low) in
    let long : size ≡ length (take o.ramstart o.rom ++ ram) = omega
    (arith, length-append (take o.ramstart o.rom) ram, front, whole) in
    record {
      image = refl;
      rom = record {
        within = low;
        same = take_at (take o.ramstart o.rom) ram o.ramstart front;
      };
      extent = extent;
      size = subst (IsSize o.endmem) long s;
    }
