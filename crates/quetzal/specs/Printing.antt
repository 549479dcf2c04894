-- A save as it is written (Quetzal 1.4, "Overall structure").
use Rattle.std.specs.Prelude.{◌≡◌, ℕ, ◌+◌, ◌%◌, ◌<◌, ◌^◌, true, List, [], ◌∷◌, codes, ◌++◌, length}
use Rattle.std.specs.Prelude.{◌==◌, if◌then◌else◌, Option, Some, None, Ok}
use Rattle.std.specs.Int.{w32, to_be_bytes}
use Rattle.quetzal.specs.Chunks.{name, parts_of}

-- one zero byte after odd contents
abbrev pub padding : ℕ → List ℕ
padding size = if size % 2 == 1 then 0 ∷ [] else []

unfoldable pub chunk : ℕ → List ℕ → List ℕ
chunk name contents = to_be_bytes w32 name
    ++ (to_be_bytes w32 (length contents) ++ (contents ++ padding (length contents)))

abbrev pub heap_chunk : Option (List ℕ) → List ℕ
heap_chunk None = []
heap_chunk (Some blocks) = chunk (name (codes "MAll")) blocks

abbrev pub chunks_of : List ℕ → List ℕ → List ℕ → Option (List ℕ) → List ℕ
chunks_of header memory stack heap =
    chunk (name (codes "IFhd")) header
    ++ (chunk (name (codes "CMem")) memory
    ++ (chunk (name (codes "Stks")) stack ++ heap_chunk heap))

abbrev pub print_save : List ℕ → List ℕ → List ℕ → Option (List ℕ) → List ℕ
print_save header memory stack heap =
    to_be_bytes w32 (name (codes "FORM"))
    ++ (to_be_bytes w32 (4 + length (chunks_of header memory stack heap))
    ++ (to_be_bytes w32 (name (codes "IFZS")) ++ chunks_of header memory stack heap))

abbrev pub ReadsWhatIsPrinted : Type 0
ReadsWhatIsPrinted =
    (header memory stack : List ℕ) (heap : Option (List ℕ))
    → 4 + length (chunks_of header memory stack heap) < 2 ^ 32
    → parts_of (print_save header memory stack heap)
    ≡ Ok (record {
      header = header;
      memory = memory;
      compressed = true;
      stack = stack;
      heap = heap;
    })
