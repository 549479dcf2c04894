-- The rest of a stream, a character at a time.
use Rattle.std.proofs.Common.{◌≡◌, ℕ, zero, suc, ◌-◌, ◌<◌, List, Ok, refl, arith}
use native.Mathlib.Numerals.{unary_clauses}
use Rattle.vm_memory.specs.Chaining.{◌>>=◌}
use Rattle.vm_memory.specs.MemoryMap.{MemoryMap}
use Rattle.glk_dispatch.specs.Streams.{got_code}
use Rattle.glk_dispatch.specs.declared.glk.Glk.{Glk}
use Rattle.story_run.specs.Saves.{rest_of_stream, rest_on}

pub rest_of-more : (most : ℕ) (g : Glk) (m : MemoryMap) (n : ℕ) (bytes : List ℕ) → 0 < most
    → rest_of_stream most g m n bytes ≡ got_code g m n >>=
    (λ p. rest_on (λ h read. rest_of_stream (most - 1) h m n read) p.0 bytes p.1)
unfolding rest_of_stream
rest_of-more zero g m n bytes h = absurd (omega arith)
rest_of-more (suc most) g m n bytes h = simp unary_clauses

pub rest_of-none : (g : Glk) (m : MemoryMap) (n : ℕ) (bytes : List ℕ)
    → rest_of_stream 0 g m n bytes ≡ Ok (g, bytes)
unfolding rest_of_stream
rest_of-none g m n bytes = refl
