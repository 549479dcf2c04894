-- Case (Glk 0.7.5, "Upper and Lower Case").
use Rattle.std.specs.Prelude.{ℕ, zero, suc, ◌+◌, ◌-◌, ◌%◌, ◌^◌, ◌==◌, ◌&&◌, ◌||◌, not, nat_le, min}
use Rattle.std.specs.Prelude.{Bool, if◌then◌else◌, Result, Ok, Err}
use Rattle.vm_memory.specs.Chaining.{◌>>=◌}
use Rattle.vm_memory.specs.MemoryMap.{MemoryMap}
use Rattle.vm_memory.specs.Access.{read, written}
use Rattle.vm_memory.specs.Fault.{coded}
use Rattle.glk_dispatch.specs.Answer.{GlkCall, Reached, CallRule, within}
use Rattle.glk_dispatch.specs.Glk.{character_charged}
use Rattle.glk_dispatch.specs.Reference.{gives}
use Rattle.glk_dispatch.specs.declared.called.Called.{Called}
use Rattle.glk_dispatch.specs.declared.glk.Glk.{Glk}
use Rattle.glk_dispatch.specs.declared.case.CaseCall.{CaseCall}
use Rattle.glk_dispatch.specs.declared.case.CaseCall.TheVariants.{CharToLower, CharToUpper}
use Rattle.glk_dispatch.specs.declared.case.CaseCall.TheVariants.{BufferToLower, BufferToUpper}
use Rattle.glk_dispatch.specs.declared.case.CaseCall.TheVariants.{BufferToTitle}
use Rattle.glk_dispatch.specs.declared.case.Case.{Case}
use Rattle.glk_dispatch.specs.declared.case.Case.TheVariants.{Lower, Upper}

-- A to Z, and the letters of Latin-1 from 0xC0 to 0xDE without the multiplication sign
abbrev pub is_upper : ℕ → Bool
is_upper c = (nat_le 0x41 c && nat_le c 0x5A) || (nat_le 0xC0 c && nat_le c 0xDE && not (c == 0xD7))

-- the same, 0x20 above
abbrev pub is_lower : ℕ → Bool
is_lower c = (nat_le 0x61 c && nat_le c 0x7A) || (nat_le 0xE0 c && nat_le c 0xFE && not (c == 0xF7))

abbrev pub lower : ℕ → ℕ
lower c = if is_upper c then c + 0x20 else c

abbrev pub upper : ℕ → ℕ
upper c = if is_lower c then c - 0x20 else c

abbrev pub in_case : Case → ℕ → ℕ
in_case Lower c = lower c
in_case Upper c = upper c

-- the word at an address in another case: one character read and written
abbrev pub word_cased : Case → Glk → MemoryMap → ℕ → Reached (Glk × MemoryMap)
word_cased case g m at =
    within g (coded (read 4 m at))
    >>= (λ c. within (character_charged g) (coded (written 4 m at (in_case case c))))
    >>= (λ n. Ok (character_charged g, n))

-- so many words from an address on
unfoldable pub words_cased : ℕ → Case → Glk → MemoryMap → ℕ
    → Reached (Glk × MemoryMap)
words_cased zero case g m at = Ok (g, m)
words_cased (suc count) case g m at =
    word_cased case g m at >>= (λ p. words_cased count case p.0 p.1 ((at + 4) % 2 ^ 32))

-- the first word in upper case, and the others in lower case where that is asked for
abbrev pub title_cased : ℕ → Bool → Glk → MemoryMap → ℕ → Reached (Glk × MemoryMap)
title_cased count others g m at =
    words_cased (min count 1) Upper g m at
    >>= (λ p. words_cased (if others then count - 1 else 0) Lower p.0 p.1 ((at + 4) % 2 ^ 32))

-- no more characters than the array has
abbrev pub within_array : ℕ → ℕ → Result (Unit {0}) ℕ
within_array len n = if nat_le n len then Ok tt else Err 22

-- the call answers n
abbrev pub cases : GlkCall → ℕ → ℕ → Reached (Glk × MemoryMap) → CallRule Called
cases s len n done =
    within s.glk (within_array len n)
    >>= (λ _. done) >>= (λ p. gives n (record s { glk = p.0; memory = p.1 }))

-- glk_char_to_lower ch · glk_buffer_to_lower_case_uni buf, len, n · .._title_case_uni buf, len,
-- n, lowerrest
unfoldable pub case_work : CaseCall → GlkCall → (ℕ → ℕ) → CallRule Called
case_work CharToLower s l = gives (lower (l 0)) s
case_work CharToUpper s l = gives (upper (l 0)) s
case_work BufferToLower s l = cases s (l 1) (l 2) (words_cased (l 2) Lower s.glk s.memory (l 0))
case_work BufferToUpper s l = cases s (l 1) (l 2) (words_cased (l 2) Upper s.glk s.memory (l 0))
case_work BufferToTitle s l =
    cases s (l 1) (l 2) (title_cased (l 2) (not (l 3 == 0)) s.glk s.memory (l 0))
