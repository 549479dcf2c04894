-- What a call leaves at its references (Glk 0.7.5, "The Dispatch Layer"; Glulx 3.1.3,
-- "Miscellaneous").
use Rattle.std.specs.Prelude.{ℕ, ◌+◌, ◌%◌, ◌^◌, ◌==◌, ◌||◌, if◌then◌else◌, List, [], ◌∷◌, Result}
use Rattle.std.specs.Prelude.{Ok}
use Rattle.vm_memory.specs.Chaining.{◌>>=◌}
use Rattle.vm_memory.specs.MemoryMap.{MemoryMap}
use Rattle.vm_memory.specs.Access.{written}
use Rattle.vm_memory.specs.Fault.{coded}
use Rattle.vm_stack.specs.StackState.{StackState}
use Rattle.vm_stack.specs.Values.{pushed}
use Rattle.glk_dispatch.specs.Answer.{GlkCall, Reached, CallRule, within}
use Rattle.glk_dispatch.specs.Fault.{stacked}
use Rattle.glk_dispatch.specs.declared.called.Called.{Called}
use Rattle.glk_dispatch.specs.declared.called.Called.TheVariants.{Value}

-- a word at a reference: nowhere for 0, on the stack for 0xFFFFFFFF, else at the address
abbrev pub word_referred : MemoryMap → StackState → ℕ → ℕ
    → Result (MemoryMap × StackState) ℕ
word_referred m s at x =
    if at == 0 then Ok (m, s)
    else (if at == 4294967295
    then stacked (pushed s x) >>= (λ t. Ok (m, t))
    else coded (written 4 m at x) >>= (λ n. Ok (n, s)))

-- the reference of the next word of a structure
abbrev pub next_field : ℕ → ℕ
next_field at = if at == 0 || at == 4294967295 then at else (at + 4) % 2 ^ 32

-- a structure's words in order at a reference, the last on top of the stack
abbrev pub referred_all : MemoryMap → StackState → ℕ → List ℕ
    → Result (MemoryMap × StackState) ℕ
referred_all m s at [] = Ok (m, s)
referred_all m s at (x ∷ xs) =
    word_referred m s at x >>= (λ p. referred_all p.0 p.1 (next_field at) xs)

-- the same in a call
abbrev pub refers : GlkCall → ℕ → ℕ → Reached GlkCall
refers s at x =
    within s.glk (word_referred s.memory s.stack at x)
    >>= (λ p. Ok (record s { memory = p.0; stack = p.1 }))

abbrev pub refers_all : GlkCall → ℕ → List ℕ → Reached GlkCall
refers_all s at xs =
    within s.glk (referred_all s.memory s.stack at xs)
    >>= (λ p. Ok (record s { memory = p.0; stack = p.1 }))

-- the call answers this number
abbrev pub gives : ℕ → GlkCall → CallRule Called
gives x s = Ok (s, Value x)
