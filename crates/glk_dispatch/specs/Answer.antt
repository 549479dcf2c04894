-- What a call does to a session's Glk state, memory and stack (own: a fault keeps the Glk state
-- that the call's work had reached).
use Rattle.std.specs.Prelude.{◌≡◌, ◌≢◌, ℕ, Bool, if◌then◌else◌, List, Vec, Result, Ok, Err}
use Rattle.vm_memory.specs.Chaining.{◌>>=◌}
use Rattle.vm_memory.specs.MemoryMap.{MemoryMap}
use Rattle.vm_memory.specs.declared.fault.Trap.{Trap}
use Rattle.vm_memory.specs.declared.fault.Trap.TheVariants.{Fault, NoMemory}
use Rattle.vm_stack.specs.StackState.{StackState}
use Rattle.glk_dispatch.specs.declared.glk.Glk.{Glk}

-- what a call works on
pub record GlkCall : Type 0 where
  pub glk : Glk
  pub memory : MemoryMap
  pub stack : StackState

abbrev pub glk_call : Glk → MemoryMap → StackState → GlkCall
glk_call g m s = record { glk = g; memory = m; stack = s }

-- a value, or a fault with the Glk state that was reached
abbrev pub Reached : Type 0 → Type 0
Reached A = Result A (Glk × ℕ)

-- what a call does: the new state and its answer, or a fault
abbrev pub CallRule : Type 0 → Type 0
CallRule A = Reached (GlkCall × A)

-- a step that leaves the Glk state alone
abbrev pub within : {A : Type 0} → Glk → Result A ℕ → Reached A
within g (Ok x) = Ok x
within g (Err n) = Err (g, n)

-- the rest, or this fault where the condition fails
abbrev pub needs : {A : Type 0} → Glk → Bool → ℕ → Reached A → Reached A
needs g holds n rest = if holds then rest else Err (g, n)

-- nothing is refused
abbrev pub Done : {A : Type 0} → A → Reached A
Done x = Ok x

-- a step that reaches the Glk state alone, in a call
abbrev pub over_glk_alone : {A : Type 0} → GlkCall → Reached (Glk × A) → CallRule A
over_glk_alone s done = done >>= (λ p. Ok (record s { glk = p.0 }, p.1))

-- The call answered this and left these, as it should, unless memory ran out. After a fault
-- nothing is said of memory and stack.
abbrev pub DoesCall : {A : Type 0} → CallRule A → Glk → MemoryMap → StackState → Result A Trap
    → Type 0
DoesCall should g m s (Ok x) = should ≡ Ok (glk_call g m s, x)
DoesCall should g m s (Err (Fault n)) = should ≡ Err (g, n)
DoesCall should g m s (Err NoMemory) = Unit {0}

-- The same of a call that doesn't reach the stack, and answers nothing.
abbrev pub LeavesGlkAndMemory : Reached (Glk × MemoryMap) → Glk → MemoryMap → Result (Unit {0}) Trap
    → Type 0
LeavesGlkAndMemory should g m (Ok x) = should ≡ Ok (g, m)
LeavesGlkAndMemory should g m (Err (Fault n)) = should ≡ Err (g, n)
LeavesGlkAndMemory should g m (Err NoMemory) = Unit {0}

-- The same of one that answers a value.
abbrev pub Gets : {A : Type 0} → Reached (Glk × MemoryMap × A) → Glk → MemoryMap
    → Result A Trap
    → Type 0
Gets should g m (Ok x) = should ≡ Ok (g, m, x)
Gets should g m (Err (Fault n)) = should ≡ Err (g, n)
Gets should g m (Err NoMemory) = Unit {0}

-- The same of a call that reaches the Glk state alone.
abbrev pub AnswersOverGlk : {A : Type 0} → Reached (Glk × A) → Glk → Result A Trap → Type 0
AnswersOverGlk should g (Ok x) = should ≡ Ok (g, x)
AnswersOverGlk should g (Err (Fault n)) = should ≡ Err (g, n)
AnswersOverGlk should g (Err NoMemory) = Unit {0}

-- The same of one that answers nothing.
abbrev pub ChangesGlk : Reached Glk → Glk → Result (Unit {0}) Trap → Type 0
ChangesGlk should g (Ok x) = should ≡ Ok g
ChangesGlk should g (Err (Fault n)) = should ≡ Err (g, n)
ChangesGlk should g (Err NoMemory) = Unit {0}

-- The call left this memory and this stack, as it should, unless memory ran out.
abbrev pub LeavesMemoryAndStack : Result (MemoryMap × StackState) ℕ → MemoryMap → StackState
    → Result (Unit {0}) Trap → Type 0
LeavesMemoryAndStack should m s (Ok x) = should ≡ Ok (m, s)
LeavesMemoryAndStack should m s (Err (Fault n)) = should ≡ Err n
LeavesMemoryAndStack should m s (Err NoMemory) = Unit {0}

-- The call answered this and left this value, as it should, unless memory ran out.
abbrev pub AnswersAndLeaves : {S A : Type 0} → Result (S × A) ℕ → S → Result A Trap → Type 0
AnswersAndLeaves should new (Ok x) = should ≡ Ok (new, x)
AnswersAndLeaves should new (Err (Fault n)) = should ≡ Err n
AnswersAndLeaves should new (Err NoMemory) = Unit {0}

-- The call answered this, as it should, unless memory ran out.
abbrev pub MakesAnswer : {A : Type 0} → Result A ℕ → Result A Trap → Type 0
MakesAnswer should (Ok x) = should ≡ Ok x
MakesAnswer should (Err (Fault n)) = should ≡ Err n
MakesAnswer should (Err NoMemory) = Unit {0}

-- The call left this memory, as it should, unless memory ran out.
abbrev pub WritesMemory : Result MemoryMap ℕ → MemoryMap → Result (Unit {0}) Trap → Type 0
WritesMemory should m (Ok x) = should ≡ Ok m
WritesMemory should m (Err (Fault n)) = should ≡ Err n
WritesMemory should m (Err NoMemory) = Unit {0}

-- The same of a call that reaches the Glk state alone and gives a vector, seen as its items.
abbrev pub AnswersItems : {A Z : Type 0} → Reached (Glk × List A) → Glk → Result (Vec A Z) Trap
    → Type 0
AnswersItems should g (Ok v) = should ≡ Ok (g, v.items)
AnswersItems should g (Err (Fault n)) = should ≡ Err (g, n)
AnswersItems should g (Err NoMemory) = Unit {0}

-- The same of one that changes nothing.
abbrev pub Lists : {A Z : Type 0} → Result (List A) ℕ → Result (Vec A Z) Trap → Type 0
Lists should (Ok v) = should ≡ Ok v.items
Lists should (Err (Fault n)) = should ≡ Err n
Lists should (Err NoMemory) = Unit {0}

-- So it is, unless memory ran out.
abbrev pub UnlessNoMemory : {A : Type 0} → Result A Trap → Type 0 → Type 0
UnlessNoMemory (Ok x) Is = Is
UnlessNoMemory (Err (Fault n)) Is = Is
UnlessNoMemory (Err NoMemory) Is = Unit {0}

-- The call takes no memory, so it isn't refused for want of it.
abbrev pub CallTakesNoMemory : {A : Type 0} → Result A Trap → Type 0
CallTakesNoMemory (Ok x) = Unit {0}
CallTakesNoMemory (Err trap) = trap ≢ NoMemory
