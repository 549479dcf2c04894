-- What opcodes are made of: loads, stores, branches, calls (Glulx 3.1.3, "Instruction Format").
use Rattle.std.specs.Prelude.{ℕ, zero, suc, ◌+◌, ◌-◌, ◌%◌, ◌^◌, ◌==◌}
use Rattle.std.specs.Prelude.{◌||◌, nat_le, Bool, if◌then◌else◌, List, []}
use Rattle.std.specs.Prelude.{◌∷◌, slice_set, Option, Some, None, Result, Ok, Err}
use Rattle.vm_memory.specs.Chaining.{◌>>=◌}
use Rattle.vm_memory.specs.Access.{read, written}
use Rattle.vm_memory.specs.Fault.{coded}
use Rattle.vm_operand.specs.declared.operand.Load as l
use Rattle.vm_operand.specs.declared.operand.Load.TheVariants as load
use Rattle.vm_operand.specs.declared.operand.Dest as d
use Rattle.vm_operand.specs.declared.operand.Dest.TheVariants as dest
use Rattle.vm_stack.specs.StackState.{StackState}
use Rattle.vm_stack.specs.Values.{pushed, popped}
use Rattle.vm_stack.specs.Locals.{local, local_set}
use Rattle.vm_stack.specs.Stub.{stub_pushed}
use Rattle.vm_stack.specs.declared.stub.Stub.{Stub}
use Rattle.vm_flow.specs.Call.{function_called}
use Rattle.vm_flow.specs.Return.{given_back}
use Rattle.vm_exec.specs.Fault.{stacked, flowed}
use Rattle.vm_exec.specs.TextStub.{text_on}
use Rattle.vm_memory.specs.declared.faults.TheConstants.{BAD_STUB}
use Rattle.vm_exec.specs.declared.machine.Machine.{Machine}
use Rattle.vm_exec.specs.declared.step.Out.{Out}
use Rattle.vm_exec.specs.declared.step.Out.TheVariants.{Ran, Char, Quit}

-- what an opcode does: the new machine with what it tells, or a fault
abbrev pub Rule : Type 0
Rule = Result (Machine × Out) ℕ

-- a number modulo 2^32
abbrev pub wrap : ℕ → ℕ
wrap n = n % 2 ^ 32

-- a value of n bytes; four keep it whole
abbrev pub low_bytes : ℕ → ℕ → ℕ
low_bytes n x = if n == 4 then x else x % 256 ^ n

-- a load of n bytes
abbrev pub operand_loaded : ℕ → Machine → l.Load → Result (Machine × ℕ) ℕ
operand_loaded n m (load.Value x) = Ok (m, low_bytes n x)
operand_loaded n m (load.At a) = coded (read n m.memory a) >>= (λ x. Ok (m, x))
operand_loaded n m (load.Local o) = stacked (local m.stack o n) >>= (λ x. Ok (m, x))
operand_loaded n m load.Pop =
    stacked (popped m.stack) >>= (λ p. Ok (record m { stack = p.0 }, low_bytes n p.1))

-- loads from left to right into places from i on
unfoldable pub loaded_all : ℕ → Machine → List l.Load → ℕ → List ℕ
    → Result (Machine × List ℕ) ℕ
loaded_all n m [] i args = Ok (m, args)
loaded_all n m (x ∷ xs) i args =
    operand_loaded n m x >>= (λ a. loaded_all n a.0 xs (i + 1) (slice_set args i a.1))

-- a store of n bytes; what is pushed has four
abbrev pub stored_in : ℕ → Machine → d.Dest → ℕ → Result Machine ℕ
stored_in n m dest.Discard x = Ok m
stored_in n m (dest.At a) x =
    coded (written n m.memory a x) >>= (λ memory. Ok (record m { memory = memory }))
stored_in n m (dest.Local o) x =
    stacked (local_set m.stack o n x) >>= (λ stack. Ok (record m { stack = stack }))
stored_in n m dest.Push x =
    stacked (pushed m.stack x) >>= (λ stack. Ok (record m { stack = stack }))

abbrev pub stored : Machine → d.Dest → ℕ → Result Machine ℕ
stored m to x = stored_in 4 m to x

abbrev pub tells_out : Machine → Out → Rule
tells_out m out = Ok (m, out)

-- nothing is told
abbrev pub goes : Machine → Rule
goes m = tells_out m Ran

-- the value is stored
abbrev pub puts : Machine → d.Dest → ℕ → Rule
puts m to x = stored m to x >>= goes

-- n bytes are read into a store
abbrev pub reads_to : Machine → d.Dest → ℕ → ℕ → Rule
reads_to m to n at = coded (read n m.memory at) >>= puts m to

-- n bytes are written
abbrev pub writes : Machine → ℕ → ℕ → ℕ → Rule
writes m n at x =
    coded (written n m.memory at x) >>= (λ memory. goes (record m { memory = memory }))

-- the call stub that stores a result there and goes on behind this instruction
abbrev pub stub_for : Machine → d.Dest → Stub
stub_for m dest.Discard = record { kind = 0; at = 0; pc = m.pc; frame = m.stack.frame }
stub_for m (dest.At a) = record { kind = 1; at = a; pc = m.pc; frame = m.stack.frame }
stub_for m (dest.Local o) = record { kind = 2; at = o; pc = m.pc; frame = m.stack.frame }
stub_for m dest.Push = record { kind = 3; at = 0; pc = m.pc; frame = m.stack.frame }

-- where the result goes that a stub waits for
abbrev pub stub_dest : Stub → Result d.Dest ℕ
stub_dest s =
    if s.kind == 0 then Ok dest.Discard
    else (if s.kind == 1 then Ok (dest.At s.at)
    else (if s.kind == 2 then Ok (dest.Local s.at)
    else (if s.kind == 3 then Ok dest.Push else Err BAD_STUB)))

-- the function begins, over what is on the stack
abbrev pub enters : Machine → ℕ → List ℕ → Rule
enters m at args =
    flowed (function_called m.memory m.stack at args)
    >>= (λ x. goes (record m { stack = x.0; pc = x.1 }))

-- with the stub for a store on the stack
abbrev pub with_stub : Machine → d.Dest → Result Machine ℕ
with_stub m to =
    stacked (stub_pushed m.stack (stub_for m to)) >>= (λ stack. Ok (record m { stack = stack }))

-- a call whose result is stored there
abbrev pub calls : Machine → ℕ → List ℕ → d.Dest → Rule
calls m at args to = with_stub m to >>= (λ n. enters n at args)

-- the story goes on at a stub, whose result is this value; a text drops it
abbrev pub resumes : Machine → Stub → ℕ → Rule
resumes m s x =
    if nat_le s.kind 3 then stub_dest s >>= (λ to. puts (record m { pc = s.pc }) to x)
    else text_on m s >>= goes

abbrev pub goes_on : Machine → Option Stub → ℕ → Rule
goes_on m None x = tells_out m Quit
goes_on m (Some s) x = resumes m s x

-- a return from the current function; that of the start function ends the story
abbrev pub returns : Machine → ℕ → Rule
returns m x = flowed (given_back m.stack) >>= (λ s. goes_on (record m { stack = s.0 }) s.1 x)

-- a branch: an offset of 0 or 1 returns that value
abbrev pub branches : Machine → ℕ → Rule
branches m offset =
    if offset == 0 || offset == 1 then returns m offset
    else goes (record m { pc = wrap (m.pc + offset + (2 ^ 32 - 2)) })

abbrev pub when : Machine → Bool → ℕ → Rule
when m b offset = if b then branches m offset else goes m

-- the top n values, the top first
unfoldable pub arguments : StackState → ℕ → Result (StackState × List ℕ) ℕ
arguments s zero = Ok (s, [])
arguments s (suc n) = stacked (popped s)
    >>= (λ p. arguments p.0 n >>= (λ q. Ok (q.0, p.1 ∷ q.1)))

-- with the top n values taken
abbrev pub with_arguments : Machine → ℕ → (Machine → List ℕ → Rule) → Rule
with_arguments m n f = arguments m.stack n >>= (λ q. f (record m { stack = q.0 }) q.1)

-- a character under the I/O system
abbrev pub streams : Machine → ℕ → Rule
streams m x =
    if m.mode == 2 then tells_out m (Char x)
    else (if m.mode == 1 then calls m m.rock (x ∷ []) dest.Discard else goes m)
