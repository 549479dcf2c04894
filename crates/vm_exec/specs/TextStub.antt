-- Texts that go out piece by piece, and their call stubs (Glulx 3.1.3, "Call Stubs", "Output").
use Rattle.std.specs.Prelude.{ℕ, ◌==◌, ◌||◌, nat_lt, Bool, true, false, if◌then◌else◌, length}
use Rattle.std.specs.Prelude.{Result, Ok, Err}
use Rattle.vm_stack.specs.Stub.{stub_pushed, stub_taken}
use Rattle.vm_stack.specs.declared.stub.Stub.{Stub}
use Rattle.vm_exec.specs.Fault.{stacked}
use Rattle.vm_exec.specs.Number.{number_text}
use Rattle.vm_memory.specs.Chaining.{◌>>=◌}
use Rattle.vm_memory.specs.declared.faults.TheConstants.{BAD_STUB}
use Rattle.vm_exec.specs.declared.machine.Machine.{Machine}
use Rattle.vm_exec.specs.declared.text.Text.TheVariants.{Pieces, Number}

-- the type of the stub that goes on with a string of this kind
abbrev pub string_stub : ℕ → ℕ
string_stub kind = if kind == 0xE1 then 0x10 else (if kind == 0xE0 then 0x13 else 0x14)

-- with a stub for the current frame on top
abbrev pub stubbed : Machine → ℕ → ℕ → ℕ → Result Machine ℕ
stubbed m kind at pc =
    stacked (stub_pushed m.stack
    (record { kind = kind; at = at; pc = pc; frame = m.stack.frame }))
    >>= (λ stack. Ok (record m { stack = stack }))

-- with the stub for the code behind the text, which is pushed once
abbrev pub with_end : Machine → Bool → Result Machine ℕ
with_end m true = Ok m
with_end m false = stubbed m 0x11 0 m.pc

-- a text makes way: the stub for its end is on the stack, and on top one for what is left of it
abbrev pub suspended : Machine → Bool → ℕ → ℕ → ℕ → Result Machine ℕ
suspended m held kind at pc = with_end m held >>= (λ n. stubbed n kind at pc)

-- without the stub on top, which has to be for the current frame
abbrev pub unstubbed : Machine → Result (Machine × Stub) ℕ
unstubbed m =
    stacked (stub_taken m.stack) >>= (λ x.
    if x.1.frame == m.stack.frame then Ok (record m { stack = x.0 }, x.1) else Err BAD_STUB)

-- behind the last character of a number the code goes on
abbrev pub number_over : Machine → Bool → Result Machine ℕ
number_over m false = Ok m
number_over m true =
    unstubbed m >>= (λ x.
    if x.1.kind == 0x11 then Ok (record x.0 { pc = x.1.pc }) else Err BAD_STUB)

-- what is left of a number from a place on
abbrev pub number_on : Machine → ℕ → ℕ → Bool → Result Machine ℕ
number_on m value place held =
    if nat_lt place (length (number_text value))
    then Ok (record m { text = Number value place held })
    else number_over m held

-- a number whose next character stands at a place; one that is at its end, and has its stub on the
-- stack, takes that stub before what comes next
abbrev pub number_left : Machine → ℕ → ℕ → Bool → Machine
number_left m value place held =
    if held || nat_lt place (length (number_text value))
    then record m { text = Number value place held } else m

-- what is left of a string of this kind, at the place that a stub names
abbrev pub string_on : Machine → ℕ → Stub → Result Machine ℕ
string_on m kind s =
    Ok (record m { text = Pieces (record { kind = kind; at = s.pc; bit = s.at }) true })

-- the text goes on at a stub, or the code behind it; fault 13 for a stub of no text
unfoldable pub text_on : Machine → Stub → Result Machine ℕ
text_on m s =
    if s.kind == 0x10 then string_on m 0xE1 s
    else (if s.kind == 0x11 then Ok (record m { pc = s.pc })
    else (if s.kind == 0x12 then number_on m s.pc s.at true
    else (if s.kind == 0x13 then string_on m 0xE0 s
    else (if s.kind == 0x14 then string_on m 0xE2 s
    else Err BAD_STUB))))
