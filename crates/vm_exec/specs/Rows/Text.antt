-- Texts in progress: strings and numbers, piece by piece (Glulx 3.1.3, "Output", "Strings").
use Rattle.std.specs.Prelude.{ℕ, zero, suc, ◌+◌, ◌==◌, ◌||◌, Bool, true, false, if◌then◌else◌, List}
use Rattle.std.specs.Prelude.{[], ◌∷◌, slice_index, Result, Ok, Err}
use Rattle.vm_memory.specs.Chaining.{◌>>=◌}
use Rattle.vm_memory.specs.Access.{read}
use Rattle.vm_memory.specs.Fault as memory
use Rattle.vm_memory.specs.MemoryMap.{MemoryMap}
use Rattle.vm_string.specs.Fault as string
use Rattle.vm_string.specs.Next.{piece_after}
use Rattle.vm_string.specs.declared.piece.Cursor.{Cursor}
use Rattle.vm_string.specs.declared.piece.Piece.{Piece}
use Rattle.vm_string.specs.declared.piece.Piece.TheVariants as piece
use Rattle.vm_exec.specs.Number.{number_text}
use Rattle.vm_exec.specs.Rules.{Rule, goes, tells_out, enters, wrap}
use Rattle.vm_exec.specs.TextStub.{string_stub, suspended, unstubbed, number_left, text_on}
use Rattle.vm_memory.specs.declared.faults.TheConstants.{BAD_STRING}
use Rattle.vm_exec.specs.declared.machine.Machine.{Machine}
use Rattle.vm_exec.specs.declared.step.Out.TheVariants.{Ran, Char}
use Rattle.vm_exec.specs.declared.text.Text.TheVariants.{Pieces, Number}

-- a character of a text goes to Glk, or nowhere
abbrev pub shows : Machine → ℕ → Rule
shows m x = tells_out m (if m.mode == 2 then Char x else Ran)

-- a string begins, before the first byte of its object
abbrev pub begins_string : Machine → ℕ → Bool → Rule
begins_string m at held =
    goes (record m { text = Pieces (record { kind = 0; at = at; bit = 0 }) held })

-- a number begins
abbrev pub numbers : Machine → ℕ → Rule
numbers m value = goes (record m { text = Number value 0 false })

-- a string makes way at a cursor
abbrev pub paused : Machine → Cursor → Bool → Result Machine ℕ
paused m c held = suspended m held (string_stub c.kind) c.bit c.at

-- a function is called, over the stubs of a string that goes on at a cursor
abbrev pub calls_from : Machine → ℕ → List ℕ → Cursor → Bool → Rule
calls_from m at args c held = paused m c held >>= (λ n. enters n at args)

-- a character of a string that goes on at a cursor
abbrev pub says : Machine → ℕ → Cursor → Bool → Rule
says m x c held =
    if m.mode == 1 then calls_from m m.rock (x ∷ []) c held
    else shows (record m { text = Pieces c held }) x

-- n words from an address on
unfoldable pub words_at : MemoryMap → ℕ → ℕ → Result (List ℕ) ℕ
words_at m at zero = Ok []
words_at m at (suc n) =
    memory.coded (read 4 m at) >>= (λ x. words_at m (at + 4) n >>= (λ xs. Ok (x ∷ xs)))

-- a string in a string begins
abbrev pub nests : Machine → ℕ → Cursor → Bool → Rule
nests m at c held = paused m c held >>= (λ n. begins_string n at true)

-- an object that a string refers to: a string is printed, a function called with the n arguments
-- that stand at an address; all that is read comes before the stubs
abbrev pub refers_to_object : Machine → ℕ → ℕ → ℕ → Cursor → Bool → Rule
refers_to_object m at args_at n c held = memory.coded (read 1 m.memory at) >>= (λ kind.
    if kind == 0xE0 || kind == 0xE1 || kind == 0xE2
    then nests m at c held
    else (if kind == 0xC0 || kind == 0xC1
    then words_at m.memory args_at n >>= (λ args. calls_from m at args c held)
    else Err BAD_STRING))

-- a string's end goes on at the stub on top, where one was pushed, or else with the code
abbrev pub ends_string : Machine → Bool → Rule
ends_string m false = goes m
ends_string m true = unstubbed m >>= (λ x. text_on x.0 x.1 >>= goes)

abbrev pub pieced : Machine → Bool → Piece → Cursor → Rule
pieced m held (piece.Char x) c = says m x c held
pieced m held (piece.Call at args_at args) c = refers_to_object m at args_at args c held
pieced m held piece.End c = ends_string m held

-- the next piece of a string
abbrev pub string_rule : Machine → Cursor → Bool → Rule
string_rule m c held =
    string.string_coded (piece_after m.memory m.string_table c) >>= (λ x. pieced m held x.0 x.1)

-- a number makes way to the function at the rock, which gets its character at a place
abbrev pub number_calls : Machine → ℕ → ℕ → Bool → Rule
number_calls m value place held =
    suspended m held 0x12 (wrap (place + 1)) value
    >>= (λ n. enters n n.rock (slice_index (number_text value) place ∷ []))

-- the next character of a number, at a place
abbrev pub number_rule : Machine → ℕ → ℕ → Bool → Rule
number_rule m value place held =
    if m.mode == 1 then number_calls m value place held
    else shows (number_left m value (wrap (place + 1)) held)
    (slice_index (number_text value) place)
