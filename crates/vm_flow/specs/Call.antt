-- Calls (Glulx 3.1.3, "Calling and Returning Within Glulx").
use Rattle.std.specs.Prelude.{ℕ, ◌≡◌, ◌+◌, ◌-◌, ◌*◌, ◌==◌, ◌||◌, if◌then◌else◌, List, [], ◌∷◌, ◌++◌}
use Rattle.std.specs.Prelude.{reverse, length, take, drop, replicate, flat_map, Result, Ok, Err}
use Rattle.byteorder.specs.Endian.{big_bytes}
use Rattle.vm_memory.specs.MemoryMap.{MemoryMap}
use Rattle.vm_memory.specs.Access.{read}
use Rattle.vm_stack.specs.StackState.{StackState, words}
use Rattle.vm_stack.specs.Values.{pushed}
use Rattle.vm_stack.specs.Locals.{local_set}
use Rattle.vm_stack.specs.Frame.{aligned, entered, frame_head, fresh_frame, padding_len, locals_len}
use Rattle.vm_flow.specs.Answer.{from_stack, from_memory, and_then}
use Rattle.vm_flow.specs.Function.{format_in, IsFunction}
use Rattle.vm_flow.specs.declared.stop.FlowStop.{FlowStop}
use Rattle.vm_flow.specs.declared.stop.FlowStop.TheVariants as stop

-- locals of one type, from a place on, get values
abbrev pub pair_set : StackState → ℕ → ℕ → List ℕ → Result StackState FlowStop
pair_set s at size [] = Ok s
pair_set s at size (x ∷ xs) =
    and_then (from_stack (local_set s at size x)) (λ t. pair_set t (at + size) size xs)

-- the locals of the pairs, from a place on, get arguments in order; what is left over is dropped
abbrev pub locals_set : StackState → ℕ → List ℕ → List ℕ → Result StackState FlowStop
locals_set s at [] args = Ok s
locals_set s at (size ∷ []) args = Ok s
locals_set s at (size ∷ count ∷ rest) args =
    if size == 0 then Ok s
    else and_then (pair_set s (aligned size at) size (take count args))
    (λ t. locals_set t (aligned size at + size * count) rest (drop count args))

-- values are pushed, the last one first
abbrev pub all_pushed : StackState → List ℕ → Result StackState FlowStop
all_pushed s [] = Ok s
all_pushed s (x ∷ xs) = and_then (all_pushed s xs) (λ t. from_stack (pushed t x))

-- arguments go into the locals of a C1, and on the stack of a C0 with their count on top
abbrev pub arguments_given : ℕ → StackState → List ℕ → List ℕ → Result StackState FlowStop
arguments_given kind s format args =
    if kind == 193 then locals_set s 0 format args
    else and_then (all_pushed s args) (λ t. from_stack (pushed t (length args)))

-- a function is called: its type is read, then its list of locals; a frame is made for them; and
-- the arguments are given. Its first instruction stands behind the list
abbrev pub function_called : MemoryMap → StackState → ℕ → List ℕ
    → Result (StackState × ℕ) FlowStop
function_called m s at args =
    and_then (from_memory (read 1 m at)) (λ kind.
    if kind == 192 || kind == 193
    then and_then (format_in at (at + 1) (drop (at + 1) m.bytes)) (λ format.
    and_then (from_stack (entered s format)) (λ t.
    and_then (arguments_given kind t format args) (λ u. Ok (u, at + 1 + length format))))
    else Err (stop.BadFunction at))

-- the bytes of the locals of the pairs, from a place on, that get arguments in order: each is
-- aligned and has its argument's low bytes, or 0 where there is none; what is left over is dropped
abbrev pub locals_of : ℕ → List ℕ → List ℕ → List ℕ
locals_of at [] args = []
locals_of at (size ∷ []) args = []
locals_of at (size ∷ count ∷ rest) args =
    if size == 0 then []
    else replicate (aligned size at - at) 0
    ++ flat_map (big_bytes size) (take count (args ++ replicate count 0))
    ++ locals_of (aligned size at + size * count) rest (drop count args)

-- a frame whose locals are these bytes, and zeros up to their end
abbrev pub frame_with : List ℕ → List ℕ → List ℕ
frame_with format locals =
    frame_head format ++ replicate (padding_len format) 0
    ++ (locals ++ replicate (locals_len format - length locals) 0)

-- with a frame of these bytes on top
abbrev pub with_frame : StackState → List ℕ → StackState
with_frame s bytes = record s { bytes = s.bytes ++ bytes; frame = length s.bytes }

-- with these values on top, the last one uppermost
abbrev pub with_values : StackState → List ℕ → StackState
with_values s values = record s { bytes = s.bytes ++ words values }

-- a C1 that is called on a stack leaves a frame with its arguments in the locals, and no values
abbrev pub GetsLocals : MemoryMap → StackState → ℕ → List ℕ → StackState → Type 0
GetsLocals m s at args new =
    (format : List ℕ) → IsFunction 0xC1 m at format
    → new ≡ with_frame s (frame_with format (locals_of 0 format args))

-- a C0 leaves a frame with locals of zero, and as its values the arguments, the last one first, and
-- their count on top
abbrev pub GetsValues : MemoryMap → StackState → ℕ → List ℕ → StackState → Type 0
GetsValues m s at args new =
    (format : List ℕ) → IsFunction 0xC0 m at format
    → new ≡ with_values (with_frame s (fresh_frame format)) (reverse args ++ length args ∷ [])
