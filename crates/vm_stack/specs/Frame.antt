-- Call frames (Glulx 3.1.3, "The Call Frame").
use Rattle.std.specs.Prelude.{ℕ, ◌+◌, ◌-◌, ◌*◌, ◌/◌, ◌%◌, ◌==◌, nat_le, if◌then◌else◌, List, []}
use Rattle.std.specs.Prelude.{◌∷◌, ◌++◌, length, take, replicate, Result, Ok, ◌≡◌, ◌⊎◌, slice_index}
use Rattle.std.specs.Prelude.{Err}
use Rattle.byteorder.specs.Endian.{big_bytes}
use Rattle.vm_stack.specs.StackState.{StackState, number, words}
use Rattle.vm_stack.specs.declared.fault.StackFault.{StackFault}
use Rattle.vm_stack.specs.declared.fault.StackFault.TheVariants.{Overflow, Underflow}

-- the next multiple of n
abbrev pub aligned : ℕ → ℕ → ℕ
aligned n at = (at + (n - 1)) / n * n

-- where the locals of the pairs of type and count end that begin after a place; each local is
-- aligned to its size
abbrev pub locals_end : ℕ → List ℕ → ℕ
locals_end at [] = at
locals_end at (size ∷ []) = at
locals_end at (size ∷ count ∷ rest) =
    if size == 0 then at else locals_end (aligned size at + size * count) rest

-- LocalsPos of a frame of this format
abbrev pub locals_pos_of : List ℕ → ℕ
locals_pos_of format = aligned 4 (8 + length format)

-- how many bytes stand between the format and the locals
abbrev pub padding_len : List ℕ → ℕ
padding_len format = locals_pos_of format - (8 + length format)

-- how many bytes the locals have, with the padding at their end
abbrev pub locals_len : List ℕ → ℕ
locals_len format = aligned 4 (locals_end 0 format)

-- FrameLen of a frame of this format
abbrev pub frame_len_of : List ℕ → ℕ
frame_len_of format = locals_pos_of format + locals_len format

-- FrameLen, LocalsPos and the format
abbrev pub frame_head : List ℕ → List ℕ
frame_head format =
    big_bytes 4 (frame_len_of format) ++ big_bytes 4 (locals_pos_of format) ++ format

-- a new frame: its padding and its locals are zero
abbrev pub fresh_frame : List ℕ → List ℕ
fresh_frame format =
    frame_head format ++ replicate (padding_len format) 0 ++ replicate (locals_len format) 0

-- no locals, or so many of four bytes: the list is `0 0` or `4 N 0 0`
abbrev pub IsPlain : List ℕ → Type 0
IsPlain format =
    (format ≡ 0 ∷ 0 ∷ []) ⊎ (format ≡ 4 ∷ slice_index format 1 ∷ 0 ∷ 0 ∷ [])

-- so many values, in order, and 0 where there are no more; what is left over is dropped
abbrev pub filled : ℕ → List ℕ → List ℕ
filled count values = take count (values ++ replicate count 0)

-- a new frame whose padding is zero and whose locals are words
abbrev pub frame_of_words : List ℕ → List ℕ → List ℕ
frame_of_words format values =
    frame_head format ++ replicate (padding_len format) 0 ++ words values

-- with a new frame on top, where it fits
abbrev pub entered : StackState → List ℕ → Result StackState StackFault
entered s format =
    if nat_le (length s.bytes + frame_len_of format) s.limit
    then Ok (record s { bytes = s.bytes ++ fresh_frame format; frame = length s.bytes })
    else Err Overflow

-- these bytes; the current frame is the one that the FramePtr on top names
abbrev pub in_named_frame : StackState → List ℕ → StackState
in_named_frame s bytes = record s { bytes = bytes; frame = number 4 bytes (length bytes - 4) }

-- without the current frame
abbrev pub frame_left : StackState → StackState
frame_left s = in_named_frame s (take s.frame s.bytes)

-- without all from a place on, where that is a multiple of four and not past the top
abbrev pub cut_to : StackState → ℕ → Result StackState StackFault
cut_to s to =
    if nat_le to (length s.bytes)
    then (if to % 4 == 0 then Ok (in_named_frame s (take to s.bytes)) else Err Underflow)
    else Err Underflow

-- with these bytes in place of its own, where they fit
abbrev pub stack_loaded : StackState → List ℕ → Result StackState StackFault
stack_loaded s bytes =
    if nat_le (length bytes) s.limit then Ok (in_named_frame s bytes) else Err Overflow
