-- Stack (Glulx 3.1.3, "The Stack").
use Rattle.std.specs.Prelude.{ℕ, ◌+◌, ◌-◌, nat_le, if◌then◌else◌}
use Rattle.std.specs.Prelude.{List, ◌++◌, length, take, drop, flat_map}
use Rattle.byteorder.specs.Endian.{big_number, big_bytes}

-- the bytes that stand, where the current frame begins, and how many bytes the stack may hold
pub record StackState : Type 0 where
  pub bytes : List ℕ
  pub frame : ℕ
  pub limit : ℕ

-- numbers of four bytes each, one after the other
abbrev pub words : List ℕ → List ℕ
words values = flat_map (big_bytes 4) values

-- the number in the n bytes at a place, or 0 where they pass the end
abbrev pub number : ℕ → List ℕ → ℕ → ℕ
number n bytes at = if nat_le (at + n) (length bytes) then big_number n (drop at bytes) else 0

-- the bytes with these in place of those at a place
abbrev pub replaced_within : List ℕ → ℕ → List ℕ → List ℕ
replaced_within bytes at new =
    if nat_le (at + length new) (length bytes)
    then take at bytes ++ new ++ drop (at + length new) bytes
    else bytes

-- FrameLen: the length of the current frame without its values, 0 where there is no frame
abbrev pub frame_len : StackState → ℕ
frame_len s = number 4 s.bytes s.frame

-- LocalsPos: where the locals of the current frame begin, from the frame's start
abbrev pub locals_pos : StackState → ℕ
locals_pos s = number 4 s.bytes (s.frame + 4)

-- how many bytes the values of the current frame have
abbrev pub value_bytes : StackState → ℕ
value_bytes s = length s.bytes - (s.frame + frame_len s)
