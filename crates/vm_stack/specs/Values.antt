-- Values (Glulx 3.1.3, "The Stack").
use Rattle.std.specs.Prelude.{ℕ, ◌+◌, ◌-◌, ◌*◌, ◌/◌, ◌%◌, ◌==◌, nat_le, nat_lt, if◌then◌else◌, List}
use Rattle.std.specs.Prelude.{◌++◌, length, take, drop, Result, Ok, Err}
use Rattle.byteorder.specs.Endian.{big_bytes}
use Rattle.vm_stack.specs.StackState.{StackState, number, value_bytes}
use Rattle.vm_stack.specs.declared.fault.StackFault.{StackFault}
use Rattle.vm_stack.specs.declared.fault.StackFault.TheVariants.{Overflow, Underflow}

-- with these bytes on top, where they fit
abbrev pub appended : StackState → List ℕ → Result StackState StackFault
appended s new =
    if nat_le (length s.bytes + length new) s.limit
    then Ok (record s { bytes = s.bytes ++ new })
    else Err Overflow

-- with a value on top
abbrev pub pushed : StackState → ℕ → Result StackState StackFault
pushed s x = appended s (big_bytes 4 x)

-- without the n bytes on top
abbrev pub without_top : StackState → ℕ → StackState
without_top s n = record s { bytes = take (length s.bytes - n) s.bytes }

-- without the value on top, and that value
abbrev pub popped : StackState → Result (StackState × ℕ) StackFault
popped s =
    if nat_le 4 (value_bytes s)
    then Ok (without_top s 4, number 4 s.bytes (length s.bytes - 4))
    else Err Underflow

-- how many values the current frame holds
abbrev pub value_count : StackState → ℕ
value_count s = value_bytes s / 4

-- the value at a depth, 0 the top
abbrev pub peeked : StackState → ℕ → Result ℕ StackFault
peeked s depth =
    if nat_le (4 * (depth + 1)) (value_bytes s)
    then Ok (number 4 s.bytes (length s.bytes - 4 * (depth + 1)))
    else Err Underflow

-- by how many places a signed number of 32 bits turns n values towards the top
abbrev pub turn : ℕ → ℕ → ℕ
turn n by =
    if n == 0 then 0
    else (if nat_lt by 2147483648 then by % n else (n - (4294967296 - by) % n) % n)

-- the list turned by k places towards its end
abbrev pub rotated : List ℕ → ℕ → List ℕ
rotated bytes k = drop (length bytes - k) bytes ++ take (length bytes - k) bytes

-- the n values on top turned towards the top
abbrev pub rolled : StackState → ℕ → ℕ → Result StackState StackFault
rolled s n by =
    if nat_le (4 * n) (value_bytes s)
    then Ok (record s {
      bytes = take (length s.bytes - 4 * n) s.bytes
          ++ rotated (drop (length s.bytes - 4 * n) s.bytes) (4 * turn n by);
    })
    else Err Underflow
