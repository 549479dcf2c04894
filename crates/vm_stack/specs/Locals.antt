-- Locals (Glulx 3.1.3, "The Call Frame").
use Rattle.std.specs.Prelude.{ℕ, ◌≡◌, ◌⊎◌, ◌+◌, ◌-◌, nat_le, if◌then◌else◌, Result, Ok, Err}
use Rattle.byteorder.specs.Endian.{big_bytes}
use Rattle.vm_stack.specs.StackState.{StackState, number, replaced_within, frame_len, locals_pos}
use Rattle.vm_stack.specs.declared.fault.StackFault.{StackFault}
use Rattle.vm_stack.specs.declared.fault.StackFault.TheVariants.{BadLocal}

-- a local has 1, 2 or 4 bytes
abbrev pub IsWidth : ℕ → Type 0
IsWidth n = (n ≡ 1) ⊎ ((n ≡ 2) ⊎ (n ≡ 4))

-- where the local at an offset stands
abbrev pub local_at : StackState → ℕ → ℕ
local_at s offset = s.frame + locals_pos s + offset

-- the local of n bytes at an offset; the padding at the locals' end counts as locals
abbrev pub local : StackState → ℕ → ℕ → Result ℕ StackFault
local s offset n =
    if nat_le (offset + n) (frame_len s - locals_pos s)
    then Ok (number n s.bytes (local_at s offset))
    else Err BadLocal

-- with the low n bytes of x in that local
abbrev pub local_set : StackState → ℕ → ℕ → ℕ → Result StackState StackFault
local_set s offset n x =
    if nat_le (offset + n) (frame_len s - locals_pos s)
    then Ok (record s { bytes = replaced_within s.bytes (local_at s offset) (big_bytes n x) })
    else Err BadLocal
