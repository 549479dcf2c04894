-- Tokens of catch and throw (Glulx 3.1.3, "Continuations").
use Rattle.std.specs.Prelude.{ℕ, ◌+◌, ◌-◌, ◌%◌, ◌==◌, ◌&&◌, nat_le, Bool, length}
use Rattle.vm_stack.specs.StackState.{StackState, number, frame_len}

-- a stub for the current frame ends at this place, among the frame's values
abbrev pub ends_stub : StackState → ℕ → Bool
ends_stub s token =
    nat_le (s.frame + frame_len s + 16) token && nat_le token (length s.bytes)
    && token % 4 == 0 && number 4 s.bytes (token - 4) == s.frame
