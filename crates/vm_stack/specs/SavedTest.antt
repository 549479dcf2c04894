-- Saved stacks, as a test of their bytes (Glulx 3.1.3, "Contents of the Stack").
use Rattle.std.specs.Prelude.{ℕ, zero, suc, ◌+◌, ◌-◌, ◌%◌, ◌==◌, ◌&&◌, ◌||◌, nat_le, nat_lt, Bool}
use Rattle.std.specs.Prelude.{List, length, take, drop}
use Rattle.std.specs.Str.{bytes_eq}
use Rattle.vm_stack.specs.StackState.{number}
use Rattle.vm_stack.specs.Frame.{frame_head, frame_len_of}
use Rattle.vm_stack.specs.Saved.{format_from}

-- the bytes are one frame of this format with room for a stub among its values
abbrev pub is_frame_of : List ℕ → List ℕ → Bool
is_frame_of format xs =
    nat_lt 0 (length format) && (nat_le (frame_len_of format + 16) (length xs)
    && (length xs % 4 == 0 && bytes_eq (take (8 + length format) xs) (frame_head format)))

-- the bytes are one frame with room for a stub among its values
abbrev pub is_one_frame : List ℕ → Bool
is_one_frame xs = is_frame_of (take (format_from 0 (drop 8 xs)) (drop 8 xs)) xs

-- a frame begins at this place, and what lies below it passes the test
abbrev pub is_frame_over : (List ℕ → Bool) → List ℕ → ℕ → Bool
is_frame_over below xs at =
    nat_lt at (length xs) && (is_one_frame (drop at xs) && below (take at xs))

-- the bytes are frames down to 0, so many at most, each named by the last word before its end
unfoldable pub are_linked : ℕ → List ℕ → Bool
are_linked zero xs = length xs == 0
are_linked (suc n) xs =
    length xs == 0 || is_frame_over (are_linked n) xs (number 4 xs (length xs - 4))

-- the same with a frame at least
unfoldable pub is_saved_stack : List ℕ → Bool
is_saved_stack xs = nat_lt 0 (length xs) && are_linked (length xs) xs
