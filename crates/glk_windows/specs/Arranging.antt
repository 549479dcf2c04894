-- What a story sets of a window (Glk 0.7.5, "Changing Window Constraints").
use Rattle.std.specs.Prelude.{ℕ, ◌==◌, nat_le, ◌||◌, ◌&&◌, Bool, bit_and}
use Rattle.glk_windows.specs.Tree.{WindowTree, set_at, content_arranged, grid_cursor_moved}

-- a side from 0 to 3, and either fixed or proportional
abbrev pub is_method : ℕ → Bool
is_method method =
    nat_le (bit_and method 15) 3
    && (bit_and method 0x30 == 0x10 || bit_and method 0x30 == 0x20)

abbrev pub stream_set : WindowTree → ℕ → ℕ → WindowTree
stream_set t n stream = record t { slots = set_at (λ w. record w { stream = stream }) t.slots n }

abbrev pub echo_set : WindowTree → ℕ → ℕ → WindowTree
echo_set t n stream = record t { slots = set_at (λ w. record w { echo = stream }) t.slots n }

abbrev pub arrange : WindowTree → ℕ → ℕ → ℕ → ℕ → WindowTree
arrange t n method size key =
    record t {
      slots =
          set_at (λ w. record w { content = content_arranged w.content method size key }) t.slots n;
    }

abbrev pub move_to : WindowTree → ℕ → ℕ → ℕ → WindowTree
move_to t n x y =
    record t {
      slots = set_at (λ w. record w { content = grid_cursor_moved w.content x y })
          t.slots n;
    }
