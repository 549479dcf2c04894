-- Requests as calls leave them (own).
use Rattle.std.specs.Prelude.{ℕ, ◌&&◌, nat_le, Bool, true, List, [], ◌∷◌, length}
use Rattle.std.specs.Prelude.{Option, Some, None}
use Rattle.glk_numbers.specs.Numbered.{ascends}
use Rattle.glk_input.specs.Request.{input_window_number}
use Rattle.glk_input.specs.declared.request.LineRequest.{LineRequest}
use Rattle.glk_input.specs.declared.request.Request.{Request}
use Rattle.glk_input.specs.declared.request.Request.TheVariants.{Line, Char}
use Rattle.glk_input.specs.declared.request.WindowInput.{WindowInput}

-- at most 13 terminators
abbrev pub are_few : List ℕ → Bool
are_few keys = nat_le (length keys) 13

-- a line begins with at most its maximum of characters, and with at most 1,024; it has at most 13
-- terminators
abbrev pub is_line : LineRequest → Bool
is_line r = nat_le r.init r.max && nat_le r.init 1024 && are_few r.keys

abbrev pub is_request : Option Request → Bool
is_request (Some (Line r)) = is_line r
is_request (Some (Char unicode)) = true
is_request None = true

-- a window's request is one, and it has at most 13 terminators for later lines
abbrev pub is_window_input : WindowInput → Bool
is_window_input w = are_few w.keys && is_request w.request

abbrev pub are_windows : List WindowInput → Bool
are_windows [] = true
are_windows (w ∷ ws) = is_window_input w && are_windows ws

-- the windows' numbers ascend, from 1 to 4,294,967,294, and their requests are valid
abbrev pub are_valid_inputs : List WindowInput → Bool
are_valid_inputs ws = ascends input_window_number 0 4294967295 ws && are_windows ws
