-- What each call leaves valid (own).
use Rattle.std.specs.Prelude.{◌≡◌, ℕ, ◌≤◌, ◌<◌, Bool, true, List, [], length}
use Rattle.glk_input.specs.Request.{window_input_changed, line_asked, char_asked, without_line}
use Rattle.glk_input.specs.Request.{without_char, request_ended, with_echo, with_keys, with_window}
use Rattle.glk_input.specs.Request.{without_window}
use Rattle.glk_input.specs.Valid.{are_valid_inputs}
use Rattle.glk_input.specs.declared.request.WindowInput.{WindowInput}

-- a change of one window's entry leaves valid entries valid
abbrev pub KeepsInputsValid : (WindowInput → WindowInput) → Type 0
KeepsInputsValid f = (ws : List WindowInput) (win : ℕ) → are_valid_inputs ws ≡ true
    → are_valid_inputs (window_input_changed f ws win) ≡ true

-- what calls make of valid entries is valid
pub record InputsStayValid : Type 0 where
  pub none : are_valid_inputs [] ≡ true
  pub begun : (ws : List WindowInput) (win : ℕ) → 0 < win → win < 4294967295
      → are_valid_inputs ws ≡ true → are_valid_inputs (with_window ws win) ≡ true
  pub line : (buf max init : ℕ) (unicode : Bool) → init ≤ max → init ≤ 1024
      → KeepsInputsValid (line_asked buf max init unicode)
  pub char : (unicode : Bool) → KeepsInputsValid (char_asked unicode)
  pub echo : (on : Bool) → KeepsInputsValid (with_echo on)
  pub keys : (keys : List ℕ) → length keys ≤ 13 → KeepsInputsValid (with_keys keys)
  pub line_ended : KeepsInputsValid without_line
  pub char_ended : KeepsInputsValid without_char
  pub over : KeepsInputsValid request_ended
  pub dropped : (ws : List WindowInput) (win : ℕ)
      → are_valid_inputs ws ≡ true → are_valid_inputs (without_window ws win) ≡ true
