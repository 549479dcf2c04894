-- What is counted of each session while rows are read (own).
use Rattle.std.specs.Prelude.{◌≡◌, ℕ, ◌<◌, min, if◌then◌else◌, List, length, slice_index}
use Rattle.gate_journal.specs.declared.command.Command.{Command}
use Rattle.gate_journal.specs.declared.row.Row.{Row}
use Rattle.gate_journal.specs.Rows.{commands_of, is_free}

-- a session is in use, as a number
abbrev pub use_of : List Command → ℕ
use_of commands = if is_free commands then 0 else 1

-- of each session the number of its rows, up to 8,192, and 1 where it is in use
pub record CountsRows (rows : List Row) (counts uses : List ℕ) : Type 0 where
  pub count :
      (s : ℕ) → s < 64 → slice_index counts s ≡ min (length (commands_of rows s)) 8192
  pub used : (s : ℕ) → s < 64 → slice_index uses s ≡ use_of (commands_of rows s)
