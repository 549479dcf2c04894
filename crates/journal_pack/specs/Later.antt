-- What rows say of the rows before them (own).
use Rattle.std.specs.Prelude.{◌≡◌, ℕ, ◌<◌, Bool, true, false, ◌&&◌, not, List, [], ◌∷◌}
use Rattle.std.specs.Prelude.{slice_index_or}
use Rattle.gate_journal.specs.declared.command.Command.{Command}
use Rattle.gate_journal.specs.declared.row.Row.{Row}
use Rattle.gate_journal.specs.Rows.{commands_of, is_free}
use Rattle.journal_pack.specs.Live.{has_open}

-- there is a command
abbrev pub is_met : List Command → Bool
is_met [] = false
is_met (command ∷ commands) = true

-- behind a command before these the session is in use, and none of them opens it anew
abbrev pub goes_on : List Command → Bool
goes_on commands = not (has_open commands) && not (is_free commands)

-- of each session whether these rows have one of it, and whether those before them are live then
pub record SaysLater (rows : List Row) (met live : List Bool) : Type 0 where
  pub seen : (s : ℕ) → s < 256 → slice_index_or met s false ≡ is_met (commands_of rows s)
  pub goes : (s : ℕ) → s < 256 → slice_index_or live s false ≡ goes_on (commands_of rows s)
