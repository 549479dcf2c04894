-- The rows that a packed journal keeps (own).
use Rattle.std.specs.Prelude.{ℕ, Bool, false, IsTrue, ◌&&◌, ◌||◌, not, if◌then◌else◌, List, []}
use Rattle.std.specs.Prelude.{◌∷◌, ◌++◌}
use Rattle.gate_journal.specs.declared.command.Command.{Command}
use Rattle.gate_journal.specs.declared.row.Row.{Row}
use Rattle.gate_journal.specs.Command.{IsCommand}
use Rattle.gate_journal.specs.Rows.{commands_of, is_free, is_open, IsJournal, SpellsRows}
use Rattle.gate_journal.specs.Log.{next_row}

-- one of the commands opens the session
abbrev pub has_open : List Command → Bool
has_open [] = false
has_open (command ∷ commands) = is_open command || has_open commands

-- A row is live before these later ones: its session is in use behind all of them, and none of them
-- opens it anew.
abbrev pub is_live : Row → List Row → Bool
is_live r later =
    not (has_open (commands_of later r.session))
    && not (is_free (r.command ∷ commands_of later r.session))

-- the live rows, in their order
abbrev pub live_rows : List Row → List Row
live_rows [] = []
live_rows (r ∷ rows) = if is_live r rows then r ∷ live_rows rows else live_rows rows

-- these rows at the places that they have behind those of the front
abbrev pub placed_behind : List Row → List Row → List Row
placed_behind front [] = []
placed_behind front (r ∷ rows) =
    next_row front r.session r.command
    ∷ placed_behind (front ++ next_row front r.session r.command ∷ []) rows

-- these rows at the places that they have in a journal of their own
abbrev pub rebuilt : List Row → List Row
rebuilt rows = placed_behind [] rows

-- the rows of a packed journal: the live ones, each at its new place
abbrev pub packed : List Row → List Row
packed rows = rebuilt (live_rows rows)

-- these are the rows of a journal, which a disk that tells reads as
pub record AreRowsOf (tells : Bool) (seen : List ℕ) (rows : List Row) : Type 0 where
  pub journal : IsJournal rows
  pub spells : IsTrue tells → SpellsRows seen rows

-- the fields of each row's command are in their ranges
abbrev pub HaveRanges : List Row → Type 0
HaveRanges [] = Unit {0}
HaveRanges (r ∷ rows) = IsCommand r.command × HaveRanges rows
