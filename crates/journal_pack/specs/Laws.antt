-- What a packed journal keeps of the old one (own).
use Rattle.std.specs.Prelude.{◌≡◌, ℕ, Bool, ◌&&◌, ◌==◌, not, nat_le, if◌then◌else◌, List, []}
use Rattle.std.specs.Prelude.{◌∷◌, map}
use Rattle.std.specs.List.{filter}
use Rattle.gate_journal.specs.declared.command.Command.{Command}
use Rattle.gate_journal.specs.declared.row.Row.{Row}
use Rattle.gate_journal.specs.Rows.{commands_of, is_free, is_open, IsJournal}
use Rattle.journal_pack.specs.Images.{SpellsClosed, closed_journal}
use Rattle.journal_pack.specs.Live.{live_rows, packed}

-- the place of a session's last OPEN row among these; this one where there is none
abbrev pub last_open : ℕ → List Row → ℕ → ℕ
last_open at [] s = at
last_open at (r ∷ rows) s =
    last_open (if r.session == s && is_open r.command then r.place else at) rows s

-- the row's session is in use behind all rows, and it stands at its last OPEN row or behind it
abbrev pub is_since_open : List Row → Row → Bool
is_since_open rows r =
    nat_le (last_open 0 rows r.session) r.place && not (is_free (commands_of rows r.session))

-- the live rows are those
abbrev pub AreSinceOpen : Type 0
AreSinceOpen = (rows : List Row) → IsJournal rows
    → live_rows rows ≡ filter (is_since_open rows) rows

-- a row's session and its command
abbrev pub move_of : Row → ℕ × Command
move_of r = (r.session, r.command)

-- a packed journal has the sessions and the commands of the live rows, in their order
abbrev pub KeepsMoves : Type 0
KeepsMoves = (rows : List Row) → map move_of (packed rows) ≡ map move_of (live_rows rows)

-- the bytes of a packed journal spell its rows, with a closing gate that is 0
abbrev pub IsSpelled : Type 0
IsSpelled = (rows : List Row) → IsJournal rows
    → SpellsClosed (packed rows) (closed_journal (packed rows))

-- the live rows are rows that a journal may have
abbrev pub IsRebuilt : Type 0
IsRebuilt = (rows : List Row) → IsJournal rows → IsJournal (packed rows)
