-- A session, as the rows of its journal tell of it (own).
use Rattle.std.specs.Prelude.{◌≡◌, ℕ, ◌==◌, if◌then◌else◌, List, [], ◌∷◌, ◌++◌}
use Rattle.gate_journal.specs.Rows.{is_open}
use Rattle.gate_journal.specs.declared.row.Row.{Row}
use Rattle.gate_journal.specs.Rows.{IsJournal, IsNext, commands_of}
use Rattle.story_run.specs.declared.story.Story.{Story}
use Rattle.session_core.specs.History.{game_of}
use Rattle.session_saves.specs.Agreement.{IsAgreedFile, opens_of}
use Rattle.store_events.specs.declared.state.StoreState.{StoreState}
use Rattle.store_events.specs.Events.{store_down_over}
use Rattle.store_events.specs.Session.{Begins, EachMayCome, FileHappening, IsInAgreement}
use Rattle.store_events.specs.Session.{SessionState, Takes, lived}

-- the session of this number, with this file
abbrev pub session_in_rows : List Row → ℕ → StoreState → SessionState
session_in_rows rows s store =
    record { rows = opens_of rows s; game = game_of (commands_of rows s); store = store }

-- what a row more is to it
abbrev pub told_of : Row → ℕ → List FileHappening
told_of r s =
    if r.session == s
    then (if is_open r.command then Begins r.place r.command else Takes r.command) ∷ []
    else []

-- A row that stands behind the others is a command more of its session, or an OPEN of it, as may
-- come there, and nothing to the others.
abbrev pub RowsAreTold : Type 0
RowsAreTold =
    (stories : List Story) (rows : List Row) (r : Row) (s : ℕ) (store : StoreState)
    → IsJournal rows → IsNext rows r
    → (session_in_rows (rows ++ r ∷ []) s store
    ≡ lived (session_in_rows rows s store) (told_of r s))
    × EachMayCome stories (session_in_rows rows s store) (told_of r s)

-- Over a file that agrees with a journal's rows, of which nothing is pending, a session is in
-- agreement.
abbrev pub BeginsByRows : Type 0
BeginsByRows =
    (stories : List Story) (rows : List Row) (s : ℕ) (bytes : List ℕ)
    → IsJournal rows
    → IsAgreedFile stories (opens_of rows s) (game_of (commands_of rows s)) bytes
    → IsInAgreement stories (session_in_rows rows s (store_down_over bytes))
