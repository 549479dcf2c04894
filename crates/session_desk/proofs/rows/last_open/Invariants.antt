use Rattle.std.proofs.Common.{◌≡◌, drop}
use Rattle.std.specs.List.{last_or}
use Rattle.session_saves.specs.Agreement.{last_row, opens_of}
use Rattle.session_desk.proofs.rows.last_open.Given as goal

abbrev pub invariant-loop-at : goal.invariant-loop-at
invariant-loop-at l =
    last_or l.place (opens_of (drop l.at l.rows) l.session) ≡ last_row (opens_of l.rows l.session)
