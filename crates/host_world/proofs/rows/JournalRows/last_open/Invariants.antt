use Rattle.std.proofs.Common.{◌≡◌, drop}
use Rattle.std.specs.List.{last_or}
use Rattle.session_saves.specs.Agreement.{last_row, opens_of}
use Rattle.host_world.proofs.rows.JournalRows.last_open.Given as goal

abbrev pub invariant-loop-row : goal.invariant-loop-row
invariant-loop-row l =
    last_or l.place (opens_of (drop l.row-index l.found) l.s) ≡ last_row (opens_of l.found l.s)

abbrev pub invariant-loop-new : goal.invariant-loop-new
invariant-loop-new l =
    last_or l.place (opens_of (drop l.new-index l.added) l.s)
    ≡ last_row (opens_of l.self l.s)
