use Rattle.std.proofs.Common.{◌≡◌, ◌++◌, drop}
use Rattle.gate_journal.specs.Rows.{commands_of}
use Rattle.host_world.specs.Sessions.{history_found}
use Rattle.host_world.proofs.history.History.found.Given as goal

abbrev pub invariant-loop-row : goal.invariant-loop-row
invariant-loop-row l =
    l.entries.items ++ history_found (commands_of (drop l.row-index l.rows) l.s)
    ≡ history_found (commands_of l.rows l.s)
