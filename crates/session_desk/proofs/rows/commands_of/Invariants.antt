use Rattle.std.proofs.Common.{◌≡◌, ◌++◌, drop}
use Rattle.gate_journal.specs.Rows.{commands_of}
use Rattle.session_desk.proofs.rows.commands_of.Given as goal

abbrev pub invariant-loop-at : goal.invariant-loop-at
invariant-loop-at l =
    l.commands.items ++ commands_of (drop l.at l.rows) l.session ≡ commands_of l.rows l.session
