use Rattle.std.proofs.Common.{◌≡◌, ◌++◌, drop}
use Rattle.gate_journal.specs.Rows.{commands_of}
use Rattle.host_world.proofs.rows.JournalRows.commands_of.Given as goal

abbrev pub invariant-loop-row : goal.invariant-loop-row
invariant-loop-row l =
    l.commands.items ++ commands_of (drop l.row-index l.found) l.s ≡ commands_of l.found l.s

abbrev pub invariant-loop-new : goal.invariant-loop-new
invariant-loop-new l =
    l.commands.items ++ commands_of (drop l.new-index l.added) l.s
    ≡ commands_of l.self l.s
