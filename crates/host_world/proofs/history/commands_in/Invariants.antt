use Rattle.std.proofs.Common.{◌≡◌, ◌++◌, drop}
use Rattle.session_core.specs.Turning.{commands_in}
use Rattle.host_world.proofs.history.commands_in.Given as goal

abbrev pub invariant-loop-entry : goal.invariant-loop-entry
invariant-loop-entry l =
    l.commands.items ++ commands_in (drop l.entry-index l.entries) ≡ commands_in l.entries
