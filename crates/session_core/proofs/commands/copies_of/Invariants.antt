use Rattle.std.proofs.Common.{◌≡◌, take}
use Rattle.session_core.proofs.commands.copies_of.Given as goal

abbrev pub invariant-loop-at : goal.invariant-loop-at
invariant-loop-at l = l.copies.items ≡ take l.at l.commands
