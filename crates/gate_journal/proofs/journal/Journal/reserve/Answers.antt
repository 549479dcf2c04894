use Rattle.std.proofs.Common.{rules}
use Rattle.gate_journal.proofs.SinceLemmas.{reserved}
use Rattle.gate_journal.proofs.journal.Journal.reserve.Goals as goal

pub invariant_of-self : goal.invariant_of-self
invariant_of-self g c = reserved c.reserve.ensures.kept (search rules) c.self.invariant

pub invariant_of-self-in_err-reserve-2 : goal.invariant_of-self-in_err-reserve-2
invariant_of-self-in_err-reserve-2 g c =
    reserved c.reserve.ensures.kept (search rules) c.self.invariant

pub invariant_of-self-in_ok-new-2 : goal.invariant_of-self-in_ok-new-2
invariant_of-self-in_ok-new-2 g c = reserved c.reserve.ensures.kept (search rules) c.self.invariant

pub invariant_of-self-else-is_none : goal.invariant_of-self-else-is_none
invariant_of-self-else-is_none g c = reserved c.reserve.ensures.kept (search rules) c.self.invariant
