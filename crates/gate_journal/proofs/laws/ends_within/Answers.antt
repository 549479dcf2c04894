use Rattle.std.proofs.Common.{arith}
use Rattle.gate_journal.specs.Log.{next_row}
use Rattle.gate_journal.proofs.LimitLemmas.{payload_most}
use Rattle.gate_journal.proofs.RowLemmas.{length-body}
use Rattle.gate_journal.proofs.laws.ends_within.Goals as goal

pub returns : goal.returns
returns c rows session command ranges =
    omega (arith, length-body (next_row rows session command), payload_most command ranges)
