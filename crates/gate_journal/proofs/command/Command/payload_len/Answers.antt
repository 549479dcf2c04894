use Rattle.std.proofs.Common.{ap, length, arith}
use Rattle.gate_journal.proofs.LimitLemmas.{text_most}
use Rattle.gate_journal.proofs.command.Command.payload_len.Goals as goal

pub returns-in-Line-clause-within : goal.returns-in-Line-clause-within
returns-in-Line-clause-within c =
    let ranges = rw c.in-Line.is at c.requires in
    omega (arith, ap length c.as_utf8.ensures.value, text_most c.in-Line.text ranges.2)

pub returns-in-File-clause-within : goal.returns-in-File-clause-within
returns-in-File-clause-within c =
    let ranges = rw c.in-File.is at c.requires in
    omega (arith, ap length c.as_utf8-in-File.ensures.value, text_most c.in-File.name ranges)
