use Rattle.std.proofs.Common.{rules}
use Rattle.gate_journal.proofs.HistoryLemmas.{one_mark_more}
use Rattle.gate_journal.proofs.history.row_marks.Goals as goal

pub loop-k-preserved : goal.loop-k-preserved
loop-k-preserved c = search (rules, one_mark_more c.loop-k.k)
