use Rattle.std.proofs.Common.{◌∙◌, ap, List, replicate, arith}
use Rattle.gate_journal.specs.declared.mark.Mark.{Mark}
use Rattle.gate_journal.specs.declared.mark.Mark.TheVariants as marks
use Rattle.gate_journal.specs.History.{rows_woven, count_rows}
use Rattle.gate_journal.proofs.HistoryLemmas.{count-all, woven-all}
use Rattle.gate_journal.proofs.history.History.of.Goals as goal

pub invariant_of-result : goal.invariant_of-result
invariant_of-result c =
    ap count_rows c.in_ok-marks.ensures ∙ count-all c.len.result ∙ (omega (arith, c.len.ensures))

pub returns : goal.returns
returns c =
    ap (λ (l : List Mark). rows_woven l c.args.rows.items) c.in_ok-marks.ensures
    ∙ ap (λ (n : _). rows_woven (replicate n marks.Row) c.args.rows.items)
    (omega (arith, c.len.ensures))
    ∙ woven-all c.args.rows.items
