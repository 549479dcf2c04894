use Rattle.std.proofs.Common.{◌≡◌, sym, ◌∙◌, ap, length, List, rules}
use Rattle.gate_journal.specs.declared.row.Row.{Row}
use Rattle.gate_journal.specs.History.{Entries}
use Rattle.gate_journal.specs.Log.{rows_of}
use Rattle.gate_journal.proofs.HistoryLemmas.{rows_of-woven}
use Rattle.gate_journal.proofs.history.History.row_count.Goals as goal

pub returns : goal.returns
returns c =
    let size : c.len.result ≡ length c.self.inside.rows.items = search rules in
    size
    ∙ ap (λ (l : List Row). length l)
    (sym (rows_of-woven c.self.inside.marks.items c.self.inside.rows.items c.self.invariant))
    ∙ ap (λ (e : Entries). length (rows_of e.list)) c.self.view_is
