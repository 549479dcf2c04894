use Rattle.std.proofs.Common.{◌≡◌, sym, ◌∙◌, ap}
use Rattle.gate_journal.specs.History.{Entries}
use Rattle.gate_journal.specs.Log.{rows_of}
use Rattle.gate_journal.proofs.HistoryLemmas.{rows_of-woven}
use Rattle.gate_journal.proofs.history.History.row.Goals as goal

pub returns : goal.returns
returns c =
    let same : c.self.inside.rows.items ≡ rows_of c.args.self.now.list =
    sym (rows_of-woven c.self.inside.marks.items c.self.inside.rows.items c.self.invariant)
    ∙ ap (λ (e : Entries). rows_of e.list) c.self.view_is in
    rw (c.deref.ensures.value, same) at c.row_at.ensures
