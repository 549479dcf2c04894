use Rattle.std.proofs.Common.{◌≡◌, sym, ◌∙◌, ap, length, rules}
use Rattle.gate_journal.specs.History.{Entries}
use Rattle.gate_journal.proofs.HistoryLemmas.{length-woven}
use Rattle.gate_journal.proofs.history.History.len.Goals as goal

pub returns : goal.returns
returns c =
    let size : c.len.result ≡ length c.self.inside.marks.items = search rules in
    size ∙ sym (length-woven c.self.inside.marks.items c.self.inside.rows.items c.self.invariant)
    ∙ ap (λ (e : Entries). length e.list) c.self.view_is
