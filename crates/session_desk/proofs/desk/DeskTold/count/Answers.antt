use Rattle.std.proofs.Common.{◌≡◌, sym, ◌∙◌, ap, length, rules}
use Rattle.session_desk.specs.Shared.{SharedState}
use Rattle.session_desk.proofs.MarkLemmas.{length-woven}
use Rattle.session_desk.proofs.desk.DeskTold.count.Goals as goal

pub returns : goal.returns
returns g c =
    let size : c.len.result ≡ length c.self.inside.marks.items = search rules in
    size
    ∙ sym (length-woven c.self.inside.marks.items c.self.inside.commands.items
    c.self.invariant.2.marked.counted)
    ∙ ap (λ (s : SharedState g.row.D.Denot). length s.history) c.self.view_is
