use Rattle.std.proofs.Common.{Option, ap, refl, ◌∙◌}
use Rattle.turn_cell.specs.Views.{tag_in}
use Rattle.gate_journal.specs.Log.{Log}
use Rattle.host_serve.proofs.OpeningLemmas.{opened_host}
use Rattle.host_serve.proofs.open.open_over.Goals as goal

pub returns-clause-ok : goal.returns-clause-ok
returns-clause-ok g c =
    let k = c.in_ok-desks.ensures.kept in
    let r = c.in_ok-cell.ensures in
    opened_host _ _ _ _ _ _ _ _ c.requires.budget refl refl
    (c.deref.ensures.value ∙ c.in_ok-rows.ensures.value) (ap (λ v. v.items) c.of-opened.ensures)
    c.requires.many c.requires.room c.in_ok-desks.ensures.ok (k.0, k.1)
    (k.2.0 ∙ r.2.0, k.2.1 ∙ r.3)
    (ap (λ (x : Option (Log g.row.D.Denot)). tag_in (λ (j : Log g.row.D.Denot). j.opening) x) k.2.2
    ∙ r.5)
    (k.3 ∙ (r.4 ∙ c.requires.fresh))

pub returns-clause-stores : goal.returns-clause-stores
returns-clause-stores g c = ap (λ v. v.items) c.of-opened.ensures
