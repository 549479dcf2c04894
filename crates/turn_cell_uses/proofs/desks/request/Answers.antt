use Rattle.std.proofs.Common.{ℕ, ◌<◌, sym, ap, subst}
use Rattle.turn_cell_uses.proofs.RowLemmas.{same_some}
use Rattle.turn_cell_uses.proofs.desks.request.Goals as goal

pub commit-done-requires-clause-cell : goal.commit-done-requires-clause-cell
commit-done-requires-clause-cell g c =
    ap (λ t. t.cell) (same_some _ _ _ c.enter-desk.ensures.tag c.requires.desk.3)

pub commit-done-requires-clause-session : goal.commit-done-requires-clause-session
commit-done-requires-clause-session g c =
    subst (λ (k : ℕ). k < 64)
    (sym (ap (λ t. t.session) (same_some _ _ _ c.enter-desk.ensures.tag c.requires.desk.3)))
    c.requires.desk.2
