use Rattle.std.proofs.Common.{ℕ, ◌<◌, sym, ap, subst}
use Rattle.turn_cell_uses.proofs.RowLemmas.{same_some}
use Rattle.turn_cell_uses.proofs.link.turn.Goals as goal

pub commit-accepted-requires-clause-cell : goal.commit-accepted-requires-clause-cell
commit-accepted-requires-clause-cell g c =
    ap (λ t. t.cell) (same_some _ _ _ c.enter-desk.ensures.tag c.requires.desk.3)

pub commit-accepted-requires-clause-session : goal.commit-accepted-requires-clause-session
commit-accepted-requires-clause-session g c =
    subst (λ (k : ℕ). k < 64)
    (sym (ap (λ t. t.session) (same_some _ _ _ c.enter-desk.ensures.tag c.requires.desk.3)))
    c.requires.desk.2
