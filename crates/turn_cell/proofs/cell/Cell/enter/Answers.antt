use Rattle.std.proofs.Common.{◌≤◌, ◌∙◌, ℕ, sym, subst, arith}
use Rattle.turn_cell.specs.History.{Continues, IsForeign}
use Rattle.turn_cell.proofs.HistoryLemmas.{among_head, goes_no_further}
use Rattle.turn_cell.proofs.cell.Cell.enter.Goals as goal

pub returns-clause-given : goal.returns-clause-given
returns-clause-given g c zero =
    let p = c.args.pass.now.known in let n = p.numbered in
    let learned = c.take_value-value.ensures.value.2 in
    subst (λ (n : ℕ). Continues (λ e. g.T.Told.by e ≤ n) (g.T.Told.entries c.take_value-value.result)
    p.place.me.0.seen) (sym p.counted.0)
    (learned.2 (among_head 0 p.place.me.0.holds n.1.0 (n.1.1 ∙ (sym n.0 ∙ zero))))

pub returns-clause-complete : goal.returns-clause-complete
returns-clause-complete g c all =
    let p = c.args.pass.now.known in
    let learned = c.take_value-value.ensures.value.2 in
    goes_no_further (IsForeign g.T.Told.by p.place.me.0.holds)
    (λ e. g.T.Told.by e ≤ p.place.me.0.made) _ _
    (λ e foreign low. foreign (all (g.T.Told.by e) (omega (arith, low, p.counted.0))))
    learned.0 (learned.2 (all 0 (omega arith)))
