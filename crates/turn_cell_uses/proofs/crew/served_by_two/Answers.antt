use Rattle.std.proofs.Common.{◌∙◌, sym, arith, rules}
use Rattle.turn_cell_uses.proofs.CrewLemmas.{asked_by_two}
use Rattle.turn_cell_uses.proofs.crew.served_by_two.Goals as goal

pub returns : goal.returns
returns g c =
    let root = c.in_ok-cell.ensures in
    let s1 = c.split.ensures in
    let s2 = c.split-2.ensures in
    let j1 = c.join.ensures in
    let j2 = c.join-2.ensures in
    asked_by_two c.args.first c.args.second _ _ _ _ c.split-2.new.pass c.join.new.pass
    c.join-2.new.pass _ _
    (s2.kept.1.1 ∙ (s1.kept.1.1 ∙ root.3)) (s2.seen ∙ (s1.seen ∙ root.4))
    (c.in_ok-one.ensures.ok.0.5 ∙ root.4) (c.in_ok-two.ensures.ok.0.5 ∙ (s1.seen ∙ root.4))
    c.join-one.ensures.first.1 c.join-one.ensures.second.1
    (omega (arith, c.in_ok-two.ensures.ok.1, c.in_ok-one.ensures.ok.1, root.2.1))
    j1.kept.2 j2.kept.2
    j1.holds j1.first j1.second
    (j1.given (s2.kept.1.0 ∙ (s1.kept.1.0 ∙ root.2.0)))
    j2.holds j2.first j2.second
    (j2.given (j1.kept.1 ∙ (s2.kept.1.0 ∙ (s1.kept.1.0 ∙ root.2.0))))
    c.enter.ensures.complete
