use Rattle.std.proofs.Common.{◌≡◌, ◌∙◌, sym, ap, refl, arith, true, false}
use Rattle.std.specs.Prelude.{◌==◌}
use Rattle.std.proofs.lemmas.Bool.Decides.{nat_tests}
use Rattle.snap_store.specs.declared.outline.Head.{Head}
use Rattle.snap_store.specs.File.{is_open_area, area_on_side, area_place, count_at}
use Rattle.snap_store.proofs.outline.Outline.is_wanted.Goals as goal

pub returns-then-head-place : goal.returns-then-head-place
unfolding area_on_side
returns-then-head-place c file is =
    let here : is_open_area c.args.side file ≡ true =
    sym (c.is_open.ensures file is) ∙ c.if-not-is_open.false in
    let place : c.head-head.result.place ≡ area_place c.args.side file =
    ap (λ (h : Head). h.place) (c.head-head.ensures file is) in
    let count : c.head-head.result.count ≡ count_at c.args.side file =
    ap (λ (h : Head). h.count) (c.head-head.ensures file is) in
    let same : (area_place c.args.side file == c.args.place) ≡ true = grind (arith, nat_tests) in
    rw (count, here, same) refl

pub returns-else-head-place : goal.returns-else-head-place
unfolding area_on_side
returns-else-head-place c file is =
    let here : is_open_area c.args.side file ≡ true =
    sym (c.is_open.ensures file is) ∙ c.if-not-is_open.false in
    let place : c.head-head.result.place ≡ area_place c.args.side file =
    ap (λ (h : Head). h.place) (c.head-head.ensures file is) in
    let differs : (area_place c.args.side file == c.args.place) ≡ false =
    grind (arith, nat_tests) in
    rw (place, here, differs) refl
