use Rattle.std.proofs.Common.{◌≡◌, ◌∙◌, sym, ap, refl, arith, true, false, List, ℕ, Bool}
use Rattle.std.specs.Prelude.{nat_lt, ◌&&◌, if◌then◌else◌, Some}
use Rattle.std.proofs.lemmas.Bool.Decides.{nat_tests}
use Rattle.snap_store.specs.declared.side.Side.TheVariants.{A, B}
use Rattle.snap_store.specs.declared.outline.Outline.{Outline}
use Rattle.snap_store.specs.File.{is_open_area, is_wanted_area, area_on_side, count_at, newest_area}
use Rattle.snap_store.proofs.Newest.{choice, choice_is}
use Rattle.snap_store.proofs.outline.Outline.newest.Goals as goal

-- both are wanted
both :
    (place most : ℕ) (file : List ℕ) (later : Bool)
    → (is_open_area A file && is_wanted_area place most (area_on_side A file)) ≡ true
    → (is_open_area B file && is_wanted_area place most (area_on_side B file)) ≡ true
    → nat_lt (area_on_side A file).count (area_on_side B file).count ≡ later
    → Some (if later then area_on_side B file else area_on_side A file)
    ≡ newest_area place most file
both place most file later a b is =
    let x = area_on_side A file in
    let y = area_on_side B file in
    sym (
    choice_is (is_open_area A file) (is_wanted_area place most x) (is_open_area B file)
    (is_wanted_area place most y) x y (is_wanted_area place most) refl refl
    ∙ ap (λ (t : Bool). choice t (is_open_area B file && is_wanted_area place most y) x y) a
    ∙ ap (λ (t : Bool). choice true t x y) b
    ∙ ap (λ (t : Bool). Some (if t then y else x)) is
    )

pub returns-then-self-clause-value : goal.returns-then-self-clause-value
unfolding area_on_side
returns-then-self-clause-value c file is =
    let a : c.args.self.now.a.count ≡ count_at A file = ap (λ (o : Outline). o.a.count) is in
    let b : c.args.self.now.b.count ≡ count_at B file = ap (λ (o : Outline). o.b.count) is in
    let later : nat_lt (count_at A file) (count_at B file) ≡ true = grind (arith, nat_tests) in
    both c.args.place c.args.most file true (sym (c.in-true-true.ensures file is))
    (sym (c.in-true-true.ensures' file is)) later

pub returns-else-self-clause-value : goal.returns-else-self-clause-value
unfolding area_on_side
returns-else-self-clause-value c file is =
    let a : c.args.self.now.a.count ≡ count_at A file = ap (λ (o : Outline). o.a.count) is in
    let b : c.args.self.now.b.count ≡ count_at B file = ap (λ (o : Outline). o.b.count) is in
    let later : nat_lt (count_at A file) (count_at B file) ≡ false = grind (arith, nat_tests) in
    both c.args.place c.args.most file false (sym (c.in-true-true.ensures file is))
    (sym (c.in-true-true.ensures' file is)) later
