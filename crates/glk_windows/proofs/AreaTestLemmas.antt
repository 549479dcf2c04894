-- The test of rectangles.
use Rattle.std.proofs.Common.{◌≡◌, ◌∙◌, ℕ, ◌==◌, ◌||◌, not, Bool, true, false}
use Rattle.std.proofs.Common.{List, Option, Some, None, refl, sym, ap}
use Rattle.std.proofs.Common.{is_some}
use Rattle.std.proofs.lemmas.Bool.{and_from, and_parts, eq-eqb, eqb-true}
use Rattle.glk_numbers.specs.Numbered.{ascends, found}
use Rattle.glk_numbers.proofs.EachLemmas.{all-by-number, each-found}
use Rattle.glk_windows.specs.Areas.{HaveAreas}
use Rattle.glk_windows.specs.Fields.{has_parts, has_screen, have_areas, have_parts, is_same}
use Rattle.glk_windows.specs.Laws.{window_area}
use Rattle.glk_windows.specs.Placing.{first_part, has_size, second_part}
use Rattle.glk_windows.specs.Tree.{WindowTree, window_number, pair_in}
use Rattle.glk_windows.specs.Tree.{pair_of, read_window, window_at}
use Rattle.glk_windows.specs.Valid.{IsOrdered, IsValidTree}
use Rattle.glk_windows.specs.declared.window.Area.{Area}
use Rattle.glk_windows.specs.declared.window.Pair as p
use Rattle.glk_windows.specs.declared.window.Window.{Window}

-- ---- one rectangle

same-of : (a b : Area) → is_same a b ≡ true → a ≡ b
same-of a b e =
    let x = and_parts (a.x == b.x) _ e in
    let y = and_parts (a.y == b.y) _ x.1 in
    let w = and_parts (a.w == b.w) _ y.1 in
    ap (λ n. record a { x = n }) (eqb-true a.x b.x x.0)
    ∙ ap (λ n. record a { x = b.x; y = n }) (eqb-true a.y b.y y.0)
    ∙ ap (λ n. record a { x = b.x; y = b.y; w = n }) (eqb-true a.w b.w w.0)
    ∙ ap (λ n. record b { h = n }) (eqb-true a.h b.h w.1)

to-same : (a b : Area) → a ≡ b → is_same a b ≡ true
to-same a b e = ap (λ v. is_same v b) e
    ∙ and_from _ _ (eq-eqb b.x b.x refl) (and_from _ _ (eq-eqb b.y b.y refl)
    (and_from _ _ (eq-eqb b.w b.w refl) (eq-eqb b.h b.h refl)))

-- ---- each pair of the list

parts-found : (ws vs : List Window) (n : ℕ) (w : Window) → have_parts ws vs ≡ true
    → found window_number vs n ≡ Some w → has_parts ws (pair_in w) w.area ≡ true
unfolding have_parts
parts-found ws vs n w e h =
    each-found window_number (have_parts ws) (λ v. has_parts ws (pair_in v) v.area) refl
    (λ v us. refl) vs n w h e

to-parts : (ws vs : List Window) (high : ℕ) → ascends window_number 0 high vs ≡ true
    → ((w : Window) → found window_number vs w.number ≡ Some w
    → has_parts ws (pair_in w) w.area ≡ true)
    → have_parts ws vs ≡ true
unfolding have_parts
to-parts ws vs high o h =
    all-by-number window_number (have_parts ws) (λ v. has_parts ws (pair_in v) v.area) refl
    (λ v us. refl) vs 0 high o h

-- a window with what it holds
window-with : (o : Option Window) (q : p.Pair) → read_window None pair_in o ≡ Some q
    → (w : Window) × (o ≡ Some w) × (pair_in w ≡ Some q)
window-with None q e = absurd cc
window-with (Some w) q e = (w, refl, e)

area-in : (ws : List Window) (n : ℕ) (w : Window)
    → window_at ws n ≡ Some w → window_area ws n ≡ w.area
area-in ws n w e = ap (read_window (record { x = 0; y = 0; w = 0; h = 0 }) (λ v. v.area)) e

-- ---- the root

screen-of : (b c : Bool) → (not b || c) ≡ true → b ≡ true → c ≡ true
screen-of true c e h = e
screen-of false c e h = absurd cc

to-screen : (b c : Bool) → (b ≡ true → c ≡ true) → (not b || c) ≡ true
to-screen true c h = h refl
to-screen false c h = refl

-- ---- the test tells who has their rectangles

pair-parts : (t : WindowTree) (n : ℕ) (q : p.Pair) → have_parts t.slots t.slots ≡ true
    → pair_of t.slots n ≡ Some q
    → has_parts t.slots (Some q) (window_area t.slots n) ≡ true
pair-parts t n q e h =
    let w = window-with (window_at t.slots n) q h in
    ap (λ a. has_parts t.slots (Some q) a) (area-in t.slots n w.0 w.1)
    ∙ sym (ap (λ o. has_parts t.slots o w.0.area) w.2)
    ∙ parts-found t.slots t.slots n w.0 e w.1

abbrev Parts : WindowTree → p.Pair → Area → Type 0
Parts t q a =
    (window_area t.slots q.first ≡ first_part q (has_size t.slots q.key) a)
    × (window_area t.slots q.second ≡ second_part q (has_size t.slots q.key) a)

parts-of : (t : WindowTree) (q : p.Pair) (a : Area) → has_parts t.slots (Some q) a ≡ true
    → Parts t q a
parts-of t q a e =
    let one : Area = first_part q (has_size t.slots q.key) a in
    let two : Area = second_part q (has_size t.slots q.key) a in
    let k = and_parts (is_same (window_area t.slots q.first) one) _ e in
    (same-of (window_area t.slots q.first) one k.0, same-of (window_area t.slots q.second) two k.1)

of-parts : (t : WindowTree) (o : Option p.Pair) (a : Area)
    → ((q : p.Pair) → o ≡ Some q → Parts t q a) → has_parts t.slots o a ≡ true
of-parts t None a h = refl
of-parts t (Some q) a h =
    let k = h q refl in
    and_from _ _ (to-same (window_area t.slots q.first) _ k.0)
    (to-same (window_area t.slots q.second) _ k.1)

pub areas-of : (t : WindowTree) (cols rows : ℕ) → have_areas t cols rows ≡ true
    → HaveAreas t cols rows
areas-of t cols rows e =
    let screen : Area = record { x = 0; y = 0; w = cols; h = rows } in
    let k = and_parts (has_screen t cols rows) _ e in
    record {
      root = λ live. same-of (window_area t.slots t.root) screen
          (screen-of (is_some (window_at t.slots t.root))
          (is_same (window_area t.slots t.root) screen) k.0 live);
      first = λ n q h. (parts-of t q (window_area t.slots n) (pair-parts t n q k.1 h)).0;
      second = λ n q h. (parts-of t q (window_area t.slots n) (pair-parts t n q k.1 h)).1;
    }

pub of-areas : (t : WindowTree) (cols rows : ℕ) → IsValidTree t → HaveAreas t cols rows
    → have_areas t cols rows ≡ true
unfolding IsOrdered
of-areas t cols rows v h =
    let screen : Area = record { x = 0; y = 0; w = cols; h = rows } in
    and_from _ _
    (to-screen (is_some (window_at t.slots t.root)) (is_same (window_area t.slots t.root) screen)
    (λ live. to-same (window_area t.slots t.root) screen (h.root live)))
    (to-parts t.slots t.slots t.next v.ordered.1 (λ w e.
    of-parts t (pair_in w) w.area (λ q k.
    let held : pair_of t.slots w.number ≡ Some q = ap (read_window None pair_in) e ∙ k in
    let same = area-in t.slots w.number w e in (
      h.first w.number q held ∙ ap (first_part q (has_size t.slots q.key)) same,
      h.second w.number q held ∙ ap (second_part q (has_size t.slots q.key)) same,
    ))))
