-- The rectangles of windows that are no pairs.
use Rattle.std.proofs.Common.{◌≡◌, ◌≢◌, ◌⊎◌, inl, inr, ⊎_elim, ℕ, ◌+◌, ◌-◌, ◌<◌, ◌≤◌}
use Rattle.std.proofs.Common.{List, [], ◌∷◌, length, refl, sym, ap, ◌∙◌, Option, Some, None}
use Rattle.std.proofs.Common.{is_some, arith, Bool, true, false, if◌then◌else◌}
use Rattle.std.proofs.lemmas.Grind.{common_steps}
use Rattle.std.proofs.lemmas.Bool.{cases_lt}
use Rattle.std.proofs.Math.Nat.{min-le_left}
use Rattle.glk_numbers.specs.Numbered.{found}
use Rattle.glk_windows.specs.declared.window.Window.{Window}
use Rattle.glk_windows.specs.declared.window.Area.{Area}
use Rattle.glk_windows.specs.declared.window.Pair as pairs
use Rattle.glk_windows.specs.Tree.{WindowTree, pair_of}
use Rattle.glk_windows.specs.Placing.{place, has_size, share, first_part, second_part}
use Rattle.glk_windows.specs.Placing.{is_stacked, is_after}
use Rattle.glk_windows.specs.OneTree.{Shape, Leaf, Fork, times_reached, node_of, IsTree, tree_of}
use Rattle.glk_windows.specs.Laws.{nowhere, window_area, IsInside, Covers}
use Rattle.glk_windows.specs.Laws.{StaysOnScreen, NeverOverlaps, FillsScreen}
use Rattle.glk_windows.proofs.OneTreeLemmas.{count_top}
use Rattle.glk_windows.proofs.SameLemmas.{node_placed}
pub use Rattle.glk_windows.proofs.SameLemmas.{read_placed}
use Rattle.glk_windows.proofs.SpreadLemmas.{Spread, leaf_is, part_of, spread_tree}
use Rattle.glk_windows.proofs.TestLemmas.{tree_of_test}

-- ---- the two parts of a rectangle

-- two parts of a rectangle share no cell and leave none out
record Divides (r one two : Area) : Type 0 where
  in_first : IsInside one r
  in_second : IsInside two r
  apart : (x y : ℕ) → Covers one x y → Covers two x y → ⊥
  all : (x y : ℕ) → Covers r x y → Covers one x y ⊎ Covers two x y

-- by the side, and by how much the second part gets of height and width
abbrev first_cut : Bool → Bool → ℕ → ℕ → Area → Area
first_cut stacked after k l a =
    if stacked
    then record a { y = if after then a.y else a.y + k; h = a.h - k }
    else record a { x = if after then a.x else a.x + l; w = a.w - l }

abbrev second_cut : Bool → Bool → ℕ → ℕ → Area → Area
second_cut stacked after k l a =
    if stacked
    then record a { y = if after then a.y + (a.h - k) else a.y; h = k }
    else record a { x = if after then a.x + (a.w - l) else a.x; w = l }

cuts-inside : (stacked after : Bool) (k l : ℕ) (a : Area) → k ≤ a.h → l ≤ a.w
    → IsInside (first_cut stacked after k l a) a × IsInside (second_cut stacked after k l a) a
cuts-inside true true k l a hk hl = omega arith
cuts-inside false true k l a hk hl = omega arith
cuts-inside stacked after k l a hk hl = omega arith

cuts-apart : (stacked after : Bool) (k l : ℕ) (a : Area) (x y : ℕ)
    → Covers (first_cut stacked after k l a) x y → Covers (second_cut stacked after k l a) x y → ⊥
cuts-apart true true k l a x y f s = omega arith
cuts-apart false true k l a x y f s = omega arith
cuts-apart stacked after k l a x y f s = omega arith

cuts-cover : (stacked after : Bool) (k l : ℕ) (a : Area) → k ≤ a.h → l ≤ a.w
    → (x y : ℕ) → Covers a x y
    → Covers (first_cut stacked after k l a) x y ⊎ Covers (second_cut stacked after k l a) x y
cuts-cover true true k l a hk hl x y c =
    ⊎_elim (λ h. inl (omega arith)) (λ h. inr (omega arith)) (cases_lt y (a.y + (a.h - k)))
cuts-cover true false k l a hk hl x y c =
    ⊎_elim (λ h. inr (omega arith)) (λ h. inl (omega arith)) (cases_lt y (a.y + k))
cuts-cover false true k l a hk hl x y c =
    ⊎_elim (λ h. inl (omega arith)) (λ h. inr (omega arith)) (cases_lt x (a.x + (a.w - l)))
cuts-cover false false k l a hk hl x y c =
    ⊎_elim (λ h. inr (omega arith)) (λ h. inl (omega arith)) (cases_lt x (a.x + l))

divides : (q : pairs.Pair) (z : Bool) (r : Area)
    → Divides r (first_part q z r) (second_part q z r)
divides q z r =
    let k : share q z r.h ≤ r.h = min-le_left r.h _ in
    let l : share q z r.w ≤ r.w = min-le_left r.w _ in
    let inside : IsInside (first_part q z r) r × IsInside (second_part q z r) r =
    cuts-inside (is_stacked q) (is_after q) (share q z r.h) (share q z r.w) r k l in
    record {
      in_first = inside.0;
      in_second = inside.1;
      apart = cuts-apart (is_stacked q) (is_after q) (share q z r.h) (share q z r.w) r;
      all = cuts-cover (is_stacked q) (is_after q) (share q z r.h) (share q z r.w) r k l;
    }

-- ---- the windows of a tree that are no pairs

no-pair : (ws : List Window) (n m : ℕ) (q : pairs.Pair)
    → pair_of ws n ≡ Some q → pair_of ws m ≡ None → n ≢ m
no-pair ws n m q t e = λ i. (let x : Some q ≡ None = sym t ∙ ap (pair_of ws) i ∙ e in cc)

covers-at : (a b : Area) (x y : ℕ) → a ≡ b → Covers a x y → Covers b x y
covers-at a b x y e f = rw (← e) f

covers-through : (a b : Area) (x y : ℕ) → IsInside a b → Covers a x y → Covers b x y
covers-through a b x y f g = omega arith

inside-through : (a b c : Area) → IsInside a b → IsInside b c → IsInside a c
inside-through a b c f g = omega arith

spread-inside : (ws : List Window) (at : ℕ → Area) (s : Shape) (r : Area) (m : ℕ)
    → Spread ws at s r → 0 < times_reached s m → pair_of ws m ≡ None → IsInside (at m) r
spread-inside ws at (Leaf n) r m t c e = rw (ap at (leaf_is n m c) ∙ t.0) (omega arith)
spread-inside ws at (Fork n p a b) r m t c e =
    let k = divides t.1 (has_size ws t.1.key) r in
    ⊎_elim
    (λ f. inside-through (at m) _ r (spread-inside ws at a _ m t.5 f e) k.in_first)
    (λ f. inside-through (at m) _ r (spread-inside ws at b _ m t.6 f e) k.in_second)
    (part_of n m p a b (no-pair ws n m t.1 t.2 e) c)

spread-apart : (ws : List Window) (at : ℕ → Area) (s : Shape) (r : Area) (m o x y : ℕ)
    → Spread ws at s r → m ≢ o → 0 < times_reached s m → pair_of ws m ≡ None
    → 0 < times_reached s o → pair_of ws o ≡ None → Covers (at m) x y → Covers (at o) x y → ⊥
spread-apart ws at (Leaf n) r m o x y t ne i e j f v w =
    absurd (ne (leaf_is n m i ∙ sym (leaf_is n o j)))
spread-apart ws at (Fork n p a b) r m o x y t ne i e j f v w =
    let k = divides t.1 (has_size ws t.1.key) r in
    let one = λ (z : ℕ) (g : 0 < times_reached a z) (l : pair_of ws z ≡ None).
    covers-through (at z) _ x y (spread-inside ws at a _ z t.5 g l) in
    let two = λ (z : ℕ) (g : 0 < times_reached b z) (l : pair_of ws z ≡ None).
    covers-through (at z) _ x y (spread-inside ws at b _ z t.6 g l) in
    ⊎_elim
    (λ g. ⊎_elim (λ l. spread-apart ws at a _ m o x y t.5 ne g e l f v w)
    (λ l. k.apart x y (one m g e v) (two o l f w)) (part_of n o p a b (no-pair ws n o t.1 t.2 f) j))
    (λ g. ⊎_elim (λ l. k.apart x y (one o l f w) (two m g e v))
    (λ l. spread-apart ws at b _ m o x y t.6 ne g e l f v w)
    (part_of n o p a b (no-pair ws n o t.1 t.2 f) j))
    (part_of n m p a b (no-pair ws n m t.1 t.2 e) i)

spread-filled : (ws : List Window) (at : ℕ → Area) (s : Shape) (r : Area) (x y : ℕ)
    → Spread ws at s r → Covers r x y
    → (m : ℕ) × (0 < times_reached s m) × (pair_of ws m ≡ None) × Covers (at m) x y
spread-filled ws at (Leaf n) r x y t v =
    (n, count_top (Leaf n), t.1, covers-at r (at n) x y (sym t.0) v)
spread-filled ws at (Fork n p a b) r x y t v =
    ⊎_elim
    (λ f. (let i = spread-filled ws at a _ x y t.5 f in (i.0, omega (arith, i.1), i.2, i.3)))
    (λ f. (let i = spread-filled ws at b _ x y t.6 f in (i.0, omega (arith, i.1), i.2, i.3)))
    ((divides t.1 (has_size ws t.1.key) r).all x y v)

-- ---- the laws

-- a window that isn't there has no cell
area-none : (ws : List Window) (n : ℕ) → node_of ws n ≡ None → window_area ws n ≡ nowhere
unfolding found
area-none [] n e = refl
area-none (w ∷ ws) n e =
    let k : node_of ws n ≡ None → window_area ws n ≡ nowhere = area-none ws n in
    grind (arith, common_steps)

some-count : (o : Option (ℕ × Option pairs.Pair)) (n : ℕ) → n ≡ (if is_some o then 1 else 0)
    → (o ≡ None) ⊎ (0 < n)
some-count None n e = inl refl
some-count (Some x) n e = inr (omega (arith, e))

-- a window is in the tree, or has no cell
live-or-none : (t : WindowTree) (s : Shape) (cols rows n : ℕ) → IsTree t (Some s)
    → (window_area (place t cols rows).slots n ≡ nowhere) ⊎ (0 < times_reached s n)
live-or-none t s cols rows n h =
    ⊎_elim
    (λ e. inl (area-none _ n (node_placed (length t.slots) t.slots t.root _ n ∙ e)))
    (λ c. inr c) (some-count (node_of t.slots n) (times_reached s n) (h.2 n))

pub stays_on_screen : StaysOnScreen
stays_on_screen t cols rows n o e h =
    let k : IsTree t (Some (tree_of t)) = tree_of_test t e in
    ⊎_elim (λ g. rw g (omega arith))
    (λ g. spread-inside t.slots _ _ _ n (spread_tree t _ cols rows o k) g h)
    (live-or-none t (tree_of t) cols rows n k)

nowhere-covers : (a : Area) (x y : ℕ) → a ≡ nowhere → Covers a x y → ⊥
nowhere-covers a x y e c = let f : Covers nowhere x y = covers-at a nowhere x y e c in omega arith

pub never_overlaps : NeverOverlaps
never_overlaps t cols rows m n x y o e ne hm hn cm cn =
    let k : IsTree t (Some (tree_of t)) = tree_of_test t e in
    ⊎_elim (λ g. nowhere-covers _ x y g cm)
    (λ g. ⊎_elim (λ f. nowhere-covers _ x y f cn)
    (λ f. spread-apart t.slots _ _ _ m n x y (spread_tree t _ cols rows o k) ne g hm f hn cm cn)
    (live-or-none t (tree_of t) cols rows n k))
    (live-or-none t (tree_of t) cols rows m k)

pub fills_screen : FillsScreen
fills_screen t cols rows x y o e lx ly =
    let k : IsTree t (Some (tree_of t)) = tree_of_test t e in
    let i = spread-filled t.slots _ _ _ x y (spread_tree t _ cols rows o k) (omega arith) in
    (i.0, i.2, i.3)
