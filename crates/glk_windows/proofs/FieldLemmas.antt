-- The tests of windows that are made again from what was kept of them.
use native.Mathlib.Numerals.{unary_clauses}
use Rattle.std.proofs.Common.{◌≡◌, ◌∙◌, ℕ, zero, suc, ◌+◌, ◌-◌, ◌<◌, ◌≤◌, ◌==◌, ◌&&◌, not, nat_le}
use Rattle.std.proofs.Common.{true, false, List, [], ◌∷◌, length, Option, Some, None}
use Rattle.std.proofs.Common.{arith, refl, sym, ap, inl, inr, is_some, option_map}
use Rattle.std.proofs.lemmas.Bool.{and_from, and_parts, cases_Bool, eqb-true, le-leb}
use Rattle.std.proofs.lemmas.Bool.{leb-true}
use Rattle.std.proofs.lemmas.Bool.Decides.{nat_tests}
use Rattle.std.proofs.lemmas.Grind.{common_steps}
use Rattle.glk_windows.specs.Fields.{IsRest, is_ordered, is_valid_tree}
use Rattle.glk_windows.specs.OneTree.{Shape, Leaf, Fork, pair_without_key}
use Rattle.glk_windows.specs.OneTree.{bare_in, times_reached, is_tree_spelled, is_under}
use Rattle.glk_windows.specs.OneTree.{pair_key, no_pair, node_of, once, shape_of}
use Rattle.glk_windows.specs.OneTree.{tree_size, shape_with, tested, top, key_in}
use Rattle.glk_windows.specs.Tree.{WindowTree, pair_in}
use Rattle.glk_windows.specs.Tree.{pair_of, read_window, window_at}
use Rattle.glk_windows.specs.Valid.{IsOrdered, IsValidTree, are_sound_windows, is_one_tree}
use Rattle.glk_windows.specs.declared.window.Pair as p
use Rattle.glk_windows.specs.declared.window.Window.{Window}
use Rattle.glk_windows.proofs.CutLemmas.{tally, tally_fork}
use Rattle.glk_windows.proofs.OneTreeLemmas.{node_window}
use Rattle.glk_windows.proofs.TestLemmas.{top_shape}

-- ---- what a list has at a number

pub shape_leaf : (d : ℕ) (ws : List Window) (n : ℕ) → pair_of ws n ≡ None
    → shape_of d ws n ≡ Leaf n
unfolding shape_of
shape_leaf zero ws n e = refl
shape_leaf (suc d) ws n e = ap (λ o. shape_with (shape_of d ws) n (option_map pair_without_key o)) e

pub shape_end : (d : ℕ) (ws : List Window) (n : ℕ) → d ≡ 0 → shape_of d ws n ≡ Leaf n
unfolding shape_of
shape_end zero ws n e = refl
shape_end (suc d) ws n e = absurd (omega (arith, e))

pub shape_fork : (d : ℕ) (ws : List Window) (n : ℕ) (q : p.Pair) → 0 < d → pair_of ws n ≡ Some q
    → shape_of d ws n
    ≡ Fork n (pair_without_key q) (shape_of (d - 1) ws q.first) (shape_of (d - 1) ws q.second)
unfolding shape_of
shape_fork zero ws n q h e = absurd (omega arith)
shape_fork (suc d) ws n q h e =
    simp unary_clauses (ap (λ o. shape_with (shape_of d ws) n (option_map pair_without_key o)) e)

pub size_fork : (d : ℕ) (ws : List Window) (n : ℕ) (q : p.Pair) → 0 < d → pair_of ws n ≡ Some q
    → tree_size (shape_of d ws n)
    ≡ 1 + tree_size (shape_of (d - 1) ws q.first) + tree_size (shape_of (d - 1) ws q.second)
size_fork d ws n q h e = ap tree_size (shape_fork d ws n q h e)

-- ---- counting down

size_some : (s : Shape) → 0 < tree_size s
size_some (Leaf n) = omega arith
size_some (Fork n q a b) = omega arith

-- a tree that is there has its top there
tested_top : (ws : List Window) (up : ℕ) (s : Shape) → tested ws up s ≡ true
    → is_under up (node_of ws (top s)) ≡ true
tested_top ws up (Leaf n) e = (and_parts (is_under up (node_of ws n)) _ e).0
tested_top ws up (Fork n q a b) e = (and_parts (is_under up (node_of ws n)) _ e).0

-- and its two parts are there
tested_parts : (ws : List Window) (up n : ℕ) (q : p.Pair) (a b : Shape)
    → tested ws up (Fork n q a b) ≡ true → (tested ws n a ≡ true) × (tested ws n b ≡ true)
tested_parts ws up n q a b e =
    and_parts (tested ws n a) _ (and_parts (is_under up (node_of ws n)) _ e).1

pub rest-full : (ws : List Window) (up : ℕ) (s : Shape) (most : ℕ) → most ≡ 0
    → IsRest ws up s most None
rest-full ws up s most e t = let h = size_some s in omega (arith, e, h)

pub rest-away : (ws : List Window) (up d n most : ℕ) → is_under up (node_of ws n) ≡ false
    → IsRest ws up (shape_of d ws n) most None
rest-away ws up d n most e t =
    let h : is_under up (node_of ws n) ≡ true =
    ap (λ m. is_under up (node_of ws m)) (sym (top_shape d ws n))
    ∙ tested_top ws up (shape_of d ws n) t in
    let c : true ≡ false = sym h ∙ e in absurd cc

-- what a window is there as, by what it holds
leaf-there : (o : Option Window) (x : Option (ℕ × Option p.Pair)) (up : ℕ)
    → x ≡ option_map (λ w. (w.parent, bare_in w)) o → is_under up x ≡ true
    → read_window None pair_in o ≡ None → (is_under up x && no_pair x) ≡ true
leaf-there None x up e u h =
    let c : is_under up None ≡ true = ap (is_under up) (sym e) ∙ u in absurd cc
leaf-there (Some w) x up e u h =
    and_from _ _ u
    (ap no_pair (e ∙ ap (λ q. Some (w.parent, option_map pair_without_key q)) h))

pair-there : (o : Option Window) (x : Option (ℕ × Option p.Pair)) (q : p.Pair)
    → x ≡ option_map (λ w. (w.parent, bare_in w)) o → read_window None pair_in o ≡ Some q
    → no_pair x ≡ false
pair-there None x q e h = absurd cc
pair-there (Some w) x q e h =
    ap no_pair (e ∙ ap (λ r. Some (w.parent, option_map pair_without_key r)) h)

pub rest-leaf : (ws : List Window) (up d n most : ℕ) → 0 < most
    → is_under up (node_of ws n) ≡ true → pair_of ws n ≡ None
    → IsRest ws up (shape_of d ws n) most (Some (most - 1))
rest-leaf ws up d n most m u h =
    rw (shape_leaf d ws n h)
    (leaf-there (window_at ws n) (node_of ws n) up (node_window ws n) u h, omega arith)

pub rest-cut : (ws : List Window) (up d n most : ℕ) (q : p.Pair) → d ≡ 0 → pair_of ws n ≡ Some q
    → IsRest ws up (shape_of d ws n) most None
rest-cut ws up d n most q z h =
    rw (shape_end d ws n z) (λ t.
    let c : true ≡ false = sym (and_parts (is_under up (node_of ws n)) _ t).1
    ∙ pair-there (window_at ws n) (node_of ws n) q (node_window ws n) h in absurd cc)

rest-first : (ws : List Window) (up n most : ℕ) (q : p.Pair) (a b : Shape) → 0 < most
    → IsRest ws n a (most - 1) None → IsRest ws up (Fork n q a b) most None
rest-first ws up n most q a b m r t =
    let l = r (tested_parts ws up n q a b t).0 in omega (arith, l)

rest-both : (ws : List Window) (up n most left : ℕ) (q : p.Pair) (a b : Shape) (o : Option ℕ)
    → 0 < most → is_under up (node_of ws n) ≡ true → IsRest ws n a (most - 1) (Some left)
    → IsRest ws n b left o → IsRest ws up (Fork n q a b) most o
rest-both ws up n most left q a b None m u f r = λ t.
    let l = r (tested_parts ws up n q a b t).1 in
    let k = f.1 in
    omega (arith, l, k)
rest-both ws up n most left q a b (Some x) m u f r =
    let k = f.1 in
    let l = r.1 in (
      and_from _ _ u (and_from _ _ f.0 r.0),
      omega (arith, k, l),
    )

pub rest-none : (ws : List Window) (up d n most : ℕ) (q : p.Pair) → 0 < d → 0 < most
    → pair_of ws n ≡ Some q → IsRest ws n (shape_of (d - 1) ws q.first) (most - 1) None
    → IsRest ws up (shape_of d ws n) most None
rest-none ws up d n most q l m h r =
    rw (shape_fork d ws n q l h)
    (rest-first ws up n most (pair_without_key q) (shape_of (d - 1) ws q.first)
    (shape_of (d - 1) ws q.second)
    m r)

pub rest-fork : (ws : List Window) (up d n most left : ℕ) (q : p.Pair) (o : Option ℕ) → 0 < d
    → 0 < most → is_under up (node_of ws n) ≡ true → pair_of ws n ≡ Some q
    → IsRest ws n (shape_of (d - 1) ws q.first) (most - 1) (Some left)
    → IsRest ws n (shape_of (d - 1) ws q.second) left o → IsRest ws up (shape_of d ws n) most o
rest-fork ws up d n most left q o l m u h f r =
    rw (shape_fork d ws n q l h)
    (rest-both ws up n most left (pair_without_key q) (shape_of (d - 1) ws q.first)
    (shape_of (d - 1) ws q.second) o m u f r)

-- ---- a tree whose windows are each met once has no more of them than there are

met-leaf : (ws : List Window) (n up : ℕ) → is_under up (node_of ws n) ≡ true → 1 ≤ tally ws (Leaf n)
met-leaf [] n up e = absurd cc
met-leaf (w ∷ ws) n up e = grind (arith, common_steps, e, met-leaf ws n up)

met-size : (ws : List Window) (up : ℕ) (s : Shape) → tested ws up s ≡ true
    → tree_size s ≤ tally ws s
met-size ws up (Leaf n) e = met-leaf ws n up (tested_top ws up (Leaf n) e)
met-size ws up (Fork n q a b) e =
    let t = tested_parts ws up n q a b e in
    let here = met-leaf ws n up (tested_top ws up (Fork n q a b) e) in
    let i = met-size ws n a t.0 in
    let j = met-size ws n b t.1 in
    let k = tally_fork ws n q a b in
    omega (arith, here, i, j, k)

met-once : (ws : List Window) (s : Shape) → once ws s ≡ true → tally ws s ≡ length ws
met-once [] s e = refl
met-once (w ∷ ws) s e =
    let t = and_parts (times_reached s w.number == 1) (once ws s) e in
    let i = met-once ws s t.1 in
    omega (arith, i, eqb-true (times_reached s w.number) 1 t.0)

once-size : (ws : List Window) (up : ℕ) (s : Shape) → tested ws up s ≡ true → once ws s ≡ true
    → tree_size s ≤ length ws
once-size ws up s t e =
    omega (arith, met-size ws up s t, met-once ws s e)

-- where the list doesn't have the tree, or less of it, it doesn't spell it
pub spelled-none : (ws : List Window) (s : Shape) (o : Option ℕ) → IsRest ws 0 s (length ws) o
    → is_some o ≡ false → is_tree_spelled ws s ≡ false
spelled-none ws s None r e = elim (cases_Bool (is_tree_spelled ws s)) [
  | inl h ↦
      let t = and_parts (tested ws 0 s) (once ws s) h in
      let few = once-size ws 0 s t.0 t.1 in
      let more = r t.0 in
      absurd (omega (arith, few, more))
  | inr h ↦ h
]
spelled-none ws s (Some x) r e = absurd cc

-- ---- the key of a pair

pub key_found : (ws : List Window) (n : ℕ) (q : p.Pair) → pair_of ws n ≡ Some q
    → pair_key ws n ≡ q.key
key_found ws n q e = key-in (window_at ws n) e
  where
    key-in : (o : Option Window) → read_window None pair_in o ≡ Some q
        → read_window 0 (λ w. key_in (pair_in w)) o ≡ q.key
    key-in None h = absurd cc
    key-in (Some w) h = ap key_in h

-- ---- the numbers ascend

ordered-of : (t : WindowTree) → is_ordered t ≡ true → IsOrdered t
unfolding IsOrdered
ordered-of t e =
    let k = and_parts (not (t.next == 0)) _ e in (grind (arith, nat_tests, k.0), k.1)

to-ordered : (t : WindowTree) → IsOrdered t → is_ordered t ≡ true
unfolding IsOrdered
to-ordered t o =
    let some = o.0 in
    and_from (not (t.next == 0)) _ (grind (arith, nat_tests, some)) o.1

-- ---- the test tells what is valid

pub valid-of : (t : WindowTree) → is_valid_tree t ≡ true → IsValidTree t
valid-of t e =
    let a = and_parts (is_ordered t) _ e in
    let b = and_parts (nat_le (length t.slots) 64) _ a.1 in
    let d = and_parts (are_sound_windows t.slots) _ b.1 in
    let g = and_parts (is_one_tree t) _ d.1 in
    record {
      ordered = ordered-of t a.0;
      one_tree = g.0;
      keyed = g.1;
      few = leb-true (length t.slots) 64 b.0;
      sound = d.0;
    }

pub of-valid : (t : WindowTree) → IsValidTree t → is_valid_tree t ≡ true
of-valid t v =
    and_from _ _ (to-ordered t v.ordered) (and_from _ _ (le-leb (length t.slots) 64 v.few)
    (and_from _ _ v.sound (and_from _ _ v.one_tree v.keyed)))
