-- The tree is found from the list, so a test can look for it.
use Rattle.std.proofs.Common.{◌≡◌, ℕ, zero, suc, ◌≤◌, List, [], ◌∷◌, length, refl, sym, ap, ◌∙◌}
use Rattle.std.proofs.Common.{Option, Some, None, is_some, option_map, arith, true}
use Rattle.std.proofs.lemmas.Bool.{and_parts}
use Rattle.std.proofs.lemmas.Grind.{common_steps}
use Rattle.glk_windows.specs.declared.window.Window.{Window}
use Rattle.glk_windows.specs.declared.window.Pair as p
use Rattle.glk_windows.specs.Tree.{WindowTree, pair_of}
use Rattle.glk_windows.specs.Valid.{IsOrdered}
use Rattle.glk_windows.specs.OneTree.{Shape, Leaf, Fork, top, times_reached, pair_without_key}
use Rattle.glk_windows.specs.OneTree.{node_of, SpellsTree, IsTree, tree_size, shape_of, shape_with}
use Rattle.glk_windows.specs.OneTree.{tested, is_under, no_pair, once, is_tree_spelled, is_tree}
use Rattle.glk_windows.proofs.CutLemmas.{node_pair, once_of, size_length}
use Rattle.std.proofs.Common.{◌&&◌, ◌==◌, if◌then◌else◌}

-- what a list spells is what it has
pub shape_found : (d : ℕ) (s : Shape) (ws : List Window) (up : ℕ)
    → tree_size s ≤ d → SpellsTree ws up s
    → shape_of d ws (top s) ≡ s
unfolding shape_of
shape_found zero (Leaf n) ws up h t = absurd (omega (arith, h))
shape_found zero (Fork n p a b) ws up h t = absurd (omega (arith, h))
shape_found (suc d) (Leaf n) ws up h t = ap (shape_with (shape_of d ws) n) (node_pair ws n _ t)
shape_found (suc d) (Fork n p a b) ws up h t =
    let i : shape_of d ws (top a) ≡ a = shape_found d a ws n (omega (arith, h)) t.3 in
    let j : shape_of d ws (top b) ≡ b = shape_found d b ws n (omega (arith, h)) t.4 in
    ap (shape_with (shape_of d ws) n) (node_pair ws n _ t.0)
    ∙ ap (λ x. Fork n p x (shape_of d ws p.second)) (ap (shape_of d ws) t.1 ∙ i)
    ∙ ap (λ x. Fork n p a x) (ap (shape_of d ws) t.2 ∙ j)

-- a list has no second tree
pub tree_found : (t : WindowTree) (s : Shape)
    → IsOrdered t → IsTree t (Some s)
    → shape_of (length t.slots) t.slots t.root ≡ s
unfolding IsOrdered
tree_found t s o h =
    ap (shape_of (length t.slots) t.slots) h.0
    ∙ shape_found (length t.slots) s t.slots 0
    (omega (arith, size_length 0 t.slots t.next 0 s o h.1 h.2)) h.1

-- what a list spells passes the test
pub spells_tested : (ws : List Window) (s : Shape) (up : ℕ)
    → SpellsTree ws up s → tested ws up s ≡ true
spells_tested ws (Leaf n) up t = rw t (grind (arith, common_steps))
spells_tested ws (Fork n p a b) up t =
    let i : tested ws n a ≡ true = spells_tested ws a n t.3 in
    let j : tested ws n b ≡ true = spells_tested ws b n t.4 in
    rw (t.0, i, j) (grind (arith, common_steps))

leaf_node : (o : Option (ℕ × Option p.Pair)) (up : ℕ)
    → (is_under up o && no_pair o) ≡ true → o ≡ Some (up, None)
leaf_node None up e = cc
leaf_node (Some (u, None)) up e =
    (let i : u ≡ up = grind (arith, common_steps) in ap (λ v. Some (v, None)) i)
leaf_node (Some (u, Some p)) up e = absurd (grind (arith, common_steps))

under_node : (o : Option (ℕ × Option p.Pair)) (up : ℕ) (r : Option p.Pair)
    → ((x : ℕ × Option p.Pair) → o ≡ Some x → r ≡ x.1) → is_under up o ≡ true → o ≡ Some (up, r)
under_node None up r h e = cc
under_node (Some (u, y)) up r h e =
    let i : u ≡ up = grind (arith, common_steps) in
    let j : r ≡ y = h (u, y) refl in
    ap (λ v. Some (v, y)) i ∙ ap (λ v. Some (up, v)) (sym j)

top_with : (f : ℕ → Shape) (n : ℕ) (o : Option p.Pair) → top (shape_with f n o) ≡ n
top_with f n None = refl
top_with f n (Some p) = refl

pub top_shape : (d : ℕ) (ws : List Window) (n : ℕ) → top (shape_of d ws n) ≡ n
unfolding shape_of
top_shape zero ws n = refl
top_shape (suc d) ws n = top_with (shape_of d ws) n (option_map pair_without_key (pair_of ws n))

with_spells : (ws : List Window) (f : ℕ → Shape) (n up : ℕ) (o : Option p.Pair)
    → ((m : ℕ) → m ≡ top (f m))
    → ((m v : ℕ) → tested ws v (f m) ≡ true → SpellsTree ws v (f m))
    → option_map pair_without_key (pair_of ws n) ≡ o
    → tested ws up (shape_with f n o) ≡ true
    → SpellsTree ws up (shape_with f n o)
with_spells ws f n up None g h k e = leaf_node (node_of ws n) up e
with_spells ws f n up (Some p) g h k e =
    let a = and_parts (is_under up (node_of ws n)) _ e in
    let b = and_parts (tested ws n (f p.first)) (tested ws n (f p.second)) a.1 in (
      under_node (node_of ws n) up (Some p) (λ x l. sym k ∙ node_pair ws n x l) a.0,
      g p.first,
      g p.second,
      h p.first n b.0,
      h p.second n b.1,
    )

-- the tree that passes the test is spelled
pub tested_spells : (d : ℕ) (ws : List Window) (n up : ℕ)
    → tested ws up (shape_of d ws n) ≡ true
    → SpellsTree ws up (shape_of d ws n)
unfolding shape_of
tested_spells zero ws n up e = leaf_node (node_of ws n) up e
tested_spells (suc d) ws n up e =
    with_spells ws (shape_of d ws) n up _ (λ m. sym (top_shape d ws m))
    (λ m v. tested_spells d ws m v) refl e

-- nothing is reached that isn't there
spells_none : (ws : List Window) (s : Shape) (up m : ℕ)
    → SpellsTree ws up s → node_of ws m ≡ None
    → times_reached s m ≡ 0
spells_none ws (Leaf n) up m t e = grind (arith, common_steps)
spells_none ws (Fork n p a b) up m t e =
    let t0 : node_of ws n ≡ Some (up, Some p) = t.0 in
    let i : times_reached a m ≡ 0 = spells_none ws a n m t.3 e in
    let j : times_reached b m ≡ 0 = spells_none ws b n m t.4 e in
    grind (arith, common_steps)

once_some : (vs : List Window) (s : Shape) (m : ℕ)
    → once vs s ≡ true → is_some (node_of vs m) ≡ true
    → times_reached s m ≡ 1
once_some [] s m e h = cc
once_some (w ∷ vs) s m e h =
    let a = and_parts (times_reached s w.number == 1) (once vs s) e in
    let k : is_some (node_of vs m) ≡ true → times_reached s m ≡ 1 = once_some vs s m a.1 in
    grind (arith, common_steps, a.0)

once-either : (o : Option (ℕ × Option p.Pair)) (n : ℕ)
    → (o ≡ None → n ≡ 0) → (is_some o ≡ true → n ≡ 1)
    → n ≡ (if is_some o then 1 else 0)
once-either None n f g = f refl
once-either (Some x) n f g = g refl

once_is : (vs : List Window) (s : Shape)
    → ((m : ℕ) → is_some (node_of vs m) ≡ true → times_reached s m ≡ 1)
    → once vs s ≡ true
once_is [] s h = refl
once_is (w ∷ vs) s h =
    let i : times_reached s w.number ≡ 1 = h w.number (grind (arith, common_steps)) in
    let k : once vs s ≡ true = once_is vs s (λ m e. h m (grind (arith, common_steps))) in
    grind (arith, common_steps)

-- windows that pass the test are one tree
pub tree_of_test : (t : WindowTree)
    → is_tree t ≡ true
    → IsTree t (Some (shape_of (length t.slots) t.slots t.root))
tree_of_test t e =
    let s : Shape = shape_of (length t.slots) t.slots t.root in
    let a = and_parts (tested t.slots 0 s) (once t.slots s) e in
    let k : SpellsTree t.slots 0 s = tested_spells (length t.slots) t.slots t.root 0 a.0 in (
      sym (top_shape (length t.slots) t.slots t.root),
      k,
      λ m. once-either (node_of t.slots m) (times_reached s m) (spells_none t.slots s 0 m k)
          (once_some t.slots s m a.1),
    )

-- one tree passes the test
pub test_of_tree : (t : WindowTree) (s : Shape) → IsOrdered t → IsTree t (Some s) → is_tree t ≡ true
test_of_tree t s o h =
    let a : tested t.slots 0 s ≡ true = spells_tested t.slots s 0 h.1 in
    let b : once t.slots s ≡ true = once_is t.slots s (λ m e. once_of _ _ (h.2 m) e) in
    ap (is_tree_spelled t.slots) (tree_found t s o h) ∙ rw (a, b) refl
