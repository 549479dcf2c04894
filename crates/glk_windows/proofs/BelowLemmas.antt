-- A window below a pair, by the way up and by the tree.
use Rattle.std.proofs.Common.{◌≡◌, ◌≢◌, ◌⊎◌, inl, inr, ⊎_elim, ℕ, zero, suc, ◌≤◌, ◌<◌}
use Rattle.std.proofs.Common.{◌==◌, ◌||◌, ◌&&◌, List, [], ◌∷◌, length, refl, sym}
use Rattle.std.proofs.Common.{ap, ◌∙◌, Option, Some, None, is_some, option_map}
use Rattle.std.proofs.Common.{arith, Bool, true, false, not, if◌then◌else◌, nat_lt}
use Rattle.std.proofs.lemmas.Bool.{and_parts, eq-eqb, eqb-true, not-true, or_left, or_right}
use Rattle.std.proofs.lemmas.Grind.{common_steps}
use Rattle.glk_numbers.specs.Numbered.{found}
use Rattle.glk_windows.specs.declared.window.Window.{Window}
use Rattle.glk_windows.specs.declared.window.Pair as pairs
use Rattle.glk_windows.specs.declared.window.Content.{Content}
use Rattle.glk_windows.specs.declared.window.Content.TheVariants.{Pair}
use Rattle.glk_windows.specs.Tree.{WindowTree, IsLive, read_window, window_at}
use Rattle.glk_windows.specs.Tree.{pair_of, pair_in, pair_content, parent_of}
use Rattle.glk_windows.specs.Reading.{is_below, kind_in, window_kind, may_key}
use Rattle.glk_windows.specs.OneTree.{Shape, Leaf, Fork, top, times_reached}
use Rattle.glk_windows.specs.OneTree.{pair_without_key, node_of, SpellsTree}
use Rattle.glk_windows.specs.OneTree.{Once, below, has_leaf, tree_size, tree_of}
use Rattle.glk_windows.specs.Valid.{IsValidTree, IsOrdered}
use Rattle.glk_windows.specs.Laws.{IsKeyOf, MayKeyHolds}
use Rattle.glk_windows.proofs.OneTreeLemmas.{count_top, once_at, once_le, node_parent}
use Rattle.glk_windows.proofs.CutLemmas.{node_lower, node_pair, none_of, size_length}
use Rattle.glk_windows.proofs.LiftLemmas.{count_below, pick}
use Rattle.glk_windows.proofs.CloseLemmas.{size_below, spells_below}
use Rattle.glk_windows.proofs.KeyLemmas.{leaf_count}
use Rattle.glk_windows.proofs.TestLemmas.{tree_found}
use Rattle.glk_windows.proofs.SpreadLemmas.{not_in_parts, part_of}
use Rattle.glk_windows.proofs.ValidLemmas.{node_live, node_nil, some_tree, SomeTree}

or-false : (a b : Bool) → a ≡ false → (a || b) ≡ true → b ≡ true
or-false true b e f = cc
or-false false b e f = f

ap-lt : {x y : ℕ} → x ≡ y → 0 < x → 0 < y
ap-lt e h = omega (arith, e, h)

zero-at : (f : ℕ → ℕ) (u m : ℕ) → u ≡ m → f m ≡ 0 → 0 < f u → ⊥
zero-at f u m e z c = absurd (omega (arith, ap f e, z, c))

at-top : (s : Shape) (n u : ℕ) → top s ≡ n → u ≡ n → 0 < times_reached s u
at-top s n u e f = ap-lt (ap (times_reached s) (e ∙ sym f)) (count_top s)

own-count : (m : ℕ) (p : pairs.Pair) (a b : Shape) (u : ℕ)
    → u ≡ m → 0 < times_reached (Fork m p a b) u
own-count m p a b u e = at-top (Fork m p a b) m u refl e

above : (ws : List Window) (m k u up : ℕ) (p : pairs.Pair) (a b : Shape)
    → k ≡ m → parent_of ws k ≡ u → up ≡ parent_of ws m
    → times_reached (Fork m p a b) up ≡ 0 → 0 < times_reached (Fork m p a b) u → ⊥
above ws m k u up p a b e f g z c =
    zero-at (times_reached (Fork m p a b)) u up (sym f ∙ ap (parent_of ws) e ∙ sym g) z c

-- where in a tree a window stands
pub data Place (m : ℕ) (a b : Shape) (k : ℕ) : Type 0 where
  Here : k ≡ m → Place m a b k
  InA : 0 < times_reached a k → Place m a b k
  InB : 0 < times_reached b k → Place m a b k

stands : (m k : ℕ) (p : pairs.Pair) (a b : Shape) (x y : Bool)
    → (m == k) ≡ x → nat_lt 0 (times_reached a k) ≡ y
    → 0 < times_reached (Fork m p a b) k → Place m a b k
stands m k p a b true y e f h = Here (sym (eqb-true m k e))
stands m k p a b false true e f h = InA (grind (arith, common_steps))
stands m k p a b false false e f h = InB (grind (arith, common_steps))

place-of : (m k : ℕ) (p : pairs.Pair) (a b : Shape)
    → 0 < times_reached (Fork m p a b) k → Place m a b k
place-of m k p a b h = stands m k p a b (m == k) (nat_lt 0 (times_reached a k)) refl refl h

-- the parent of a window of a tree is in the tree, or above it
parent-in : (ws : List Window) (s : Shape) (up k : ℕ) → SpellsTree ws up s → 0 < times_reached s k
    → (parent_of ws k ≡ up) ⊎ (0 < times_reached s (parent_of ws k))
parent-in ws (Leaf m) up k t c =
    let e : m ≡ k = grind (arith, common_steps) in
    inl (ap (parent_of ws) (sym e) ∙ sym (node_parent ws m _ t))
parent-in ws (Fork m p a b) up k t c =
    elim (place-of m k p a b c)
    as (λ _. (parent_of ws k ≡ up) ⊎ (0 < times_reached (Fork m p a b) (parent_of ws k))) [
      | Here e ↦ inl (ap (parent_of ws) e ∙ sym (node_parent ws m _ t.0))
      | InA f ↦
          ⊎_elim (λ e. inr (own-count m p a b (parent_of ws k) e)) (λ g. inr (omega (arith, g)))
          (parent-in ws a m k t.3 f)
      | InB f ↦
          ⊎_elim (λ e. inr (own-count m p a b (parent_of ws k) e)) (λ g. inr (omega (arith, g)))
          (parent-in ws b m k t.4 f)
    ]

-- what hangs below a window of a part is in the part
below-part : (ws : List Window) (n : ℕ) (s : Shape) (up k : ℕ)
    → SpellsTree ws up s → ((m : ℕ) → times_reached s m ≤ 1)
    → times_reached s up ≡ 0
    → 0 < times_reached s n → 0 < times_reached s k
    → 0 < times_reached (below n s) (parent_of ws k)
    → 0 < times_reached (below n s) k
below-part ws n (Leaf m) up k t d z cn ck cu =
    let e : m ≡ k = grind (arith, common_steps) in
    let u : parent_of ws k ≡ up = ap (parent_of ws) (sym e) ∙ sym (node_parent ws m _ t) in
    let v : 0 < times_reached (Leaf m) up = rw (← u) cu in
    absurd (omega (arith, z, v))
below-part ws n (Fork m p a b) up k t d z cn ck cu =
    let u : ℕ = parent_of ws k in
    let dm : times_reached (Fork m p a b) m ≤ 1 = d m in
    let du : times_reached (Fork m p a b) u ≤ 1 = d u in
    let o : (times_reached a m ≡ 0) × (times_reached b m ≡ 0) = not_in_parts m p a b dm in
    pick (m == n)
    (λ e. (let g : below n (Fork m p a b) ≡ Fork m p a b = rw e refl in rw g ck))
    (λ e. pick (nat_lt 0 (times_reached a n))
    (λ f. (let g : below n (Fork m p a b) ≡ below n a = rw (e, f) refl in
    let ca : 0 < times_reached a n = grind (arith, common_steps) in
    let cv : 0 < times_reached (below n a) u = ap-lt (ap (λ x. times_reached x u) g) cu in
    let cau : 0 < times_reached a u = omega (arith, cv, count_below n a u) in
    ap-lt (ap (λ x. times_reached x k) (sym g))
    (elim (place-of m k p a b ck) as (λ _. 0 < times_reached (below n a) k) [
      | Here h ↦
          absurd (above ws m k u up p a b h refl (node_parent ws m _ t.0) z (omega (arith, cau)))
      | InA h ↦ below-part ws n a m k t.3 (λ x. omega (arith, d x)) o.0 ca h cv
      | InB h ↦ (elim (parent-in ws b m k t.4 h) as (λ _. 0 < times_reached (below n a) k) [
        | inl i ↦ absurd (zero-at (times_reached a) u m i o.0 cau)
        | inr i ↦ absurd (omega (arith, i, cau, du))
      ])
    ])))
    (λ f. (let g : below n (Fork m p a b) ≡ below n b = rw (e, f) refl in
    let cb : 0 < times_reached b n = grind (arith, common_steps) in
    let cv : 0 < times_reached (below n b) u = ap-lt (ap (λ x. times_reached x u) g) cu in
    let cbu : 0 < times_reached b u = omega (arith, cv, count_below n b u) in
    ap-lt (ap (λ x. times_reached x k) (sym g))
    (elim (place-of m k p a b ck) as (λ _. 0 < times_reached (below n b) k) [
      | Here h ↦
          absurd (above ws m k u up p a b h refl (node_parent ws m _ t.0) z (omega (arith, cbu)))
      | InB h ↦ below-part ws n b m k t.4 (λ x. omega (arith, d x)) o.1 cb h cv
      | InA h ↦ (elim (parent-in ws a m k t.3 h) as (λ _. 0 < times_reached (below n b) k) [
        | inl i ↦ absurd (zero-at (times_reached b) u m i o.1 cbu)
        | inr i ↦ absurd (omega (arith, i, cbu, du))
      ])
    ]))))

parent-none : (ws : List Window) (k : ℕ) → node_of ws k ≡ None → parent_of ws k ≡ 0
unfolding found
parent-none [] k e = refl
parent-none (w ∷ ws) k e =
    let h : node_of ws k ≡ None → parent_of ws k ≡ 0 = parent-none ws k in
    grind (arith, common_steps)

live-count : (o : Option (ℕ × Option pairs.Pair)) (n u : ℕ)
    → n ≡ (if is_some o then 1 else 0) → (o ≡ None → u ≡ 0)
    → u ≢ 0 → 0 < n
live-count None n u e f h = absurd (h (f refl))
live-count (Some x) n u e f h = omega (arith, e)

-- the way up from a window leads to those above it alone
way-up : (d : ℕ) (ws : List Window) (n : ℕ) (s : Shape) (k : ℕ)
    → SpellsTree ws 0 s → ((m : ℕ) → times_reached s m ≤ 1)
    → Once ws s
    → times_reached s 0 ≡ 0 → 0 < times_reached s n
    → is_below d ws k n ≡ true → 0 < times_reached (below n s) k
unfolding is_below
way-up zero ws n s k t d w z cn e = cc
way-up (suc j) ws n s k t d w z cn e =
    let u : ℕ = parent_of ws k in
    let tb : _ = spells_below ws n s 0 t cn in
    let cu : 0 < times_reached (below n s) u = pick (u == n)
    (λ f. at-top (below n s) n u tb.0 (eqb-true u n f))
    (λ f. way-up j ws n s u t d w z cn (or-false (u == n) _ f e)) in
    let csu : 0 < times_reached s u = omega (arith, cu, count_below n s u) in
    let uz : u ≢ 0 = λ i. zero-at (times_reached s) u 0 i z csu in
    below-part ws n s 0 k t d z cn
    (live-count (node_of ws k) (times_reached s k) u (w k) (parent-none ws k) uz) cu

leaf-of : (ws : List Window) (s : Shape) (up k : ℕ) → SpellsTree ws up s
    → 0 < times_reached s k → pair_of ws k ≡ None → has_leaf s k ≡ true
leaf-of ws (Leaf n) up k t c e = grind (arith, common_steps)
leaf-of ws (Fork n p a b) up k t c e =
    let other : n ≢ k = λ i. (let x : None ≡ Some p =
    sym (ap (option_map pair_without_key) (ap (pair_of ws) i ∙ e)) ∙ node_pair ws n _ t.0 in cc) in
    elim (part_of n k p a b other c) [
      | inl f ↦ or_left (has_leaf a k) _ (leaf-of ws a n k t.3 f e)
      | inr f ↦ or_right (has_leaf a k) _ (leaf-of ws b n k t.4 f e)
    ]

kind-pair : (c : Content) → (kind_in c == 1) ≡ false → pair_content c ≡ None
kind-pair (Pair q) e = absurd (grind (arith, e))
kind-pair c e = refl

kind-found : (o : Option Window)
    → (read_window 0 (λ w. kind_in w.content) o == 1) ≡ false
    → read_window None pair_in o ≡ None
kind-found None e = refl
kind-found (Some w) e = kind-pair w.content e

key-tree : (t : WindowTree) (n key : ℕ) (x : ℕ × Option pairs.Pair)
    → SomeTree t → IsOrdered t → node_of t.slots n ≡ Some x
    → is_below (length t.slots) t.slots key n ≡ true → pair_of t.slots key ≡ None → IsKeyOf t n key
unfolding IsOrdered
key-tree t n key x (None, h, k) o l up pn = absurd (node_nil t.slots n x h.1 l)
key-tree t n key x (Some s, h, k) o l up pn =
    let cn : 0 < times_reached s n = omega (arith, once_at _ _ x l (h.2 n)) in
    let dd : (m : ℕ) → times_reached s m ≤ 1 = λ m. once_le _ _ (h.2 m) in
    let z : times_reached s 0 ≡ 0 =
    h.2 0 ∙ ap (λ o. if is_some o then 1 else 0) (node_lower 0 t.slots t.next 0 o (omega arith)) in
    let tb : _ = spells_below t.slots n s 0 h.1 cn in
    let ck : 0 < times_reached (below n s) key =
    way-up (length t.slots) t.slots n s key h.1 dd h.2 z cn up in
    let lf : has_leaf (below n s) key ≡ true =
    leaf-of t.slots (below n s) (parent_of t.slots n) key tb.1 ck pn in
    inr (ap (λ x. has_leaf (below n x) key) (tree_found t s o h) ∙ lf)

key-case : (t : WindowTree) (n key : ℕ) (b : Bool) → (key == 0) ≡ b → IsValidTree t → IsLive t n
    → (b || (is_below (length t.slots) t.slots key n && not (window_kind t.slots key == 1))) ≡ true
    → IsKeyOf t n key
key-case t n key true e v l h = inl (eqb-true key 0 e)
key-case t n key false e v l h =
    let up : is_below (length t.slots) t.slots key n ≡ true =
    (and_parts _ _ h).0 in
    let kd : (window_kind t.slots key == 1) ≡ false =
    not-true _ (and_parts (is_below (length t.slots) t.slots key n) _ h).1 in
    let pn : pair_of t.slots key ≡ None = kind-found (window_at t.slots key) kd in
    let x : _ = node_live t.slots n l in
    key-tree t n key x.0 (some_tree t v) v.ordered x.1 up pn

-- ---- and the other way: what stands below is found on the way up

climbs-on : (d : ℕ) (ws : List Window) (k m up : ℕ) → is_below d ws k m ≡ true → parent_of ws m ≡ up
    → is_below (suc d) ws k up ≡ true
unfolding is_below
climbs-on zero ws k m up e f = cc
climbs-on (suc d) ws k m up e f =
    let u : ℕ = parent_of ws k in
    or_right (u == up) _ (pick (u == m)
    (λ i. or_left (parent_of ws u == up) _
    (eq-eqb _ up (ap (parent_of ws) (eqb-true u m i) ∙ f)))
    (λ i. climbs-on d ws u m up (or-false (u == m) _ i e) f))

climbs : (d : ℕ) (ws : List Window) (s : Shape) (up k : ℕ) → tree_size s ≤ d → SpellsTree ws up s
    → 0 < times_reached s k → is_below d ws k up ≡ true
unfolding is_below
climbs zero ws (Leaf m) up k h t c = absurd (omega (arith, h))
climbs zero ws (Fork m p a b) up k h t c = absurd (omega (arith, h))
climbs (suc d) ws (Leaf m) up k h t c =
    let e : m ≡ k = grind (arith, common_steps) in
    or_left (parent_of ws k == up) _
    (eq-eqb _ up (ap (parent_of ws) (sym e) ∙ sym (node_parent ws m _ t)))
climbs (suc d) ws (Fork m p a b) up k h t c =
    let f : parent_of ws m ≡ up = sym (node_parent ws m _ t.0) in
    elim (place-of m k p a b c) as (λ _. is_below (suc d) ws k up ≡ true) [
      | Here e ↦ or_left (parent_of ws k == up) _ (eq-eqb _ up (ap (parent_of ws) e ∙ f))
      | InA g ↦ climbs-on d ws k m up (climbs d ws a m k (omega (arith, h)) t.3 g) f
      | InB g ↦ climbs-on d ws k m up (climbs d ws b m k (omega (arith, h)) t.4 g) f
    ]

leaf-node : (ws : List Window) (s : Shape) (up k : ℕ) → SpellsTree ws up s → has_leaf s k ≡ true
    → (u : ℕ) × (node_of ws k ≡ Some (u, None))
leaf-node ws (Leaf n) up k t e = (up, ap (node_of ws) (sym (eqb-true n k e)) ∙ t)
leaf-node ws (Fork n p a b) up k t e =
    pick (has_leaf a k) (λ f. leaf-node ws a n k t.3 f)
    (λ f. leaf-node ws b n k t.4 (or-false (has_leaf a k) _ f e))

kind-none : (c : Content) → pair_content c ≡ None → (kind_in c == 1) ≡ false
kind-none (Pair q) e = cc
kind-none c e = refl

kind-single : (o : Option Window) → read_window None pair_in o ≡ None
    → (read_window 0 (λ w. kind_in w.content) o == 1) ≡ false
kind-single None e = refl
kind-single (Some w) e = kind-none w.content e

single : (ws : List Window) (k u : ℕ) → node_of ws k ≡ Some (u, None)
    → (window_kind ws k == 1) ≡ false
single ws k u e = kind-single (window_at ws k) (none_of (pair_of ws k) (node_pair ws k _ e))

climbs-part : (d : ℕ) (ws : List Window) (s : Shape) (up n k : ℕ) → top s ≡ n → tree_size s ≤ d
    → SpellsTree ws up s → window_kind ws n ≡ 1 → has_leaf s k ≡ true → is_below d ws k n ≡ true
climbs-part d ws (Leaf m) up n k e h t p l =
    let i : (window_kind ws m == 1) ≡ false = single ws m up t in
    let j : window_kind ws m ≡ 1 = ap (window_kind ws) e ∙ p in
    absurd (grind (arith, common_steps))
climbs-part d ws (Fork m q a b) up n k e h t p l =
    ap (is_below d ws k) (sym e) ∙ pick (has_leaf a k)
    (λ f. climbs d ws a m k (omega (arith, h)) t.3 (leaf_count a k f))
    (λ f. climbs d ws b m k (omega (arith, h)) t.4
    (leaf_count b k (or-false (has_leaf a k) _ f l)))

key-below : (t : WindowTree) (n key : ℕ) (x : ℕ × Option pairs.Pair) → SomeTree t → IsOrdered t
    → node_of t.slots n ≡ Some x → window_kind t.slots n ≡ 1
    → has_leaf (below n (tree_of t)) key ≡ true → may_key t.slots n key ≡ true
unfolding IsOrdered
key-below t n key x (None, h, k) o l p e = absurd (node_nil t.slots n x h.1 l)
key-below t n key x (Some s, h, k) o l p e =
    let ws : List Window = t.slots in
    let cn : 0 < times_reached s n = omega (arith, once_at _ _ x l (h.2 n)) in
    let tb : _ = spells_below ws n s 0 h.1 cn in
    let sz : tree_size s ≡ length ws = size_length 0 ws t.next 0 s o h.1 h.2 in
    let f : has_leaf (below n s) key ≡ true =
    ap (λ y. has_leaf (below n y) key) (sym (tree_found t s o h)) ∙ e in
    let up : is_below (length ws) ws key n ≡ true =
    climbs-part (length ws) ws (below n s) (parent_of ws n) n key tb.0
    (omega (arith, sz, size_below n s)) tb.1 p f in
    let leaf : _ = leaf-node ws (below n s) (parent_of ws n) key tb.1 f in
    let kd : (window_kind ws key == 1) ≡ false = single ws key leaf.0 leaf.1 in
    or_right (key == 0) _ (rw (up, kd) refl)

pub may_key_holds : MayKeyHolds
may_key_holds = record {
  only = λ t n key v l h. key-case t n key (key == 0) refl v l h;
  found = λ t n key v l p k. (elim k as (λ _. may_key t.slots n key ≡ true) [
    | inl e ↦ or_left (key == 0) _ (eq-eqb key 0 e)
    | inr e ↦ (let x : _ = node_live t.slots n l in
        key-below t n key x.0 (some_tree t v) v.ordered x.1 p e)
  ]);
}
