-- Closing keeps the windows one tree.
use Rattle.std.proofs.Common.{◌≡◌, ℕ, zero, suc, ◌+◌, ◌<◌, ◌≤◌, List, [], ◌∷◌}
use Rattle.std.proofs.Common.{length, refl, sym, ap, ◌∙◌, subst, Option, Some, None, is_some}
use Rattle.std.proofs.Common.{option_map, arith, true, nat_lt, ◌==◌, if◌then◌else◌}
use Rattle.std.proofs.lemmas.Grind.{common_steps}
use Rattle.glk_windows.specs.declared.window.Window.{Window}
use Rattle.glk_windows.specs.declared.window.Pair as p
use Rattle.glk_windows.specs.declared.window.Content.{Content}
use Rattle.glk_windows.specs.declared.window.Content.TheVariants.{Pair}
use Rattle.glk_windows.specs.Tree.{WindowTree, window_number, stream_of}
use Rattle.glk_windows.specs.Tree.{pair_of, pair_content, parent_of}
use Rattle.glk_windows.specs.Closing.{windows_without, forgotten}
use Rattle.glk_windows.specs.Closing.{content_unkeyed, removed, both, close}
use Rattle.glk_numbers.specs.Numbered.{found, without}
use Rattle.glk_numbers.proofs.FoundLemmas.{found-low}
use Rattle.glk_windows.specs.Valid.{IsOrdered}
use Rattle.glk_windows.specs.OneTree.{Shape, Leaf, Fork, top, times_reached, pair_without_key}
use Rattle.glk_windows.specs.OneTree.{node_of, SpellsTree, Once, IsTree, tree_size}
use Rattle.glk_windows.proofs.OneTreeLemmas.{count_top, once_le, spells_top, node_none, node_parent}
use Rattle.glk_windows.proofs.OrderLemmas.{Ascends, ascends-behind, ascends-closed}
use Rattle.glk_windows.proofs.OrderLemmas.{ascends-removed}

content-unkeyed : (c : Content) (n : ℕ)
    → option_map pair_without_key (pair_content (content_unkeyed n c))
    ≡ option_map pair_without_key (pair_content c)
content-unkeyed (Pair p) n = grind (arith, common_steps)
content-unkeyed c n = refl

pub node_forgotten : (ws : List Window) (n s m : ℕ) → node_of (forgotten ws n s) m ≡ node_of ws m
node_forgotten [] n s m = refl
node_forgotten (w ∷ ws) n s m =
    let i : _ = content-unkeyed w.content n in
    let k : _ = node_forgotten ws n s m in
    grind (arith, common_steps)

pub node_lower : (a : ℕ) (ws : List Window) (z m : ℕ) → Ascends a ws z → m ≤ a → node_of ws m ≡ None
node_lower a ws z m o h = node_none ws m (found-low window_number ws a z m o.1 h)

pub node_without : (a : ℕ) (ws : List Window) (z n m : ℕ) → Ascends a ws z
    → node_of (without window_number ws n) m ≡ (if m == n then None else node_of ws m)
unfolding without
node_without a [] z n m o = grind (arith, common_steps)
node_without a (w ∷ ws) z n m o =
    let b = ascends-behind a w ws z o in
    let i : m ≤ w.number → node_of ws m ≡ None = node_lower w.number ws z m b in
    let k : _ = node_without w.number ws z n m b in
    grind (arith, common_steps)

pub node_closed : (a : ℕ) (ws : List Window) (z n m : ℕ) → Ascends a ws z
    → node_of (windows_without ws n) m ≡ (if m == n then None else node_of ws m)
node_closed a ws z n m o =
    node_forgotten (without window_number ws n) n (stream_of ws n) m ∙ node_without a ws z n m o

pub node_pair : (ws : List Window) (n : ℕ) (x : ℕ × Option p.Pair)
    → node_of ws n ≡ Some x
    → option_map pair_without_key (pair_of ws n) ≡ x.1
unfolding found
node_pair [] n x e = cc
node_pair (w ∷ ws) n x e = grind (arith, common_steps, node_pair ws n x)

pub none_of : (o : Option p.Pair) → option_map pair_without_key o ≡ None → o ≡ None
none_of None e = refl
none_of (Some p) e = cc

-- what is said of a tree's own windows is all that spells it
pub spells_on : (ws vs : List Window) (s : Shape) (up : ℕ)
    → ((m : ℕ) → 0 < times_reached s m → node_of vs m ≡ node_of ws m)
    → SpellsTree ws up s → SpellsTree vs up s
spells_on ws vs (Leaf n) up h t = h n (count_top (Leaf n)) ∙ t
spells_on ws vs (Fork n p a b) up h t = (
  h n (count_top (Fork n p a b)) ∙ t.0,
  t.1,
  t.2,
  spells_on ws vs a n (λ m k. h m (omega (arith, k))) t.3,
  spells_on ws vs b n (λ m k. h m (omega (arith, k))) t.4,
)

pub both_nodes : (o : Option p.Pair) (d : ℕ) (vs : List Window) (p : p.Pair)
    → option_map pair_without_key o ≡ Some p
    → both (removed d) vs o ≡ removed d (removed d vs p.first) p.second
both_nodes None d vs p e = cc
both_nodes (Some r) d vs p e =
    let i : pair_without_key r ≡ p = cc in
    ap (λ x. removed d (removed d vs x) r.second) (ap (λ y. y.first) i)
    ∙ ap (λ x. removed d (removed d vs p.first) x) (ap (λ y. y.second) i)

-- a window and all below it are gone, and nothing else
abbrev pub AreGone : Shape → List Window → List Window → Type 0
AreGone s ws vs =
    (m : ℕ) → node_of vs m ≡ (if nat_lt 0 (times_reached s m) then None else node_of ws m)

-- so it is where they are removed, and what holds where one goes, and of three steps holds of all
pub removed_from : (Q : Shape → List Window → List Window → Type 0) (a z : ℕ)
    → ((ws : List Window) (n : ℕ) → Ascends a ws z → Q (Leaf n) ws (windows_without ws n))
    → ((ws us vs ts : List Window) (n : ℕ) (p : p.Pair) (x y : Shape)
    → Q (Leaf n) ws us → Q x us vs → Q y vs ts → Q (Fork n p x y) ws ts)
    → (d : ℕ) (s : Shape) (ws : List Window) (up : ℕ)
    → tree_size s ≤ d → Ascends a ws z → SpellsTree ws up s
    → ((m : ℕ) → times_reached s m ≤ 1)
    → AreGone s ws (removed d ws (top s)) × Q s ws (removed d ws (top s))
unfolding removed
removed_from Q a z one all zero (Leaf n) ws up h o t c = absurd (omega (arith, h))
removed_from Q a z one all zero (Fork n p x y) ws up h o t c = absurd (omega (arith, h))
removed_from Q a z one all (suc d) (Leaf n) ws up h o t c =
    subst (λ v. AreGone (Leaf n) ws v × Q (Leaf n) ws v)
    (sym (ap (λ o. both (removed d) (windows_without ws n) o) (none_of _ (node_pair ws n _ t))))
    (λ m. node_closed a ws z n m o ∙ grind (arith, common_steps), one ws n o)
removed_from Q a z one all (suc d) (Fork n p x y) ws up h o t c =
    let w1 : List Window = windows_without ws n in
    let w2 : List Window = removed d w1 (top x) in
    let w3 : List Window = removed d w2 (top y) in
    let o1 : Ascends a w1 z = ascends-closed a ws z n o in
    let o2 : Ascends a w2 z = ascends-removed d a w1 z (top x) o1 in
    let cn : times_reached (Fork n p x y) n ≤ 1 = c n in
    let n1 : (k : ℕ) → node_of w1 k ≡ (if k == n then None else node_of ws k) =
    λ k. node_closed a ws z n k o in
    let t1 : SpellsTree w1 n x = spells_on ws w1 x n
    (λ k l. n1 k ∙ (let ck : _ = c k in grind (arith, common_steps))) t.3 in
    let k2 : AreGone x w1 w2 × Q x w1 w2 =
    removed_from Q a z one all d x w1 n (omega (arith, h)) o1 t1 (λ j. omega (arith, c j)) in
    let n2 : AreGone x w1 w2 = k2.0 in
    let t2 : SpellsTree w2 n y = spells_on ws w2 y n
    (λ k l. n2 k ∙ (let ck : _ = c k in let nk : _ = n1 k in grind (arith, common_steps))) t.4 in
    let k3 : AreGone y w2 w3 × Q y w2 w3 =
    removed_from Q a z one all d y w2 n (omega (arith, h)) o2 t2 (λ j. omega (arith, c j)) in
    subst (λ v. AreGone (Fork n p x y) ws v × Q (Fork n p x y) ws v)
    (sym (both_nodes (pair_of ws n) d w1 p (node_pair ws n _ t.0)
    ∙ ap (λ j. removed d (removed d w1 j) p.second) t.1 ∙ ap (λ j. removed d w2 j) t.2)) (
      λ m. (let i1 : _ = n1 m in let i2 : _ = n2 m in k3.0 m ∙ grind (arith, common_steps)),
      all ws w1 w2 w3 n p x y (one ws n o) k2.1 k3.1,
    )

pub node_removed : (d : ℕ) (s : Shape) (ws : List Window) (up a z : ℕ)
    → tree_size s ≤ d → Ascends a ws z → SpellsTree ws up s
    → ((m : ℕ) → times_reached s m ≤ 1) → (m : ℕ)
    → node_of (removed d ws (top s)) m
    ≡ (if nat_lt 0 (times_reached s m) then None else node_of ws m)
node_removed d s ws up a z h o t c =
    (removed_from (λ s ws vs. Unit {0}) a z (λ ws n o. tt) (λ ws us vs ts n p x y f g h. tt)
    d s ws up h o t c).0

abbrev pub tally : List Window → Shape → ℕ
tally [] s = 0
tally (w ∷ ws) s = times_reached s w.number + tally ws s

pub tally_leaf : (a : ℕ) (ws : List Window) (z n : ℕ) → Ascends a ws z
    → tally ws (Leaf n) ≡ (if is_some (node_of ws n) then 1 else 0)
tally_leaf a [] z n o = refl
tally_leaf a (w ∷ ws) z n o =
    let b = ascends-behind a w ws z o in
    let i : n ≤ w.number → node_of ws n ≡ None = node_lower w.number ws z n b in
    let k : _ = tally_leaf w.number ws z n b in
    grind (arith, common_steps)

pub tally_fork : (ws : List Window) (n : ℕ) (p : p.Pair) (a b : Shape)
    → tally ws (Fork n p a b) ≡ tally ws (Leaf n) + tally ws a + tally ws b
tally_fork [] n p a b = refl
tally_fork (w ∷ ws) n p a b = omega (arith, tally_fork ws n p a b)

pub tally_size : (a : ℕ) (ws : List Window) (z up : ℕ) (s : Shape)
    → Ascends a ws z → SpellsTree ws up s
    → tally ws s ≡ tree_size s
tally_size a ws z up (Leaf n) o t = tally_leaf a ws z n o ∙ ap (λ x. if is_some x then 1 else 0) t
tally_size a ws z up (Fork n p x y) o t =
    let l : tally ws (Leaf n) ≡ 1 =
    tally_leaf a ws z n o ∙ ap (λ x. if is_some x then 1 else 0) t.0 in
    let f : _ = tally_fork ws n p x y in
    omega (arith, l, f, tally_size a ws z n x o t.3, tally_size a ws z n y o t.4)

pub tally_each : (vs : List Window) (s : Shape)
    → ((m : ℕ) → is_some (node_of vs m) ≡ true → times_reached s m ≡ 1)
    → tally vs s ≡ length vs
tally_each [] s h = refl
tally_each (w ∷ vs) s h =
    let i : times_reached s w.number ≡ 1 = h w.number (grind (arith, common_steps)) in
    let k : tally vs s ≡ length vs = tally_each vs s (λ m e. h m (grind (arith, common_steps))) in
    omega (arith, i, k)

pub once_of : (o : Option (ℕ × Option p.Pair)) (n : ℕ)
    → n ≡ (if is_some o then 1 else 0) → is_some o ≡ true
    → n ≡ 1
once_of None n h e = cc
once_of (Some x) n h e = h

-- the tree is as large as the list, so the depth of a recursion by its length is enough
pub size_length : (a : ℕ) (ws : List Window) (z up : ℕ) (s : Shape)
    → Ascends a ws z → SpellsTree ws up s → Once ws s
    → tree_size s ≡ length ws
size_length a ws z up s o t w =
    sym (tally_size a ws z up s o t) ∙ tally_each ws s (λ m e. once_of _ _ (w m) e)

pub nil_of : (ws : List Window) → ((m : ℕ) → node_of ws m ≡ None) → ws ≡ []
nil_of [] h = refl
nil_of (w ∷ ws) h = let i : _ = h w.number in grind (arith, common_steps)

gone : (o v : Option (ℕ × Option p.Pair)) (n : ℕ) → n ≡ (if is_some o then 1 else 0)
    → v ≡ (if nat_lt 0 n then None else o) → v ≡ None
gone None v n h e = grind (arith, common_steps)
gone (Some x) v n h e = grind (arith, common_steps)

closed-root : (t : WindowTree) (n : ℕ)
    → parent_of t.slots n ≡ 0
    → removed (length t.slots) t.slots n ≡ []
    → IsTree (close t n) None
closed-root t n l r = rw (l, r) (refl, refl)

-- closing the root leaves no window
pub tree_close-root : (t : WindowTree) (s : Shape)
    → IsOrdered t → IsTree t (Some s)
    → IsTree (close t t.root) None
unfolding IsOrdered
tree_close-root t s o h =
    let i : removed (length t.slots) t.slots (top s) ≡ [] = nil_of _ (λ m. gone _ _ _ (h.2 m)
    (node_removed (length t.slots) s t.slots 0 0 t.next
    (omega (arith, size_length 0 t.slots t.next 0 s o h.1 h.2)) o h.1
    (λ k. once_le _ _ (h.2 k)) m)) in
    let k : 0 ≡ parent_of t.slots (top s) =
    node_parent t.slots (top s) _ (spells_top t.slots s 0 h.1) in
    let e : t.root ≡ top s = h.0 in
    let l : parent_of t.slots t.root ≡ 0 = ap (parent_of t.slots) e ∙ sym k in
    let r : removed (length t.slots) t.slots t.root ≡ [] =
    ap (removed (length t.slots) t.slots) e ∙ i in
    closed-root t t.root l r
