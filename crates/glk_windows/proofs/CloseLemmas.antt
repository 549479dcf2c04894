-- Closing a window below the root keeps the windows one tree.
use Rattle.std.proofs.Common.{◌≡◌, ℕ, ◌+◌, ◌<◌, ◌≤◌, ◌≢◌, List, length, refl, sym}
use Rattle.std.proofs.Common.{ap, ◌∙◌, Option, Some, None, is_some, option_map, arith}
use Rattle.std.proofs.Common.{false, nat_lt, ◌==◌, if◌then◌else◌}
use Rattle.std.proofs.lemmas.Bool.{both_ways, cond_both, eqb-true}
use Rattle.std.proofs.lemmas.Grind.{common_steps}
use Rattle.glk_windows.specs.declared.window.Window.{Window}
use Rattle.glk_windows.specs.declared.window.Pair as p
use Rattle.glk_windows.specs.Tree.{WindowTree, pair_of, parent_of}
use Rattle.glk_windows.specs.Closing.{windows_without, removed, raised}
use Rattle.glk_windows.specs.Closing.{lifted, close, sibling_lifted}
use Rattle.glk_windows.specs.Reading.{other_window as sibling}
use Rattle.glk_windows.specs.Valid.{IsOrdered}
use Rattle.glk_windows.specs.OneTree.{Shape, Leaf, Fork, top, times_reached}
use Rattle.glk_windows.specs.OneTree.{pair_without_key, node_of, SpellsTree, IsTree}
use Rattle.glk_windows.specs.OneTree.{tree_size, below, tree_without, pair_above}
use Rattle.glk_windows.proofs.OneTreeLemmas.{node_relinked, once_at, once_le, node_parent}
use Rattle.glk_windows.proofs.CutLemmas.{node_lower, node_removed}
use Rattle.glk_windows.proofs.CutLemmas.{node_closed, node_pair, size_length}
use Rattle.glk_windows.proofs.LiftLemmas.{Cuts, count_below, count_cut, outside, relift, spells_cut}
use Rattle.glk_windows.proofs.LiftLemmas.{top_cut}
use Rattle.glk_windows.proofs.OrderLemmas.{Ascends, ascends-removed}

pub spells_below : (ws : List Window) (n : ℕ) (s : Shape) (up : ℕ)
    → SpellsTree ws up s → 0 < times_reached s n
    → (top (below n s) ≡ n) × SpellsTree ws (parent_of ws n) (below n s)
spells_below ws n (Leaf m) up t c =
    let i : m ≡ n = grind (arith, common_steps) in
    (i, t ∙ ap (λ u. Some (u, None)) (node_parent ws m _ t ∙ ap (parent_of ws) i))
spells_below ws n (Fork m p a b) up t c =
    cond_both (m == n) _ _ (λ s. (top s ≡ n) × SpellsTree ws (parent_of ws n) s)
    (λ e. (let i : up ≡ parent_of ws n =
    node_parent ws m _ t.0 ∙ ap (parent_of ws) (eqb-true m n e) in
    (eqb-true m n e, (t.0 ∙ ap (λ u. Some (u, Some p)) i, t.1, t.2, t.3, t.4))))
    (λ e. cond_both (nat_lt 0 (times_reached a n)) _ _
    (λ s. (top s ≡ n) × SpellsTree ws (parent_of ws n) s)
    (λ f. spells_below ws n a m t.3 (grind (arith, common_steps)))
    (λ f. spells_below ws n b m t.4 (grind (arith, common_steps))))

pub size_below : (n : ℕ) (s : Shape) → tree_size (below n s) ≤ tree_size s
size_below n (Leaf m) = omega arith
size_below n (Fork m p a b) =
    let i : _ = size_below n a in
    let j : _ = size_below n b in
    grind (arith, common_steps)

-- a window and all below it are gone, and nothing else
pub node_rest : (t : WindowTree) (s : Shape) (n : ℕ) (x : ℕ × Option p.Pair) → IsOrdered t
    → IsTree t (Some s) → node_of t.slots n ≡ Some x → (m : ℕ)
    → node_of (removed (length t.slots) t.slots n) m
    ≡ (if nat_lt 0 (times_reached (below n s) m) then None else node_of t.slots m)
unfolding IsOrdered
node_rest t s n x o h live m =
    let ws : List Window = t.slots in
    let c0 : 0 < times_reached s n = omega (arith, once_at _ _ x live (h.2 n)) in
    let sb : (top (below n s) ≡ n) × SpellsTree ws (parent_of ws n) (below n s) =
    spells_below ws n s 0 h.1 c0 in
    let sz : tree_size s ≡ length ws = size_length 0 ws t.next 0 s o h.1 h.2 in
    ap (λ j. node_of (removed (length ws) ws j) m) (sym sb.0)
    ∙ node_removed (length ws) (below n s) ws (parent_of ws n) 0 t.next
    (omega (arith, size_below n s, sz)) o sb.1
    (λ k. omega (arith, count_below n s k, once_le _ _ (h.2 k))) m

-- the pair above it is there yet
pub pair_rest : (t : WindowTree) (s : Shape) (n : ℕ) (x : ℕ × Option p.Pair) → IsOrdered t
    → IsTree t (Some s) → node_of t.slots n ≡ Some x → top s ≢ n
    → node_of (removed (length t.slots) t.slots n) (parent_of t.slots n)
    ≡ Some (parent_of t.slots (parent_of t.slots n), Some (pair_above n s))
pair_rest t s n x o h live hn =
    let out : _ = outside t.slots n s 0 h.1 (λ m. once_le _ _ (h.2 m)) hn
    (omega (arith, once_at _ _ x live (h.2 n))) in
    let o0 : times_reached (below n s) (parent_of t.slots n) ≡ 0 = out.0 in
    let o1 : _ = out.1 in
    let nq : _ = node_rest t s n x o h live (parent_of t.slots n) in
    grind (arith, common_steps)

-- what a list says after the lifting
node-raised : (ws : List Window) (z pair other above m : ℕ) → Ascends 0 ws z
    → node_of (raised ws pair other above) m
    ≡ option_map (relift pair other above m) (if m == pair then None else node_of ws m)
node-raised ws z pair other above m o =
    node_relinked (windows_without ws pair) other above above pair other m
    ∙ ap (option_map (relift pair other above m)) (node_closed 0 ws z pair m o)

lift-of : (o : Option p.Pair) (r : p.Pair)
    → option_map pair_without_key o ≡ Some r
    → (t : WindowTree) (pair n : ℕ)
    → sibling_lifted t pair o n ≡ lifted t pair (sibling r n)
lift-of None r e t pair n = cc
lift-of (Some q) r e t pair n =
    (let i : pair_without_key q ≡ r = cc in ap (λ y. lifted t pair (sibling y n)) i)

pair-is : (x y : ℕ × Option p.Pair) (q r : p.Pair)
    → Some x ≡ Some y → x.1 ≡ Some q → y.1 ≡ Some r → q ≡ r
pair-is x y q r e f g = cc

once-lift : (o v : Option (ℕ × Option p.Pair)) (f : ℕ × Option p.Pair → ℕ × Option p.Pair)
    (m pair c b : ℕ)
    → c + b + (if pair == m then 1 else 0) ≡ (if is_some o then 1 else 0)
    → v ≡ option_map f (if m == pair then None else (if nat_lt 0 b then None else o))
    → c ≡ (if is_some v then 1 else 0)
once-lift None v f m pair c b h e = grind (arith, common_steps)
once-lift (Some y) v f m pair c b h e = grind (arith, common_steps)

-- closing a window below the root keeps the windows one tree
pub tree_close : (t : WindowTree) (s : Shape) (n : ℕ) (x : ℕ × Option p.Pair)
    → IsOrdered t → IsTree t (Some s)
    → node_of t.slots n ≡ Some x → top s ≢ n → IsTree (close t n) (Some (tree_without n s))
unfolding IsOrdered
tree_close t s n x o h live hn =
    let ws : List Window = t.slots in
    let d : ℕ = length ws in
    let w2 : List Window = removed d ws n in
    let pair : ℕ = parent_of ws n in
    let above : ℕ = parent_of w2 pair in
    let sub : Shape = below n s in
    let other : ℕ = sibling (pair_above n s) n in
    let vs : List Window = raised w2 pair other above in
    let c1 : times_reached s n ≡ 1 = once_at _ _ x live (h.2 n) in
    let c0 : 0 < times_reached s n = omega (arith, c1) in
    let dd : (m : ℕ) → times_reached s m ≤ 1 = λ m. once_le _ _ (h.2 m) in
    let n2 : (m : ℕ)
    → node_of w2 m ≡ (if nat_lt 0 (times_reached sub m) then None else node_of ws m) =
    node_rest t s n x o h live in
    let out : (times_reached sub pair ≡ 0)
    × (node_of ws pair ≡ Some (parent_of ws pair, Some (pair_above n s)))
    × (0 < times_reached s pair) =
    outside ws n s 0 h.1 dd hn c0 in
    let o1 : node_of ws pair ≡ Some (parent_of ws pair, Some (pair_above n s)) = out.1 in
    let np2 : node_of w2 pair ≡ Some (parent_of ws pair, Some (pair_above n s)) =
    pair_rest t s n x o h live hn in
    let ab : parent_of ws pair ≡ above = node_parent w2 pair _ np2 in
    let o2 : Ascends 0 w2 t.next = ascends-removed d 0 ws t.next n o in
    let nv : (m : ℕ)
    → node_of vs m
    ≡ option_map (relift pair other above m) (if m == pair then None else node_of w2 m) =
    λ m. node-raised w2 t.next pair other above m o2 in
    let k : Cuts ws vs n sub pair other above = record {
      kept = λ m y e a b. (let z : _ = n2 m in
          let v : (if m == pair then None else node_of w2 m) ≡ Some y =
          grind (arith, common_steps) in
          nv m ∙ ap (option_map (relift pair other above m)) v);
      under = λ m y e l. node_parent ws m y l ∙ ap (parent_of ws) e;
      over = λ m y e l. node_parent ws m y l ∙ ap (parent_of ws) e ∙ ab;
      beside =
          λ m u q e l. ap (λ y.
          sibling y n) (sym (pair-is (u, Some q) (parent_of ws pair, Some (pair_above n s)) q
          (pair_above n s) (sym l ∙ ap (node_of ws) e ∙ o1) refl refl));
    } in
    let lo : pair ≤ 0 → node_of ws pair ≡ None = node_lower 0 ws t.next pair o in
    let pz : (pair == 0) ≡ false = grind (arith, common_steps) in
    let e0 : t.root ≡ top s = h.0 in
    let tc : top (tree_without n s) ≡ (if top s == pair then other else top s) =
    top_cut ws vs n sub pair other above k s 0 h.1 dd hn c0 in
    cond_both (pair == 0) (record t { slots = w2; root = 0 })
    (sibling_lifted (record t { slots = w2 }) pair (pair_of w2 pair) n)
    (λ u. IsTree u (Some (tree_without n s))) (λ e. absurd (both_ways _ pz e))
    (λ e. rw (lift-of (pair_of w2 pair) (pair_above n s) (node_pair w2 pair _ np2)
    (record t { slots = w2 }) pair n) (
      grind (arith, common_steps),
      spells_cut ws vs n sub pair other above k s 0 h.1 dd hn c0 (λ j. refl),
      λ m. once-lift (node_of ws m) (node_of vs m) (relift pair other above m) m pair _
          (times_reached sub m)
          (count_cut ws vs n sub pair other above k s 0 h.1 dd hn c0 m ∙ h.2 m)
          (nv m
          ∙ ap (λ y. option_map (relift pair other above m) (if m == pair then None else y))
          (n2 m)),
    ))
