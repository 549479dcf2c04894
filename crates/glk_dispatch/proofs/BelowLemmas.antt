-- A window that is closed with all below it: their streams end with them.
use Rattle.std.proofs.Common.{◌≡◌, ◌≢◌, ℕ, zero, suc, ◌==◌, nat_lt, Bool, true, false, List, []}
use Rattle.std.proofs.Common.{◌∷◌, length, subst, refl, sym, ap, ◌∙◌, arith, Option, Some, None}
use Rattle.std.proofs.Common.{option_map, if◌then◌else◌, ◌≤◌, ◌<◌}
use Rattle.std.proofs.lemmas.Bool.{cond_both}
use Rattle.std.proofs.lemmas.Grind.{common_steps}
use Rattle.glk_numbers.specs.Numbered.{ascends, found}
use Rattle.glk_windows.specs.Tree as tree
use Rattle.glk_windows.specs.Closing.{both, close, windows_without, sibling_lifted, raised, removed}
use Rattle.glk_windows.specs.declared.window.Content.{Content}
use Rattle.glk_windows.specs.declared.window.Content.TheVariants.{Pair}
use Rattle.glk_windows.specs.Reading as reading
use Rattle.glk_windows.specs.Valid.{IsOrdered}
use Rattle.glk_windows.specs.OneTree.{Shape, Leaf, Fork, IsTree, top}
use Rattle.glk_windows.specs.OneTree.{times_reached, pair_without_key, below}
use Rattle.glk_windows.specs.OneTree.{pair_above, node_of, SpellsTree, tree_size}
use Rattle.glk_windows.specs.declared.window.Pair as p
use Rattle.glk_windows.specs.declared.window.Window.{Window}
use Rattle.glk_windows.proofs.CutLemmas.{both_nodes, node_closed, node_lower, node_pair, none_of}
use Rattle.glk_windows.proofs.CutLemmas.{node_removed, size_length, spells_on}
use Rattle.glk_windows.proofs.LiftLemmas.{count_below, outside}
use Rattle.glk_windows.proofs.CloseLemmas.{size_below, spells_below}
use Rattle.glk_windows.proofs.OneTreeLemmas.{count_top, once_at, once_le, spells_top}
use Rattle.glk_windows.proofs.OrderLemmas.{Ascends, ascends-closed, ascends-removed}
use Rattle.glk_numbers.proofs.OrderLemmas.{ascends-without}
use Rattle.glk_streams.specs.Streams as streams
use Rattle.glk_dispatch.specs.Windows as rows
use Rattle.glk_dispatch.specs.declared.glk.Glk.{Glk}
use Rattle.glk_dispatch.specs.Links.{AreLinked, window_link, live_stream}
use Rattle.glk_numbers.proofs.FoundLemmas.{part-changed}
use Rattle.glk_dispatch.proofs.AskLemmas.{AskedBy, asked-less, asked-same}
use Rattle.glk_dispatch.proofs.LinkLemmas.{linked-same, unechoed}
use Rattle.glk_dispatch.proofs.CloseLemmas.{ends_in, linked-less, links-less, links_in}

-- what dropping one window keeps
pub all_dropped-same : {A : Type 0} (of : Glk → A)
    → ((h : Glk) (n : ℕ) → of (rows.window_dropped h n) ≡ of h)
    → (depth : ℕ) (g : Glk) (win : ℕ) → of (rows.all_dropped depth g win) ≡ of g
unfolding rows.all_dropped
all_dropped-same of k zero g win = refl
all_dropped-same of k (suc depth) g win =
    let h = rows.window_dropped g win in
    let q = reading.children_of g.windows.slots win in
    cond_both (q.0 == 0) h (rows.all_dropped depth (rows.all_dropped depth h q.0) q.1)
    (λ x. of x ≡ of g) (λ e. k g win)
    (λ e. all_dropped-same of k depth (rows.all_dropped depth h q.0) q.1
    ∙ all_dropped-same of k depth h q.0 ∙ k g win)

pub all_dropped-windows : (depth : ℕ) (g : Glk) (win : ℕ)
    → (rows.all_dropped depth g win).windows ≡ g.windows
all_dropped-windows depth g win = all_dropped-same (λ h. h.windows) (λ h n. refl) depth g win

live-node : (ws : List Window) (n : ℕ) (x : ℕ × Option p.Pair) → node_of ws n ≡ Some x
    → live_stream (links_in ws n) ≡ Some (tree.stream_of ws n)
unfolding found
live-node [] n x e = cc
live-node (w ∷ ws) n x e = grind (arith, common_steps, live-node ws n x)

children-bare : (o : Option p.Pair) (q : p.Pair) → option_map pair_without_key o ≡ Some q
    → reading.children_in o ≡ (q.first, q.second)
children-bare None q e = cc
children-bare (Some r) q e =
    let i : pair_without_key r ≡ q = cc in
    ap (λ (x : p.Pair). (x.first, x.second)) i

both_children : (o : Option p.Pair) (depth : ℕ) (h : Glk) (q : p.Pair)
    → option_map pair_without_key o ≡ Some q
    → (q.first == 0) ≡ false
    → rows.both_dropped (rows.all_dropped depth) h (reading.children_in o)
    ≡ rows.all_dropped depth (rows.all_dropped depth h q.first) q.second
both_children o depth h q e z =
    ap (rows.both_dropped (rows.all_dropped depth) h) (children-bare o q e)
    ∙ ap (λ b. if b then h else rows.all_dropped depth (rows.all_dropped depth h q.first) q.second)
    z

not-zero : (ws : List Window) (z n : ℕ) (x : ℕ × Option p.Pair) → Ascends 0 ws z → node_of ws n
    ≡ Some x → (n == 0) ≡ false
not-zero ws z zero x o e = (let c : None ≡ Some x = sym (node_lower 0 ws z 0 o (omega arith))
    ∙ e in cc)
not-zero ws z (suc n) x o e = grind (arith, common_steps)

-- what is left: streams in order, and windows and streams that name each other
pub record AreLeft (ws : List Window) (g : Glk) : Type 0 where
  pub order : ascends streams.stream_number 0 g.streams.next g.streams.streams ≡ true
  pub linked : AreLinked (links_in ws) (ends_in g.streams)
  pub asked : AskedBy (links_in ws) g.requests

one-less : (ws : List Window) (g : Glk) (z n : ℕ) (x : ℕ × Option p.Pair) → Ascends 0 ws z
    → node_of ws n ≡ Some x → AreLeft ws g
    → AreLeft (windows_without ws n) (rows.window_dropped g n)
one-less ws g z n x o e v = record {
  order = ascends-without streams.stream_number g.streams.streams 0 g.streams.next
      (streams.stream_of_window g.streams.streams n) v.order;
  linked = linked-less ws g.streams z n (tree.stream_of ws n) o v.order (live-node ws n x e)
      v.linked;
  asked = asked-less (links_in ws) (links_in (windows_without ws n)) g.requests n
      (unechoed (λ j. j == tree.stream_of ws n)) (λ l. refl) (links-less ws z n o) v.asked;
}

pub removed-left : (d : ℕ) (s : Shape) (ws : List Window) (g : Glk) (up z : ℕ) → tree_size s ≤ d
    → Ascends 0 ws z → SpellsTree ws up s
    → ((m : ℕ) → times_reached s m ≤ 1)
    → ((m : ℕ) → 0 < times_reached s m → node_of g.windows.slots m
    ≡ node_of ws m)
    → AreLeft ws g → AreLeft (removed d ws (top s)) (rows.all_dropped d g (top s))
unfolding removed rows.all_dropped
removed-left zero (Leaf n) ws g up z h o t c same v = absurd (omega (arith, h))
removed-left zero (Fork n q x y) ws g up z h o t c same v = absurd (omega (arith, h))
removed-left (suc d) (Leaf n) ws g up z h o t c same v =
    let none : tree.pair_of ws n ≡ None = none_of _ (node_pair ws n _ t) in
    let none_before : tree.pair_of g.windows.slots n
    ≡ None = none_of _ (node_pair g.windows.slots n _ (same n (count_top (Leaf n)) ∙ t)) in
    rw (none, none_before) (one-less ws g z n _ o t v)
removed-left (suc d) (Fork n q x y) ws g up z h o t c same v =
    let w1 : List Window = windows_without ws n in
    let w2 : List Window = removed d w1 (top x) in
    let g1 : Glk = rows.window_dropped g n in
    let g2 : Glk = rows.all_dropped d g1 (top x) in
    let o1 : Ascends 0 w1 z = ascends-closed 0 ws z n o in
    let o2 : Ascends 0 w2 z = ascends-removed d 0 w1 z (top x) o1 in
    let cn : times_reached (Fork n q x y) n ≤ 1 = c n in
    let n1 : (k : ℕ) → node_of w1 k ≡ (if k == n then None else node_of ws k) = λ k. node_closed 0
    ws z n k o in
    let s1 : (k : ℕ) → 0 < times_reached x k → node_of w1 k ≡ node_of ws k = λ k l. n1 k
    ∙ (let ck : _ = c k in grind (arith, common_steps)) in
    let t1 : SpellsTree w1 n x = spells_on ws w1 x n s1 t.3 in
    let n2 : (k : ℕ)
    → node_of w2 k ≡ (if nat_lt 0 (times_reached x k) then None else node_of w1 k) =
    λ k. node_removed d x w1 n 0 z (omega (arith, h)) o1 t1 (λ j. omega (arith, c j)) k in
    let s2 : (k : ℕ) → 0 < times_reached y k → node_of w2 k ≡ node_of ws k = λ k l. n2 k
    ∙ (let ck : _ = c k in let nk : _ = n1 k in grind (arith, common_steps)) in
    let t2 : SpellsTree w2 n y = spells_on ws w2 y n s2 t.4 in
    let v1 : AreLeft w1 g1 = one-less ws g z n _ o t.0 v in
    let v2 : AreLeft w2 g2 = removed-left d x w1 g1 n z (omega (arith, h)) o1 t1
    (λ j. omega (arith, c j))
    (λ m l. same m (omega (arith, l)) ∙ sym (s1 m l)) v1 in
    let v3 : AreLeft (removed d w2 (top y)) (rows.all_dropped d g2 (top y)) = removed-left d y w2 g2
    n z (omega (arith, h)) o2 t2 (λ j. omega (arith, c j))
    (λ m l. ap (λ (u : tree.WindowTree). node_of u.slots m) (all_dropped-windows d g1 (top x))
    ∙ same m (omega (arith, l)) ∙ sym (s2 m l)) v2 in
    let windows_are : both (removed d) w1 (tree.pair_of ws n) ≡ removed d w2 (top y) =
    both_nodes (tree.pair_of ws n) d w1 q (node_pair ws n _ t.0)
    ∙ ap (λ j. removed d (removed d w1 j) q.second) t.1 ∙ ap (λ j. removed d w2 j) t.2 in
    let first_there : (q.first == 0) ≡ false = ap (λ j. j == 0) t.1
    ∙ not-zero ws z (top x) _ o (spells_top ws x n t.3) in
    let state_is : rows.both_dropped (rows.all_dropped d) g1 (reading.children_of g.windows.slots n)
    ≡ rows.all_dropped d g2 (top y) =
    both_children (tree.pair_of g.windows.slots n) d g1 q
    (node_pair g.windows.slots n _ (same n (count_top (Fork n q x y)) ∙ t.0)) first_there
    ∙ ap (λ j. rows.all_dropped d (rows.all_dropped d g1 j) q.second) t.1
    ∙ ap (λ j. rows.all_dropped d g2 j) t.2 in
    rw (windows_are, state_is) v3

-- ---- the pair above it ends too, and its sibling takes the pair's place

pub kind-swapped : (c : Content) (old new : ℕ) → reading.kind_in (tree.swapped c old new)
    ≡ reading.kind_in c
kind-swapped (Pair q) old new = refl
kind-swapped c old new = refl

raised-links : (ws : List Window) (pair sibling above m : ℕ)
    → links_in (raised ws pair sibling above) m ≡ links_in (windows_without ws pair) m
raised-links ws pair sibling above m =
    part-changed tree.window_number window_link (λ w. record w { parent = above })
    (λ w. refl) (λ w. refl)
    (tree.set_at (λ w. record w { content = tree.swapped w.content pair sibling })
    (windows_without ws pair)
    above) sibling m
    ∙ part-changed tree.window_number window_link (λ w. record w
    { content = tree.swapped w.content pair sibling }) (λ w. refl)
    (λ w. ap (λ k. record { stream = w.stream; echo = w.echo; kind = k })
    (kind-swapped w.content pair sibling)) (windows_without ws pair) above m

pub raised-left : (ws : List Window) (g : Glk) (z pair sibling above : ℕ) (x : ℕ × Option p.Pair)
    → Ascends 0 ws z → node_of ws pair ≡ Some x
    → AreLeft ws g → AreLeft (raised ws pair sibling above) (rows.window_dropped g pair)
raised-left ws g z pair sibling above x o e v =
    let less = one-less ws g z pair x o e v in
    record {
      order = less.order;
      linked =
          linked-same (links_in (windows_without ws pair))
          (ends_in (rows.window_dropped g pair).streams)
          (links_in (raised ws pair sibling above)) (ends_in (rows.window_dropped g pair).streams)
          (record { windows = raised-links ws pair sibling above; streams = λ m. refl })
          less.linked;
      asked =
          asked-same (links_in (windows_without ws pair)) (links_in (raised ws pair sibling above))
          (rows.window_dropped g pair).requests (raised-links ws pair sibling above) less.asked;
    }

ended-left : (t : tree.WindowTree) (pair n : ℕ) (o : Option p.Pair) (r : p.Pair) (u : Glk)
    → option_map pair_without_key o ≡ Some r
    → ((sibling : ℕ) → AreLeft (raised t.slots pair sibling (tree.parent_of t.slots pair)) u)
    → AreLeft (sibling_lifted t pair o n).slots u
ended-left t pair n None r u e h = cc
ended-left t pair n (Some q) r u e h = h (reading.other_window q n)

left-false : (b : Bool) (x y : tree.WindowTree) (u : Glk) → b ≡ false → AreLeft y.slots u
    → AreLeft (if b then x else y).slots u
left-false true x y u e h = absurd cc
left-false false x y u e h = h

-- closing a window below the root: what stays is linked
pub closed-left : (g : Glk) (s : Shape) (n : ℕ) (x : ℕ × Option p.Pair) → IsOrdered g.windows
    → IsTree g.windows (Some s)
    → node_of g.windows.slots n ≡ Some x → top s ≢ n → AreLeft g.windows.slots g
    → AreLeft (close g.windows n).slots (rows.closed_dropped g n)
unfolding IsOrdered
closed-left g s n x o h live hn v =
    let ws : List Window = g.windows.slots in
    let d : ℕ = length ws in
    let w2 : List Window = removed d ws n in
    let pair : ℕ = tree.parent_of ws n in
    let sub : Shape = below n s in
    let c1 : times_reached s n ≡ 1 = once_at _ _ x live (h.2 n) in
    let c0 : 0 < times_reached s n = omega (arith, c1) in
    let dd : (m : ℕ) → times_reached s m ≤ 1 = λ m. once_le _ _ (h.2 m) in
    let sb : (top sub ≡ n) × SpellsTree ws pair sub = spells_below ws n s 0 h.1 c0 in
    let sz : tree_size s ≡ d = size_length 0 ws g.windows.next 0 s o h.1 h.2 in
    let n2 : (m : ℕ)
    → node_of w2 m ≡ (if nat_lt 0 (times_reached sub m) then None else node_of ws m) =
    λ m. ap (λ j. node_of (removed d ws j) m) (sym sb.0)
    ∙ node_removed d sub ws pair 0 g.windows.next (omega (arith, size_below n s, sz)) o sb.1
    (λ k. omega (arith, count_below n s k, dd k)) m in
    let out : (times_reached sub pair ≡ 0) × (node_of ws pair
    ≡ Some (tree.parent_of ws pair, Some (pair_above n s))) × (0 < times_reached s pair) =
    outside ws n s 0 h.1 dd hn c0 in
    let o0 : times_reached sub pair ≡ 0 = out.0 in
    let o1 : node_of ws pair ≡ Some (tree.parent_of ws pair, Some (pair_above n s)) = out.1 in
    let nq : _ = n2 pair in
    let np2 : node_of w2 pair ≡ Some (tree.parent_of ws pair, Some (pair_above n s)) = grind
    (arith, common_steps) in
    let o2 : Ascends 0 w2 g.windows.next = ascends-removed d 0 ws g.windows.next n o in
    let all : AreLeft (removed d ws (top sub)) (rows.all_dropped d g (top sub)) =
    removed-left d sub ws g pair g.windows.next (omega (arith, size_below n s, sz)) o sb.1
    (λ k. omega (arith, count_below n s k, dd k)) (λ m l. refl) v in
    let all_n : AreLeft w2 (rows.all_dropped d g n) =
    subst (λ j. AreLeft (removed d ws j) (rows.all_dropped d g j)) sb.0 all in
    left-false (pair == 0) (record g.windows { slots = w2; root = 0 })
    (sibling_lifted (record g.windows { slots = w2 }) pair (tree.pair_of w2 pair) n)
    (rows.closed_dropped g n) (not-zero ws g.windows.next pair _ o o1)
    (ended-left (record g.windows { slots = w2 }) pair n (tree.pair_of w2 pair) (pair_above n s)
    (rows.closed_dropped g n) (node_pair w2 pair _ np2)
    (λ sibling. raised-left w2 (rows.all_dropped d g n) g.windows.next pair sibling
    (tree.parent_of w2 pair) _ o2 np2 all_n))
