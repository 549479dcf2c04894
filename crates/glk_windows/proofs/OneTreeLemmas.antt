-- Calls keep the windows one tree.
use Rattle.std.proofs.Common.{◌≡◌, ℕ, ◌+◌, ◌<◌, ◌≤◌, ◌≢◌, List, [], ◌∷◌, ◌++◌, refl}
use Rattle.std.proofs.Common.{sym, ap, ◌∙◌, Option, Some, None, is_some, option_map, arith, Bool}
use Rattle.std.proofs.Common.{true, false, ◌==◌, if◌then◌else◌}
use Rattle.std.proofs.lemmas.Bool.{cond_both, eqb-false, eqb-true}
use Rattle.std.proofs.lemmas.Grind.{common_steps}
use Rattle.glk_windows.specs.declared.window.Window.{Window}
use Rattle.glk_windows.specs.declared.window.Pair as p
use Rattle.glk_numbers.specs.Numbered.{changed_at, found}
use Rattle.glk_numbers.proofs.FoundLemmas.{found-high}
use Rattle.glk_windows.specs.Tree.{set_at, pair_swapped, swapped, parent_of, pair_content}
use Rattle.glk_windows.specs.Tree.{window_at, window_number}
use Rattle.glk_windows.specs.Opening.{pair_joined}
use Rattle.glk_windows.specs.OneTree.{Shape, Leaf, Fork, top, kids, times_reached, pair_without_key}
use Rattle.glk_windows.specs.OneTree.{bare_in, node_of, SpellsTree, tree_forked}
use Rattle.glk_windows.specs.declared.window.Content.{Content}
use Rattle.glk_windows.specs.declared.window.Content.TheVariants.{Pair}
use Rattle.glk_windows.proofs.OrderLemmas.{Ascends}

pub top_forked : (from pair new : ℕ) (p : p.Pair) (s : Shape)
    → top (tree_forked from pair p new s) ≡ (if top s == from then pair else top s)
top_forked from pair new p (Leaf n) = grind (arith, common_steps)
top_forked from pair new p (Fork n q a b) = grind (arith, common_steps)

pub count_top : (s : Shape) → 0 < times_reached s (top s)
count_top (Leaf n) = grind (arith, common_steps)
count_top (Fork n q a b) = grind (arith, common_steps)

count_forked-none : (from pair new : ℕ) (p : p.Pair) (s : Shape) (m : ℕ)
    → times_reached s from ≡ 0
    → times_reached (tree_forked from pair p new s) m ≡ times_reached s m
count_forked-none from pair new p (Leaf n) m h = grind (arith, common_steps)
count_forked-none from pair new p (Fork n q a b) m h =
    grind (
      arith,
      common_steps,
      count_forked-none from pair new p a m,
      count_forked-none from pair new p b m,
    )

-- one pair and one window more
pub count_forked : (from pair new : ℕ) (p : p.Pair) (s : Shape) (m : ℕ) → times_reached s from ≡ 1
    → times_reached (tree_forked from pair p new s) m
    ≡ times_reached s m + (if pair == m then 1 else 0) + (if new == m then 1 else 0)
count_forked from pair new p (Leaf n) m h = grind (arith, common_steps)
count_forked from pair new p (Fork n q a b) m h =
    grind (
      arith,
      common_steps,
      count_forked from pair new p a m,
      count_forked from pair new p b m,
      count_forked-none from pair new p a m,
      count_forked-none from pair new p b m,
    )

-- the parent and pair of a window where a window gets another parent, and a pair has a new window
-- in the place of an old one
abbrev pub relinked : ℕ → ℕ → ℕ → ℕ → ℕ → ℕ → ℕ × Option p.Pair → ℕ × Option p.Pair
relinked n up at old new m (u, None) = (if m == n then up else u, None)
relinked n up at old new m (u, Some p) =
    (if m == n then up else u, Some (if m == at then pair_swapped p old new else p))

pub relinked_same : (n up at old new m u : ℕ) (p : p.Pair) → m ≢ n → p.first ≢ old
    → p.second ≢ old → relinked n up at old new m (u, Some p) ≡ (u, Some p)
relinked_same n up at old new m u p h f g = grind (arith, common_steps)

pub relinked_top : (n up at old new m u : ℕ) (p : p.Pair) → m ≡ n → p.first ≢ old
    → p.second ≢ old → relinked n up at old new m (u, Some p) ≡ (up, Some p)
relinked_top n up at old new m u p h f g = grind (arith, common_steps)

-- the same where another window got a pair above it
abbrev pub renode : ℕ → ℕ → ℕ → ℕ → ℕ × Option p.Pair → ℕ × Option p.Pair
renode from pair q m = relinked from pair q from pair m

-- a part of the tree without the window is spelled as before
spells_apart : (ws vs : List Window) (from pair q : ℕ)
    (h : (m : ℕ) (x : ℕ × Option p.Pair)
    → node_of ws m ≡ Some x
    → node_of vs m ≡ Some (renode from pair q m x))
    → (s : Shape) (up : ℕ) → times_reached s from ≡ 0 → SpellsTree ws up s → SpellsTree vs up s
spells_apart ws vs from pair q h (Leaf n) up c t =
    h n _ t ∙ ap Some (grind (arith, common_steps))
spells_apart ws vs from pair q h (Fork n p a b) up c t =
    let ca : times_reached a from ≡ 0 = omega arith in
    let cb : times_reached b from ≡ 0 = omega arith in
    let ta : 0 < times_reached a (top a) = count_top a in
    let tb : 0 < times_reached b (top b) = count_top b in (
      h n _ t.0 ∙ ap Some (relinked_same from pair q from pair n up p (grind (arith, common_steps))
          (λ e. grind (arith, common_steps)) (λ e. grind (arith, common_steps))),
      t.1,
      t.2,
      spells_apart ws vs from pair q h a n ca t.3,
      spells_apart ws vs from pair q h b n cb t.4,
    )

pub spells_top : (ws : List Window) (s : Shape) (up : ℕ)
    → SpellsTree ws up s
    → node_of ws (top s) ≡ Some (up, kids s)
spells_top ws (Leaf n) up t = t
spells_top ws (Fork n p a b) up t = t.0

renode-swap : (from pair q m u : ℕ) (p : p.Pair)
    → m ≢ from → (p.first ≡ from → m ≡ q)
    → (p.second ≡ from → m ≡ q)
    → renode from pair q m (u, Some p) ≡ (u, Some (pair_swapped p from pair))
renode-swap from pair q m u p h f g = grind (arith, common_steps)

pub not_top : (s : Shape) (m : ℕ) → times_reached s m ≡ 0 → top s ≢ m
not_top s m c =
    λ e. (let t : 0 < times_reached s (top s) = count_top s in grind (arith, common_steps))

swap-first : (from pair new : ℕ) (q p : p.Pair) (a : Shape) → p.first ≡ top a
    → (pair_swapped p from pair).first ≡ top (tree_forked from pair q new a)
swap-first from pair new q p a e =
    let t : _ = top_forked from pair new q a in grind (arith, common_steps)

swap-second : (from pair new : ℕ) (q p : p.Pair) (a b : Shape)
    → p.first ≡ top a → p.second ≡ top b
    → times_reached a from + times_reached b from ≤ 1
    → (pair_swapped p from pair).second ≡ top (tree_forked from pair q new b)
swap-second from pair new q p a b e k c =
    let t : _ = top_forked from pair new q b in
    let ta : 0 < times_reached a (top a) = count_top a in
    let tb : 0 < times_reached b (top b) = count_top b in
    grind (arith, common_steps)

-- the tree with the pair is spelled
pub spells_forked : (ws vs : List Window) (from pair new q : ℕ) (r : p.Pair)
    (h : (m : ℕ) (x : ℕ × Option p.Pair)
    → node_of ws m ≡ Some x
    → node_of vs m ≡ Some (renode from pair q m x))
    (hq : (m : ℕ) (x : ℕ × Option p.Pair) → m ≡ from → node_of ws m ≡ Some x → x.0 ≡ q)
    (hp : node_of vs pair ≡ Some (q, Some r)) (hn : node_of vs new ≡ Some (pair, None))
    (rf : r.first ≡ from) (rn : r.second ≡ new)
    → (s : Shape) (up : ℕ) → ((m : ℕ) → times_reached s m ≤ 1)
    → SpellsTree ws up s
    → SpellsTree vs up (tree_forked from pair r new s)
spells_forked ws vs from pair new q r h hq hp hn rf rn (Leaf n) up c t =
    cond_both (n == from) (Fork pair r (Leaf n) (Leaf new)) (Leaf n) (SpellsTree vs up)
    (λ e. (
      hp ∙ ap (λ u. Some (u, Some r)) (sym (hq n _ (eqb-true n from e) t)),
      rf ∙ sym (eqb-true n from e),
      rn,
      h n _ t ∙ ap Some (grind (arith, common_steps)),
      hn,
    ))
    (λ e. h n _ t ∙ ap Some (grind (arith, common_steps)))
spells_forked ws vs from pair new q r h hq hp hn rf rn (Fork n p a b) up c t =
    let ch : times_reached (Fork n p a b) from ≤ 1 = c from in
    cond_both (n == from) (Fork pair r (Fork n p a b) (Leaf new)) _ (SpellsTree vs up)
    (λ e. (let i : n ≡ from = eqb-true n from e in
    let ca : times_reached a from ≡ 0 = grind (arith, common_steps) in
    let cb : times_reached b from ≡ 0 = grind (arith, common_steps) in (
      hp ∙ ap (λ u. Some (u, Some r)) (sym (hq n _ i t.0)),
      rf ∙ sym i,
      rn,
      (
        h n _ t.0 ∙ ap Some (relinked_top from pair q from pair n up p i
            (λ k. not_top a from ca (sym t.1 ∙ k)) (λ k. not_top b from cb (sym t.2 ∙ k))),
        t.1,
        t.2,
        spells_apart ws vs from pair q h a n ca t.3,
        spells_apart ws vs from pair q h b n cb t.4,
      ),
      hn,
    )))
    (λ e. (
      h n _ t.0 ∙ ap Some (renode-swap from pair q n up p (eqb-false n from e)
          (λ k. hq (top a) _ (sym t.1 ∙ k) (spells_top ws a n t.3))
          (λ k. hq (top b) _ (sym t.2 ∙ k) (spells_top ws b n t.4))),
      swap-first from pair new r p a t.1,
      swap-second from pair new r p a b t.1 t.2 (omega arith),
      spells_forked ws vs from pair new q r h hq hp hn rf rn a n (λ m. omega (arith, c m)) t.3,
      spells_forked ws vs from pair new q r h hq hp hn rf rn b n (λ m. omega (arith, c m)) t.4,
    ))

-- what the list says of a window after a change of one
pub node_set_at : (f : Window → Window) (g : ℕ × Option p.Pair → ℕ × Option p.Pair)
    (num : (w : Window) → (f w).number ≡ w.number)
    (nd : (w : Window) → ((f w).parent, bare_in (f w)) ≡ g (w.parent, bare_in w))
    → (ws : List Window) (n m : ℕ)
    → node_of (set_at f ws n) m ≡ option_map (λ x. if m == n then g x else x) (node_of ws m)
unfolding changed_at
node_set_at f g num nd [] n m = refl
node_set_at f g num nd (w ∷ ws) n m =
    let i : _ = num w in
    let j : _ = nd w in
    let k : _ = node_set_at f g num nd ws n m in
    grind (arith, common_steps)

content-swapped : (c : Content) (a b : ℕ)
    → option_map pair_without_key (pair_content (swapped c a b))
    ≡ option_map (λ p. pair_swapped p a b) (option_map pair_without_key (pair_content c))
content-swapped (Pair p) a b = grind (arith, common_steps)
content-swapped c a b = refl

pub node_append : (ws vs : List Window) (m : ℕ) (x : ℕ × Option p.Pair)
    → node_of ws m ≡ Some x → node_of (ws ++ vs) m ≡ Some x
node_append [] vs m x e = cc
node_append (w ∷ ws) vs m x e = grind (arith, common_steps, node_append ws vs m x)

pub node_new : (ws vs : List Window) (m : ℕ)
    → node_of ws m ≡ None → node_of (ws ++ vs) m ≡ node_of vs m
node_new [] vs m e = refl
node_new (w ∷ ws) vs m e = grind (arith, common_steps, node_new ws vs m)

-- a window that isn't there has no place in the tree
pub node_window : (ws : List Window) (n : ℕ)
    → node_of ws n ≡ option_map (λ w. (w.parent, bare_in w)) (window_at ws n)
unfolding found
node_window [] n = refl
node_window (w ∷ ws) n = grind (arith, common_steps, node_window ws n)

pub node_none : (ws : List Window) (n : ℕ) → window_at ws n ≡ None → node_of ws n ≡ None
node_none ws n e = node_window ws n ∙ ap (option_map (λ w. (w.parent, bare_in w))) e

-- no window has a number that comes later
pub node_later : (a : ℕ) (ws : List Window) (z m : ℕ) → Ascends a ws z → z ≤ m → node_of ws m ≡ None
node_later a ws z m o h = node_none ws m (found-high window_number ws a z m o.1 h)

pub node_parent : (ws : List Window) (m : ℕ) (x : ℕ × Option p.Pair)
    → node_of ws m ≡ Some x → x.0 ≡ parent_of ws m
unfolding found
node_parent [] m x e = cc
node_parent (w ∷ ws) m x e = grind (arith, common_steps, node_parent ws m x)

relinks : (o : Option (ℕ × Option p.Pair)) (n up at old new m : ℕ)
    → option_map (λ x. if m == n then (up, x.1) else x)
    (option_map (λ x. if m == at then (x.0, option_map (λ p. pair_swapped p old new) x.1) else x) o)
    ≡ option_map (relinked n up at old new m) o
relinks None n up at old new m = refl
relinks (Some (u, None)) n up at old new m = grind (arith, common_steps)
relinks (Some (u, Some p)) n up at old new m = grind (arith, common_steps)

pub node_relinked : (ws : List Window) (n up at old new m : ℕ)
    → node_of (set_at (λ w. record w { parent = up })
    (set_at (λ w. record w { content = swapped w.content old new }) ws at) n) m
    ≡ option_map (relinked n up at old new m) (node_of ws m)
node_relinked ws n up at old new m =
    node_set_at (λ w. record w { parent = up }) (λ x. (up, x.1)) (λ w. refl) (λ w. refl)
    (set_at (λ w. record w { content = swapped w.content old new }) ws at) n m
    ∙ ap (option_map (λ x. if m == n then (up, x.1) else x))
    (node_set_at (λ w. record w { content = swapped w.content old new })
    (λ x. (x.0, option_map (λ p. pair_swapped p old new) x.1)) (λ w. refl)
    (λ w. ap (λ o. (w.parent, o)) (content-swapped w.content old new)) ws at m)
    ∙ relinks (node_of ws m) n up at old new m

pub node_joined : (ws : List Window) (from pair m : ℕ)
    → node_of (pair_joined ws from pair) m
    ≡ option_map (renode from pair (parent_of ws from) m) (node_of ws m)
node_joined ws from pair m = node_relinked ws from pair (parent_of ws from) from pair m

pub once_le : (b : Bool) (n : ℕ) → n ≡ (if b then 1 else 0) → n ≤ 1
once_le true n e = omega (arith, e)
once_le false n e = omega (arith, e)

pub once_mapped : (o : Option (ℕ × Option p.Pair)) (f : ℕ × Option p.Pair → ℕ × Option p.Pair)
    → is_some (option_map f o) ≡ is_some o
once_mapped None f = refl
once_mapped (Some x) f = refl

pub once_at : (o : Option (ℕ × Option p.Pair)) (n : ℕ) (x : ℕ × Option p.Pair) → o ≡ Some x
    → n ≡ (if is_some o then 1 else 0) → n ≡ 1
once_at None n x e h = cc
once_at (Some y) n x e h = h
