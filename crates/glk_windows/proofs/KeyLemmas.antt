-- The keys of pairs stay below them.
use Rattle.std.proofs.Common.{◌≡◌, ◌≢◌, ℕ, ◌≤◌, ◌<◌, ◌==◌, ◌||◌, ◌&&◌, List, [], ◌∷◌, ◌++◌, length}
use Rattle.std.proofs.Common.{refl, sym, ap, ◌∙◌, Option, Some, None, arith, Bool, true, false}
use Rattle.std.proofs.Common.{if◌then◌else◌, inl, inr, subst}
use Rattle.std.proofs.lemmas.Bool.{and_from, and_parts, cases_eq, cond_both, or_left, or_right}
use Rattle.std.proofs.lemmas.Grind.{common_steps}
use Rattle.glk_numbers.specs.Numbered.{found, without}
use Rattle.glk_windows.specs.declared.window.Window.{Window}
use Rattle.glk_windows.specs.declared.window.Pair as pairs
use Rattle.glk_windows.specs.declared.window.Content.{Content}
use Rattle.glk_windows.specs.declared.window.Content.TheVariants.{Pair}
use Rattle.glk_windows.specs.Tree.{WindowTree, window_number, set_at, pair_of, pair_in}
use Rattle.glk_windows.specs.Tree.{pair_content, parent_of, stream_of, swapped}
use Rattle.glk_windows.specs.Opening.{pair_joined}
use Rattle.glk_windows.specs.Closing.{windows_without, forgotten, content_unkeyed}
use Rattle.glk_windows.specs.Closing.{removed, sibling_lifted, close}
use Rattle.glk_windows.specs.Reading.{other_window as sibling}
use Rattle.glk_windows.specs.OneTree.{Shape, Leaf, Fork, top, times_reached}
use Rattle.glk_windows.specs.OneTree.{node_of, SpellsTree, IsTree, tree_size, below, tree_without}
use Rattle.glk_windows.specs.OneTree.{tree_forked, key_in, pair_key, has_leaf, are_keyed}
use Rattle.glk_windows.specs.Valid.{IsOrdered}
use Rattle.glk_windows.proofs.OrderLemmas.{Ascends, ascends-removed}
use Rattle.glk_windows.proofs.OneTreeLemmas.{count_top, once_at, once_le}
use Rattle.glk_windows.proofs.CutLemmas.{node_closed, removed_from, size_length}
use Rattle.glk_windows.proofs.LiftLemmas.{First, InFirst, InSecond, Second, cut_at, count_below}
use Rattle.glk_windows.proofs.LiftLemmas.{leaf_top}
use Rattle.glk_windows.proofs.CloseLemmas.{size_below, spells_below}
use Rattle.glk_windows.proofs.SameLemmas.{read_set_at}

-- each pair's key is 0, or a window below it that is no pair
abbrev pub Keyed : List Window → Shape → Type 0
Keyed ws (Leaf n) = Unit {0}
Keyed ws (Fork n q a b) =
    (pair_key ws n ≢ 0 → (has_leaf a (pair_key ws n) || has_leaf b (pair_key ws n)) ≡ true)
    × Keyed ws a × Keyed ws b

keyed-in : (k : ℕ) (l : Bool) → (k == 0 || l) ≡ true → k ≢ 0 → l ≡ true
keyed-in k l e h = grind (arith, common_steps)

keyed-or : (k : ℕ) (l : Bool) → (k ≢ 0 → l ≡ true) → (k == 0 || l) ≡ true
keyed-or k true h = or_right (k == 0) true refl
keyed-or k false h = grind (arith, common_steps)

pub keyed_of : (ws : List Window) (s : Shape) → are_keyed ws s ≡ true → Keyed ws s
keyed_of ws (Leaf n) e = tt
keyed_of ws (Fork n q a b) e =
    let l : Bool = has_leaf a (pair_key ws n) || has_leaf b (pair_key ws n) in
    let h = and_parts (pair_key ws n == 0 || l) (are_keyed ws a && are_keyed ws b) e in
    let r = and_parts (are_keyed ws a) (are_keyed ws b) h.1 in
    (keyed-in (pair_key ws n) l h.0, keyed_of ws a r.0, keyed_of ws b r.1)

pub are_keyed_of : (ws : List Window) (s : Shape) → Keyed ws s → are_keyed ws s ≡ true
are_keyed_of ws (Leaf n) k = refl
are_keyed_of ws (Fork n q a b) k =
    let l : Bool = has_leaf a (pair_key ws n) || has_leaf b (pair_key ws n) in
    and_from (pair_key ws n == 0 || l) _ (keyed-or (pair_key ws n) l k.0)
    (and_from (are_keyed ws a) _ (are_keyed_of ws a k.1) (are_keyed_of ws b k.2))

-- the same keys, for the windows of a tree
pub keyed_on : (ws vs : List Window) (s : Shape)
    → ((m : ℕ) → 0 < times_reached s m → pair_key vs m ≡ pair_key ws m)
    → Keyed ws s → Keyed vs s
keyed_on ws vs (Leaf n) h k = tt
keyed_on ws vs (Fork n q a b) h k =
    let e : pair_key vs n ≡ pair_key ws n = h n (count_top (Fork n q a b)) in (
      λ i. ap (λ j. has_leaf a j || has_leaf b j) e ∙ k.0 (λ j. i (e ∙ j)),
      keyed_on ws vs a (λ m l. h m (omega (arith, l))) k.1,
      keyed_on ws vs b (λ m l. h m (omega (arith, l))) k.2,
    )

-- a window that is no pair is in the tree
pub leaf_count : (s : Shape) (k : ℕ) → has_leaf s k ≡ true → 0 < times_reached s k
leaf_count (Leaf n) k e = grind (arith, common_steps)
leaf_count (Fork n q a b) k e =
    let i : has_leaf a k ≡ true → 0 < times_reached a k = leaf_count a k in
    let j : has_leaf b k ≡ true → 0 < times_reached b k = leaf_count b k in
    grind (arith, common_steps)

-- a new window below a pair keeps the others there
pub leaf_forked : (from pair new : ℕ) (r : pairs.Pair) (s : Shape) (k : ℕ) → has_leaf s k ≡ true
    → has_leaf (tree_forked from pair r new s) k ≡ true
leaf_forked from pair new r (Leaf n) k e = grind (arith, common_steps)
leaf_forked from pair new r (Fork n q a b) k e =
    let i : has_leaf a k ≡ true → has_leaf (tree_forked from pair r new a) k ≡ true =
    leaf_forked from pair new r a k in
    let j : has_leaf b k ≡ true → has_leaf (tree_forked from pair r new b) k ≡ true =
    leaf_forked from pair new r b k in
    grind (arith, common_steps)

new-leaf : (new k : ℕ) → k ≡ new → (new == k) ≡ true
new-leaf new k e = grind (arith, common_steps)

or-more : (x y u v : Bool)
    → (x || y) ≡ true → (x ≡ true → u ≡ true)
    → (y ≡ true → v ≡ true) → (u || v) ≡ true
or-more true y u v e f g = or_left u v (f refl)
or-more false y u v e f g = or_right u v (g e)

pub keyed_forked : (ws vs : List Window) (from pair new : ℕ) (r : pairs.Pair)
    → pair_key vs pair ≡ new
    → (s : Shape)
    → ((m : ℕ) → 0 < times_reached s m → pair_key vs m ≡ pair_key ws m)
    → Keyed ws s → Keyed vs (tree_forked from pair r new s)
keyed_forked ws vs from pair new r e (Leaf n) h k =
    cond_both (n == from) (Fork pair r (Leaf n) (Leaf new)) (Leaf n) (Keyed vs)
    (λ i. (
      λ j. or_right (has_leaf (Leaf n) (pair_key vs pair)) _ (new-leaf new (pair_key vs pair) e),
      tt,
      tt,
    )) (λ i. tt)
keyed_forked ws vs from pair new r e (Fork n q a b) h k =
    let z : pair_key vs n ≡ pair_key ws n = h n (count_top (Fork n q a b)) in
    cond_both (n == from) (Fork pair r (Fork n q a b) (Leaf new)) _ (Keyed vs)
    (λ i. (
      λ j. or_right (has_leaf (Fork n q a b) (pair_key vs pair)) _
          (new-leaf new (pair_key vs pair) e),
      keyed_on ws vs (Fork n q a b) h k,
      tt,
    ))
    (λ i. (
      λ j. or-more (has_leaf a (pair_key vs n)) (has_leaf b (pair_key vs n)) _ _
          (ap (λ y. has_leaf a y || has_leaf b y) z ∙ k.0 (λ y. j (z ∙ y)))
          (leaf_forked from pair new r a (pair_key vs n))
          (leaf_forked from pair new r b (pair_key vs n)),
      keyed_forked ws vs from pair new r e a (λ m l. h m (omega (arith, l))) k.1,
      keyed_forked ws vs from pair new r e b (λ m l. h m (omega (arith, l))) k.2,
    ))

-- what a change of windows does to keys
key-unkeyed : (c : Content) (n : ℕ)
    → key_in (pair_content (content_unkeyed n c))
    ≡ (if key_in (pair_content c) == n then 0 else key_in (pair_content c))
key-unkeyed (Pair q) n = grind (arith, common_steps)
key-unkeyed c n = grind (arith, common_steps)

key-forgotten : (ws : List Window) (n st m : ℕ)
    → pair_key (forgotten ws n st) m ≡ (if pair_key ws m == n then 0 else pair_key ws m)
unfolding found
key-forgotten [] n st m = grind (arith, common_steps)
key-forgotten (w ∷ ws) n st m =
    let i : _ = key-unkeyed w.content n in
    let k : _ = key-forgotten ws n st m in
    grind (arith, common_steps)

key-without : (ws : List Window) (n m : ℕ)
    → m ≢ n
    → pair_key (without window_number ws n) m ≡ pair_key ws m
unfolding found without
key-without [] n m h = refl
key-without (w ∷ ws) n m h = let k : _ = key-without ws n m h in grind (arith, common_steps)

pub key_none : (ws : List Window) (m : ℕ) → node_of ws m ≡ None → pair_key ws m ≡ 0
unfolding found
key_none [] m e = refl
key_none (w ∷ ws) m e =
    let k : node_of ws m ≡ None → pair_key ws m ≡ 0 = key_none ws m in grind (arith, common_steps)

-- a key that is left is the old one, and no window that is gone
pub record IsLeft (v k : ℕ) (gone : Shape) : Type 0 where
  pub same : v ≡ k
  pub stays : times_reached gone v ≡ 0

left-closed : (ws : List Window) (a z n m : ℕ) → Ascends a ws z
    → pair_key (windows_without ws n) m ≢ 0
    → IsLeft (pair_key (windows_without ws n) m) (pair_key ws m) (Leaf n)
left-closed ws a z n m o h = elim (cases_eq m n) [
  | inl e ↦
      let i = node_closed a ws z n m o in
      absurd (h (key_none (windows_without ws n) m (grind (arith, common_steps, i, e))))
  | inr e ↦
      let k = key-without ws n m e in
      let f = key-forgotten (without window_number ws n) n (stream_of ws n) m in record {
        same = grind (arith, common_steps, k, f, h);
        stays = grind (arith, common_steps, k, f, h);
      }
]

fork-lost : (n : ℕ) (q : pairs.Pair) (x y : Shape) (k0 k1 k2 k3 : ℕ)
    → (k1 ≢ 0 → IsLeft k1 k0 (Leaf n)) → (k2 ≢ 0 → IsLeft k2 k1 x) → (k3 ≢ 0 → IsLeft k3 k2 y)
    → k3 ≢ 0 → IsLeft k3 k0 (Fork n q x y)
fork-lost n q x y k0 k1 k2 k3 f g h i =
    let c : IsLeft k3 k2 y = h i in
    let b : IsLeft k2 k1 x = g (λ j. i (c.same ∙ j)) in
    let a : IsLeft k1 k0 (Leaf n) = f (λ j. i (c.same ∙ b.same ∙ j)) in
    let a1 : times_reached (Leaf n) k3 ≡ 0 =
    ap (times_reached (Leaf n)) (c.same ∙ b.same) ∙ a.stays in
    let b1 : times_reached x k3 ≡ 0 = ap (times_reached x) c.same ∙ b.stays in
    record { same = c.same ∙ b.same ∙ a.same; stays = omega (arith, a1, b1, c.stays) }

at-list : (r s : List Window) (m k : ℕ) (g : Shape)
    → r ≡ s → (pair_key s m ≢ 0 → IsLeft (pair_key s m) k g)
    → pair_key r m ≢ 0 → IsLeft (pair_key r m) k g
at-list r s m k g e f h = rw e (f (λ j. h (ap (λ v. pair_key v m) e ∙ j)))

-- the keys that are left once a window and all below it are gone
left-removed : (d : ℕ) (s : Shape) (ws : List Window) (up a z : ℕ)
    → tree_size s ≤ d → Ascends a ws z → SpellsTree ws up s
    → ((k : ℕ) → times_reached s k ≤ 1) → (m : ℕ)
    → pair_key (removed d ws (top s)) m ≢ 0
    → IsLeft (pair_key (removed d ws (top s)) m) (pair_key ws m) s
left-removed d s ws up a z h o t c =
    (removed_from
    (λ s ws vs. (m : ℕ) → pair_key vs m ≢ 0 → IsLeft (pair_key vs m) (pair_key ws m) s) a z
    (λ ws n o m. left-closed ws a z n m o)
    (λ ws us vs ts n p x y f g l m. fork-lost n p x y (pair_key ws m) (pair_key us m)
    (pair_key vs m) (pair_key ts m) (f m) (g m) (l m)) d s ws up h o t c).1

key-swapped : (c : Content) (old new : ℕ)
    → key_in (pair_content (swapped c old new)) ≡ key_in (pair_content c)
key-swapped (Pair q) old new = grind (arith, common_steps)
key-swapped c old new = refl

-- another window in a pair, and another pair above a window
key-relinked : (ws : List Window) (old new at up n m : ℕ)
    → pair_key (set_at (λ w. record w { parent = up })
    (set_at (λ w. record w { content = swapped w.content old new }) ws at) n) m
    ≡ pair_key ws m
key-relinked ws old new at up n m =
    read_set_at 0 (λ w. key_in (pair_in w)) (λ w. record w { parent = up }) (λ w. refl)
    (λ w. refl) _ n m
    ∙ read_set_at 0 (λ w. key_in (pair_in w))
    (λ w. record w { content = swapped w.content old new }) (λ w. refl)
    (λ w. key-swapped w.content old new) ws at m

-- without a pair that ends
left-ended : (u : WindowTree) (pair : ℕ) (o : Option pairs.Pair) (n m : ℕ)
    → Ascends 0 u.slots u.next
    → pair_key (sibling_lifted u pair o n).slots m ≢ 0
    → pair_key (sibling_lifted u pair o n).slots m ≡ pair_key u.slots m
left-ended u pair None n m a h = refl
left-ended u pair (Some q) n m a h =
    let e = key-relinked (windows_without u.slots pair) pair (sibling q n)
    (parent_of u.slots pair) (parent_of u.slots pair) (sibling q n) m in
    e ∙ (left-closed u.slots 0 u.next pair m a (λ j. h (e ∙ j))).same

no-leaf : (s : Shape) (k : ℕ) → times_reached s k ≡ 0 → has_leaf s k ≡ true → ⊥
no-leaf s k c e = omega (arith, c, leaf_count s k e)

first-of : (x y : Bool) → (x || y) ≡ true → (y ≡ true → ⊥) → x ≡ true
first-of true y e f = refl
first-of false y e f = absurd (f e)

second-of : (x y : Bool) → (x || y) ≡ true → (x ≡ true → ⊥) → y ≡ true
second-of true y e f = absurd (f refl)
second-of false y e f = e

-- the part of a tree that is cut has no window of the part that goes
leaf-cut : (n : ℕ) (s : Shape) (k : ℕ)
    → ((m : ℕ) → times_reached s m ≤ 1) → top s ≢ n
    → 0 < times_reached s n → has_leaf s k ≡ true
    → times_reached (below n s) k ≡ 0 → has_leaf (tree_without n s) k ≡ true
leaf-cut n (Leaf m) k d h c e z = absurd (h (leaf_top n m c))
leaf-cut n (Fork m p a b) k d h c e z =
    let less = λ (x : Shape) (l : below n (Fork m p a b) ≡ x).
    ap (λ y. times_reached y k) (sym l) ∙ z in
    elim (cut_at n m p a b (d n) h c) [
      | First i l t ↦
          ap (λ x. has_leaf x k) t
          ∙ second-of (has_leaf a k) (has_leaf b k) e (no-leaf a k (less a l))
      | Second j i l t ↦
          ap (λ x. has_leaf x k) t
          ∙ first-of (has_leaf a k) (has_leaf b k) e (no-leaf b k (less b l))
      | InFirst i ca l t ↦
          ap (λ x. has_leaf x k) t
          ∙ or-more (has_leaf a k) (has_leaf b k) _ _ e
          (λ y. leaf-cut n a k (λ x. omega (arith, d x)) i ca y (less (below n a) l)) (λ y. y)
      | InSecond i cb l t ↦
          ap (λ x. has_leaf x k) t
          ∙ or-more (has_leaf a k) (has_leaf b k) _ _ e (λ y. y)
          (λ y. leaf-cut n b k (λ x. omega (arith, d x)) i cb y (less (below n b) l))
    ]

-- a part of the tree that stays as it is
keyed-kept : (ws vs : List Window) (sub s : Shape)
    → ((m : ℕ) → pair_key vs m ≢ 0 → IsLeft (pair_key vs m) (pair_key ws m) sub)
    → Keyed ws s → Keyed vs s
keyed-kept ws vs sub (Leaf n) f k = tt
keyed-kept ws vs sub (Fork n q a b) f k = (
  λ i. ap (λ j. has_leaf a j || has_leaf b j) (f n i).same ∙ k.0 (λ j. i ((f n i).same ∙ j)),
  keyed-kept ws vs sub a f k.1,
  keyed-kept ws vs sub b f k.2,
)

pub keyed_cut : (ws vs : List Window) (n : ℕ) (s : Shape)
    → ((m : ℕ) → times_reached s m ≤ 1) → top s ≢ n
    → 0 < times_reached s n
    → ((m : ℕ) → pair_key vs m ≢ 0 → IsLeft (pair_key vs m) (pair_key ws m) (below n s))
    → Keyed ws s → Keyed vs (tree_without n s)
keyed_cut ws vs n (Leaf m) d h c f k = absurd (h (leaf_top n m c))
keyed_cut ws vs n (Fork m p a b) d h c f k =
    let sub : Shape = below n (Fork m p a b) in
    let v : ℕ = pair_key vs m in
    let was : v ≢ 0 → (has_leaf a v || has_leaf b v) ≡ true = λ i.
    ap (λ j. has_leaf a j || has_leaf b j) (f m i).same ∙ k.0 (λ j. i ((f m i).same ∙ j)) in
    let stays = λ (x : Shape) (l : sub ≡ x) (j : ℕ) (i : pair_key vs j ≢ 0).
    ap (λ y. times_reached y (pair_key vs j)) (sym l) ∙ (f j i).stays in
    elim (cut_at n m p a b (d n) h c) [
      | First i l t ↦ subst (Keyed vs) (sym t) (keyed-kept ws vs sub b f k.2)
      | Second j i l t ↦ subst (Keyed vs) (sym t) (keyed-kept ws vs sub a f k.1)
      | InFirst i ca l t ↦ subst (Keyed vs) (sym t) (
        λ j. or-more (has_leaf a v) (has_leaf b v) _ _ (was j)
            (λ y. leaf-cut n a v (λ x. omega (arith, d x)) i ca y (stays (below n a) l m j))
            (λ y. y),
        keyed_cut ws vs n a (λ x. omega (arith, d x)) i ca
            (λ j y. record { same = (f j y).same; stays = stays (below n a) l j y }) k.1,
        keyed-kept ws vs sub b f k.2,
      )
      | InSecond i cb l t ↦ subst (Keyed vs) (sym t) (
        λ j. or-more (has_leaf a v) (has_leaf b v) _ _ (was j) (λ y. y)
            (λ y. leaf-cut n b v (λ x. omega (arith, d x)) i cb y (stays (below n b) l m j)),
        keyed-kept ws vs sub a f k.1,
        keyed_cut ws vs n b (λ x. omega (arith, d x)) i cb
            (λ j y. record { same = (f j y).same; stays = stays (below n b) l j y }) k.2,
      )
    ]

-- the keys that are left once a window is closed
pub left_close : (t : WindowTree) (s : Shape) (n : ℕ) (x : ℕ × Option pairs.Pair)
    → IsOrdered t → IsTree t (Some s)
    → node_of t.slots n ≡ Some x → (m : ℕ) → pair_key (close t n).slots m ≢ 0
    → IsLeft (pair_key (close t n).slots m) (pair_key t.slots m) (below n s)
unfolding IsOrdered
left_close t s n x o h live m i =
    let ws : List Window = t.slots in
    let d : ℕ = length ws in
    let w2 : List Window = removed d ws n in
    let u : WindowTree = record t { slots = w2 } in
    let pair : ℕ = parent_of ws n in
    let sub : Shape = below n s in
    let c0 : 0 < times_reached s n = omega (arith, once_at _ _ x live (h.2 n)) in
    let dd : (j : ℕ) → times_reached s j ≤ 1 = λ j. once_le _ _ (h.2 j) in
    let sb : (top sub ≡ n) × SpellsTree ws pair sub = spells_below ws n s 0 h.1 c0 in
    let sz : tree_size s ≡ d = size_length 0 ws t.next 0 s o h.1 h.2 in
    let kr : pair_key w2 m ≢ 0 → IsLeft (pair_key w2 m) (pair_key ws m) sub =
    at-list w2 (removed d ws (top sub)) m (pair_key ws m) sub (ap (removed d ws) (sym sb.0))
    (left-removed d sub ws pair 0 t.next (omega (arith, size_below n s, sz)) o sb.1
    (λ j. omega (arith, count_below n s j, dd j)) m) in
    let o2 : Ascends 0 w2 t.next = ascends-removed d 0 ws t.next n o in
    let e : pair_key (close t n).slots m ≡ pair_key w2 m =
    cond_both (pair == 0) (record u { root = 0 }) (sibling_lifted u pair (pair_of w2 pair) n)
    (λ (x : WindowTree). pair_key x.slots m ≢ 0 → pair_key x.slots m ≡ pair_key w2 m)
    (λ e j. refl) (λ e. left-ended u pair (pair_of w2 pair) n m o2) i in
    let r : IsLeft (pair_key w2 m) (pair_key ws m) sub = kr (λ j. i (e ∙ j)) in
    record { same = e ∙ r.same; stays = ap (times_reached sub) e ∙ r.stays }

-- a list with more windows at its end
pub key_append : (ws vs : List Window) (m : ℕ) (x : ℕ × Option pairs.Pair) → node_of ws m ≡ Some x
    → pair_key (ws ++ vs) m ≡ pair_key ws m
unfolding found
key_append [] vs m x e = cc
key_append (w ∷ ws) vs m x e =
    let k : node_of ws m ≡ Some x → pair_key (ws ++ vs) m ≡ pair_key ws m = key_append ws vs m x in
    grind (arith, common_steps)

pub key_after : (ws vs : List Window) (m : ℕ)
    → node_of ws m ≡ None
    → pair_key (ws ++ vs) m ≡ pair_key vs m
unfolding found
key_after [] vs m e = refl
key_after (w ∷ ws) vs m e =
    let k : node_of ws m ≡ None → pair_key (ws ++ vs) m ≡ pair_key vs m = key_after ws vs m in
    grind (arith, common_steps)

pub key_joined : (ws : List Window) (from pair m : ℕ)
    → pair_key (pair_joined ws from pair) m ≡ pair_key ws m
key_joined ws from pair m = key-relinked ws from pair (parent_of ws from) pair from m
