-- The rectangles that placing gives to the windows of a tree.
use Rattle.std.proofs.Common.{◌≡◌, ◌≢◌, ◌⊎◌, ℕ, zero, suc, ◌<◌, ◌≤◌, List, [], ◌∷◌, length, refl}
use Rattle.std.proofs.Common.{sym, ap, ◌∙◌, subst, Option, Some, None, option_map, arith, false}
use Rattle.std.proofs.lemmas.Grind.{common_steps}
use Rattle.glk_numbers.specs.Numbered.{found, changed_at}
use Rattle.glk_windows.specs.declared.window.Window.{Window}
use Rattle.glk_windows.specs.declared.window.Area.{Area}
use Rattle.glk_windows.specs.declared.window.Pair as pairs
use Rattle.glk_windows.specs.declared.window.Content.{Content}
use Rattle.glk_windows.specs.declared.window.Content.TheVariants.{Pair}
use Rattle.glk_windows.specs.Tree.{WindowTree, pair_of, pair_in}
use Rattle.glk_windows.specs.Resizing.{sized, content_sized}
use Rattle.glk_windows.specs.Placing.{windows_placed, pair_divided, with_area, has_size}
use Rattle.glk_windows.specs.Placing.{place, is_shown_content, first_part, second_part}
use Rattle.glk_windows.specs.OneTree.{Shape, Leaf, Fork, top, times_reached, pair_without_key}
use Rattle.glk_windows.specs.OneTree.{node_of, SpellsTree, IsTree, tree_size}
use Rattle.glk_windows.specs.Valid.{IsOrdered}
use Rattle.glk_windows.specs.Laws.{window_area}
use Rattle.glk_windows.proofs.OneTreeLemmas.{count_top, once_le, not_top}
use Rattle.glk_windows.proofs.CutLemmas.{spells_on, node_pair, none_of, size_length}
use Rattle.glk_windows.proofs.SameLemmas.{read_placed, read_set_at, pair_sized, node_placed}
use Rattle.glk_windows.proofs.SameLemmas.{node_with}

-- ---- what placing leaves as it is

pub pair_placed : (d : ℕ) (ws : List Window) (n : ℕ) (r : Area) (m : ℕ)
    → pair_of (windows_placed d ws n r) m ≡ pair_of ws m
pair_placed d ws n r m = read_placed None pair_in (λ a w. pair_sized a w.content) d ws n r m

pair-with : (ws : List Window) (n : ℕ) (r : Area) (m : ℕ)
    → pair_of (with_area ws n r) m ≡ pair_of ws m
pair-with ws n r m =
    read_set_at None pair_in (sized r) (λ w. refl) (λ w. pair_sized r w.content) ws n m

shown-sized : (a : Area) (c : Content) → is_shown_content (content_sized c a) ≡ is_shown_content c
shown-sized a (Pair q) = refl
shown-sized a c = refl

pub size_placed : (d : ℕ) (ws : List Window) (n : ℕ) (r : Area) (m : ℕ)
    → has_size (windows_placed d ws n r) m ≡ has_size ws m
size_placed d ws n r m =
    read_placed false (λ w. is_shown_content w.content) (λ a w. shown-sized a w.content) d ws n r m

size-with : (ws : List Window) (n : ℕ) (r : Area) (m : ℕ)
    → has_size (with_area ws n r) m ≡ has_size ws m
size-with ws n r m =
    read_set_at false (λ w. is_shown_content w.content) (sized r) (λ w. refl)
    (λ w. shown-sized r w.content) ws n m

-- a new rectangle for one window
area-other : (ws : List Window) (n m : ℕ) (r : Area)
    → m ≢ n
    → window_area (with_area ws n r) m ≡ window_area ws m
unfolding changed_at found
area-other [] n m r h = refl
area-other (w ∷ ws) n m r h = let k : _ = area-other ws n m r h in grind (arith, common_steps)

area-own : (ws : List Window) (n : ℕ) (r : Area) (x : ℕ × Option pairs.Pair)
    → node_of ws n ≡ Some x
    → window_area (with_area ws n r) n ≡ r
unfolding changed_at found
area-own [] n r x e = absurd (grind (arith, common_steps))
area-own (w ∷ ws) n r x e = let k : _ = area-own ws n r x in grind (arith, common_steps)

-- ---- how a tree's rectangle is given on

pub some_of : (o : Option pairs.Pair) (p : pairs.Pair)
    → option_map pair_without_key o ≡ Some p
    → (q : pairs.Pair) × (o ≡ Some q) × (pair_without_key q ≡ p)
some_of None p e = cc
some_of (Some q) p e = (q, refl, cc)

-- how a pair's rectangle is given on
record Parts (d : ℕ) (ws : List Window) (n : ℕ) (r : Area) (a b : Shape) : Type 0 where
  pair : pairs.Pair
  there : pair_of ws n ≡ Some pair
  one : pair.first ≡ top a
  two : pair.second ≡ top b
  is : windows_placed (suc d) ws n r
      ≡ windows_placed d
      (windows_placed d (with_area ws n r) (top a) (first_part pair (has_size ws pair.key) r))
      (top b) (second_part pair (has_size ws pair.key) r)

parts : (d : ℕ) (ws : List Window) (n : ℕ) (r : Area) (p : pairs.Pair) (a b : Shape) (up : ℕ)
    → SpellsTree ws up (Fork n p a b) → Parts d ws n r a b
unfolding windows_placed
parts d ws n r p a b up t =
    let g : (q : pairs.Pair) × (pair_of ws n ≡ Some q) × (pair_without_key q ≡ p) =
    some_of (pair_of ws n) p (node_pair ws n _ t.0) in
    let q : pairs.Pair = g.0 in
    let vs : List Window = with_area ws n r in
    let one : q.first ≡ top a = ap (λ y. y.first) g.2 ∙ t.1 in
    let two : q.second ≡ top b = ap (λ y. y.second) g.2 ∙ t.2 in
    record {
      pair = q;
      there = g.1;
      one = one;
      two = two;
      is = ap (λ o. pair_divided (windows_placed d) vs o r) g.1
          ∙ ap (λ z. windows_placed d (windows_placed d vs q.first (first_part q z r)) q.second
          (second_part q z r)) (size-with ws n r q.key)
          ∙ ap (λ v. windows_placed d
          (windows_placed d vs v (first_part q (has_size ws q.key) r)) q.second
          (second_part q (has_size ws q.key) r)) one
          ∙ ap (λ v. windows_placed d
          (windows_placed d vs (top a) (first_part q (has_size ws q.key) r)) v
          (second_part q (has_size ws q.key) r)) two;
    }

placed-leaf : (d : ℕ) (ws : List Window) (n : ℕ) (r : Area) (up : ℕ)
    → node_of ws n ≡ Some (up, None) → windows_placed (suc d) ws n r ≡ with_area ws n r
unfolding windows_placed
placed-leaf d ws n r up t =
    ap (λ o. pair_divided (windows_placed d) (with_area ws n r) o r)
    (none_of _ (node_pair ws n _ t))

-- the tree below a window, once the windows before it are placed
spells-placed : (d : ℕ) (ws : List Window) (n k : ℕ) (r f : Area) (b : Shape) (up : ℕ)
    → SpellsTree ws up b → SpellsTree (windows_placed d (with_area ws n r) k f) up b
spells-placed d ws n k r f b up t =
    spells_on ws _ b up (λ m c. node_placed d (with_area ws n r) k f m ∙ node_with ws n r m) t

spells-with : (ws : List Window) (n : ℕ) (r : Area) (b : Shape) (up : ℕ)
    → SpellsTree ws up b → SpellsTree (with_area ws n r) up b
spells-with ws n r b up t = spells_on ws _ b up (λ m c. node_with ws n r m) t

-- a window that isn't below another keeps its rectangle
area-kept : (d : ℕ) (s : Shape) (ws : List Window) (up : ℕ) (r : Area) (m : ℕ)
    → SpellsTree ws up s
    → times_reached s m ≡ 0 → window_area (windows_placed d ws (top s) r) m ≡ window_area ws m
unfolding windows_placed
area-kept zero s ws up r m t c = refl
area-kept (suc d) (Leaf n) ws up r m t c =
    ap (λ v. window_area v m) (placed-leaf d ws n r up t)
    ∙ area-other ws n m r (λ e. not_top (Leaf n) m c (sym e))
area-kept (suc d) (Fork n p a b) ws up r m t c =
    let k : Parts d ws n r a b = parts d ws n r p a b up t in
    ap (λ v. window_area v m) k.is
    ∙ area-kept d b _ n _ m (spells-placed d ws n (top a) r _ b n t.4) (omega (arith, c))
    ∙ area-kept d a _ n _ m (spells-with ws n r a n t.3) (omega (arith, c))
    ∙ area-other ws n m r (λ e. not_top (Fork n p a b) m c (sym e))

-- the windows of a tree have these rectangles: the first window that of the tree, and the two
-- windows of each pair their parts of its rectangle
abbrev pub Spread : List Window → (ℕ → Area) → Shape → Area → Type 0
Spread ws at (Leaf n) r = (at n ≡ r) × (pair_of ws n ≡ None)
Spread ws at (Fork n p a b) r =
    (at n ≡ r) × (q : pairs.Pair) × (pair_of ws n ≡ Some q) × (q.first ≡ top a)
    × (q.second ≡ top b)
    × Spread ws at a (first_part q (has_size ws q.key) r)
    × Spread ws at b (second_part q (has_size ws q.key) r)

-- other rectangles that are these in the tree, for windows with the same pairs
spread-on : (ws vs : List Window) (at to : ℕ → Area)
    → ((m : ℕ) → pair_of vs m ≡ pair_of ws m) → ((m : ℕ) → has_size vs m ≡ has_size ws m)
    → (s : Shape) (r : Area) → ((m : ℕ) → 0 < times_reached s m → to m ≡ at m)
    → Spread ws at s r → Spread vs to s r
spread-on ws vs at to p z (Leaf n) r h t = (h n (count_top (Leaf n)) ∙ t.0, p n ∙ t.1)
spread-on ws vs at to p z (Fork n f a b) r h t =
    let q : pairs.Pair = t.1 in (
      h n (count_top (Fork n f a b)) ∙ t.0,
      q,
      p n ∙ t.2,
      t.3,
      t.4,
      subst (λ y. Spread vs to a (first_part q y r)) (sym (z q.key))
          (spread-on ws vs at to p z a _ (λ m l. h m (omega (arith, l))) t.5),
      subst (λ y. Spread vs to b (second_part q y r)) (sym (z q.key))
          (spread-on ws vs at to p z b _ (λ m l. h m (omega (arith, l))) t.6),
    )

-- a window is not below itself
pub not_in_parts : (n : ℕ) (p : pairs.Pair) (a b : Shape) → times_reached (Fork n p a b) n ≤ 1
    → (times_reached a n ≡ 0) × (times_reached b n ≡ 0)
not_in_parts n p a b l = (grind (arith, common_steps), grind (arith, common_steps))

-- so have those of a tree that is placed
spread : (d : ℕ) (s : Shape) (ws : List Window) (up : ℕ) (r : Area) → tree_size s ≤ d
    → SpellsTree ws up s → ((k : ℕ) → times_reached s k ≤ 1)
    → Spread ws (window_area (windows_placed d ws (top s) r)) s r
spread zero (Leaf n) ws up r h t c = absurd (omega (arith, h))
spread zero (Fork n p a b) ws up r h t c = absurd (omega (arith, h))
spread (suc d) (Leaf n) ws up r h t c = (
  ap (λ v. window_area v n) (placed-leaf d ws n r up t) ∙ area-own ws n r _ t,
  none_of _ (node_pair ws n _ t),
)
spread (suc d) (Fork n p a b) ws up r h t c =
    let k : Parts d ws n r a b = parts d ws n r p a b up t in
    let one : Area = first_part k.pair (has_size ws k.pair.key) r in
    let two : Area = second_part k.pair (has_size ws k.pair.key) r in
    let w1 : List Window = with_area ws n r in
    let w2 : List Window = windows_placed d w1 (top a) one in
    let w3 : List Window = windows_placed d w2 (top b) two in
    let t1 : SpellsTree w1 n a = spells-with ws n r a n t.3 in
    let t2 : SpellsTree w2 n b = spells-placed d ws n (top a) r one b n t.4 in
    let own : (times_reached a n ≡ 0) × (times_reached b n ≡ 0) = not_in_parts n p a b (c n) in
    let kept : (m : ℕ) → times_reached b m ≡ 0 → window_area w3 m ≡ window_area w2 m =
    λ m e. area-kept d b w2 n two m t2 e in
    subst (λ v. Spread ws (window_area v) (Fork n p a b) r) (sym k.is) (
      kept n own.1 ∙ area-kept d a w1 n one n t1 own.0 ∙ area-own ws n r _ t.0,
      k.pair,
      k.there,
      k.one,
      k.two,
      spread-on w1 ws (window_area w2) (window_area w3) (λ m. sym (pair-with ws n r m))
          (λ m. sym (size-with ws n r m)) a one (λ m l. kept m (omega (arith, c m, l)))
          (spread d a w1 n one (omega (arith, h)) t1 (λ j. omega (arith, c j))),
      spread-on w2 ws (window_area w3) (window_area w3)
          (λ m. sym (pair_placed d w1 (top a) one m ∙ pair-with ws n r m))
          (λ m. sym (size_placed d w1 (top a) one m ∙ size-with ws n r m)) b two (λ m l. refl)
          (spread d b w2 n two (omega (arith, h)) t2 (λ j. omega (arith, c j))),
    )

-- the windows of one tree, on a screen
pub spread_tree : (t : WindowTree) (s : Shape) (cols rows : ℕ) → IsOrdered t → IsTree t (Some s)
    → Spread t.slots (window_area (place t cols rows).slots) s
    (record { x = 0; y = 0; w = cols; h = rows })
unfolding IsOrdered
spread_tree t s cols rows o h =
    let r : Area = record { x = 0; y = 0; w = cols; h = rows } in
    let d : ℕ = length t.slots in
    subst (λ k. Spread t.slots (window_area (windows_placed d t.slots k r)) s r) (sym h.0)
    (spread d s t.slots 0 r (omega (arith, size_length 0 t.slots t.next 0 s o h.1 h.2)) h.1
    (λ k. once_le _ _ (h.2 k)))

pub spread_top : (ws : List Window) (at : ℕ → Area) (s : Shape) (r : Area)
    → Spread ws at s r → at (top s) ≡ r
spread_top ws at (Leaf n) r t = t.0
spread_top ws at (Fork n p a b) r t = t.0

pub leaf_is : (n m : ℕ) → 0 < times_reached (Leaf n) m → m ≡ n
leaf_is n m c = grind (arith, common_steps)

-- another window below a pair is below its first or its second
pub part_of : (n m : ℕ) (p : pairs.Pair) (a b : Shape)
    → n ≢ m → 0 < times_reached (Fork n p a b) m
    → (0 < times_reached a m) ⊎ (0 < times_reached b m)
part_of n m p a b h c = grind (arith, common_steps)
