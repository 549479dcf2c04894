-- A sibling lifted into the place of its pair keeps the windows one tree.
use Rattle.std.proofs.Common.{◌≡◌, ℕ, ◌+◌, ◌<◌, ◌≤◌, ◌≢◌, List, refl, sym, ap, ◌∙◌, subst, Option}
use Rattle.std.proofs.Common.{Some, arith, Bool, true, false, nat_lt, ◌==◌, if◌then◌else◌}
use Rattle.std.proofs.lemmas.Bool.{eqb-true, eqb-false}
use Rattle.std.proofs.lemmas.Grind.{common_steps}
use Rattle.glk_windows.specs.declared.window.Window.{Window}
use Rattle.glk_windows.specs.declared.window.Pair as p
use Rattle.glk_windows.specs.Tree.{parent_of}
use Rattle.glk_windows.specs.Reading.{other_window as sibling}
use Rattle.glk_windows.specs.OneTree.{Shape, Leaf, Fork, top, times_reached, node_of}
use Rattle.glk_windows.specs.OneTree.{SpellsTree, below, tree_without, pair_above}
use Rattle.glk_windows.proofs.OneTreeLemmas.{count_top, not_top, spells_top, node_parent}
use Rattle.glk_windows.proofs.OneTreeLemmas.{relinked, relinked_same, relinked_top}

-- the parent and pair of a window where another took the place of its pair
abbrev pub relift : ℕ → ℕ → ℕ → ℕ → ℕ × Option p.Pair → ℕ × Option p.Pair
relift pair other above m = relinked other above above pair other m

pub record Cuts (ws vs : List Window) (n : ℕ) (sub : Shape) (pair other above : ℕ) : Type 0 where
  pub kept : (m : ℕ) (x : ℕ × Option p.Pair)
      → node_of ws m ≡ Some x → times_reached sub m ≡ 0 → m ≢ pair
      → node_of vs m ≡ Some (relift pair other above m x)
  pub under : (m : ℕ) (x : ℕ × Option p.Pair) → m ≡ n → node_of ws m ≡ Some x → x.0 ≡ pair
  pub over : (m : ℕ) (x : ℕ × Option p.Pair) → m ≡ pair → node_of ws m ≡ Some x → x.0 ≡ above
  pub beside : (m u : ℕ) (q : p.Pair)
      → m ≡ pair → node_of ws m ≡ Some (u, Some q)
      → other ≡ sibling q n

apart_from : (s : Shape) (m k : ℕ) → times_reached s m ≡ 0 → 0 < times_reached s k → k ≢ m
apart_from s m k c d = λ e. grind (arith, common_steps)

pub count_below : (n : ℕ) (s : Shape) (m : ℕ) → times_reached (below n s) m ≤ times_reached s m
count_below n (Leaf k) m = omega arith
count_below n (Fork k p a b) m =
    let i : _ = count_below n a m in
    let j : _ = count_below n b m in
    grind (arith, common_steps)

pub below_top : (n : ℕ) (s : Shape) → top s ≡ n → below n s ≡ s
below_top n (Leaf k) e = refl
below_top n (Fork k p a b) e = grind (arith, common_steps)

pub pick : {A : Type 0} (b : Bool) → (b ≡ true → A) → (b ≡ false → A) → A
pick true f g = f refl
pick false f g = g refl

pub leaf_top : (n m : ℕ) → 0 < times_reached (Leaf m) n → m ≡ n
leaf_top n m c = grind (arith, common_steps)

-- where a window below the top of a pair stands: what is below it, and the tree without it
pub data Cut (n m : ℕ) (p : p.Pair) (a b : Shape) : Type 0 where
  First : top a ≡ n → below n (Fork m p a b) ≡ a → tree_without n (Fork m p a b) ≡ b
      → Cut n m p a b
  Second : top a ≢ n → top b ≡ n → below n (Fork m p a b) ≡ b
      → tree_without n (Fork m p a b) ≡ a → Cut n m p a b
  InFirst : top a ≢ n → 0 < times_reached a n → below n (Fork m p a b) ≡ below n a
      → tree_without n (Fork m p a b)
      ≡ Fork m (record p { first = top (tree_without n a) }) (tree_without n a) b
      → Cut n m p a b
  InSecond : top b ≢ n → 0 < times_reached b n → below n (Fork m p a b) ≡ below n b
      → tree_without n (Fork m p a b)
      ≡ Fork m (record p { second = top (tree_without n b) }) a (tree_without n b)
      → Cut n m p a b

pub cut_at : (n m : ℕ) (p : p.Pair) (a b : Shape) → times_reached (Fork m p a b) n ≤ 1 → m ≢ n
    → 0 < times_reached (Fork m p a b) n → Cut n m p a b
cut_at n m p a b d h c =
    let mn : (m == n) ≡ false = grind (arith, common_steps, h) in
    let ta : 0 < times_reached a (top a) = count_top a in
    let tb : 0 < times_reached b (top b) = count_top b in
    pick (top a == n)
    (λ e. (let an : nat_lt 0 (times_reached a n) ≡ true = grind (arith, common_steps) in
    First (eqb-true _ _ e) (rw (mn, an) (below_top n a (eqb-true _ _ e))) (rw e refl)))
    (λ e. pick (top b == n)
    (λ f. (let an : nat_lt 0 (times_reached a n) ≡ false = grind (arith, common_steps) in
    Second (eqb-false _ _ e) (eqb-true _ _ f) (rw (mn, an) (below_top n b (eqb-true _ _ f)))
    (rw (e, f) refl)))
    (λ f. pick (nat_lt 0 (times_reached a n))
    (λ g. InFirst (eqb-false _ _ e) (grind (arith, common_steps)) (rw (mn, g) refl)
    (rw (e, f, g) refl))
    (λ g. InSecond (eqb-false _ _ f) (grind (arith, common_steps)) (rw (mn, g) refl)
    (rw (e, f, g) refl))))

relift-first : (pair other above m u c : ℕ) (p : p.Pair)
    → m ≢ other → p.second ≢ pair → (p.first ≡ pair → m ≡ above)
    → c ≡ (if p.first == pair then other else p.first)
    → relift pair other above m (u, Some p) ≡ (u, Some (record p { first = c }))
relift-first pair other above m u c p h g f e = grind (arith, common_steps)

relift-second : (pair other above m u c : ℕ) (p : p.Pair)
    → m ≢ other → p.first ≢ pair → (p.second ≡ pair → m ≡ above)
    → c ≡ (if p.second == pair then other else p.second)
    → relift pair other above m (u, Some p) ≡ (u, Some (record p { second = c }))
relift-second pair other above m u c p h g f e = grind (arith, common_steps)

module _ (ws vs : List Window) (n : ℕ) (sub : Shape) (pair other above : ℕ)
    (k : Cuts ws vs n sub pair other above) where
  -- a part that has neither window is spelled as before
  spells-kept : (s : Shape) (up : ℕ) → times_reached s pair ≡ 0 → times_reached s other ≡ 0
      → ((m : ℕ) → 0 < times_reached s m → times_reached sub m ≡ 0)
      → SpellsTree ws up s → SpellsTree vs up s
  spells-kept (Leaf m) up cp co d t =
      k.kept m _ t (d m (count_top (Leaf m))) (apart_from (Leaf m) pair m cp (count_top (Leaf m)))
      ∙ ap Some (grind (arith, common_steps))
  spells-kept (Fork m p a b) up cp co d t = (
    k.kept m _ t.0 (d m (count_top (Fork m p a b)))
        (apart_from (Fork m p a b) pair m cp (count_top (Fork m p a b)))
        ∙ ap Some (relinked_same other above above pair other m up p
        (apart_from (Fork m p a b) other m co (count_top (Fork m p a b)))
        (λ e. not_top a pair (omega (arith, cp)) (sym t.1 ∙ e))
        (λ e. not_top b pair (omega (arith, cp)) (sym t.2 ∙ e))),
    t.1,
    t.2,
    spells-kept a m (omega (arith, cp)) (omega (arith, co)) (λ j l. d j (omega (arith, l))) t.3,
    spells-kept b m (omega (arith, cp)) (omega (arith, co)) (λ j l. d j (omega (arith, l))) t.4,
  )

  -- the sibling with all below it, under the parent of the pair
  spells-lifted : (s : Shape) (up : ℕ) → top s ≡ other → ((m : ℕ) → times_reached s m ≤ 1)
      → times_reached s pair ≡ 0
      → ((m : ℕ) → 0 < times_reached s m → times_reached sub m ≡ 0)
      → SpellsTree ws up s → SpellsTree vs above s
  spells-lifted (Leaf m) up e c cp d t =
      k.kept m _ t (d m (count_top (Leaf m))) (apart_from (Leaf m) pair m cp (count_top (Leaf m)))
      ∙ ap Some (grind (arith, common_steps))
  spells-lifted (Fork m p a b) up e c cp d t =
      let co : times_reached (Fork m p a b) other ≤ 1 = c other in
      let ca : times_reached a other ≡ 0 = grind (arith, common_steps) in
      let cb : times_reached b other ≡ 0 = grind (arith, common_steps) in (
        k.kept m _ t.0 (d m (count_top (Fork m p a b)))
            (apart_from (Fork m p a b) pair m cp (count_top (Fork m p a b)))
            ∙ ap Some (relinked_top other above above pair other m up p e
            (λ e. not_top a pair (omega (arith, cp)) (sym t.1 ∙ e))
            (λ e. not_top b pair (omega (arith, cp)) (sym t.2 ∙ e))),
        t.1,
        t.2,
        spells-kept a m (omega (arith, cp)) ca (λ j l. d j (omega (arith, l))) t.3,
        spells-kept b m (omega (arith, cp)) cb (λ j l. d j (omega (arith, l))) t.4,
      )

  -- where the first window is the one that goes, the second is its sibling, and the other way
  first-goes : (m : ℕ) (p : p.Pair) (a b : Shape) (up : ℕ) → SpellsTree ws up (Fork m p a b)
      → top a ≡ n → (m ≡ pair) × (other ≡ top b)
  first-goes m p a b up t i =
      let pm : m ≡ pair = k.under (top a) _ i (spells_top ws a m t.3) in
      let ot : other ≡ sibling p n = k.beside m up p pm t.0 in
      let t1 : p.first ≡ top a = t.1 in
      let t2 : p.second ≡ top b = t.2 in
      (pm, grind (arith, common_steps))

  second-goes : (m : ℕ) (p : p.Pair) (a b : Shape) (up : ℕ) → SpellsTree ws up (Fork m p a b)
      → top a ≢ n → top b ≡ n → (m ≡ pair) × (other ≡ top a)
  second-goes m p a b up t e i =
      let pm : m ≡ pair = k.under (top b) _ i (spells_top ws b m t.4) in
      let ot : other ≡ sibling p n = k.beside m up p pm t.0 in
      let t1 : p.first ≡ top a = t.1 in
      let t2 : p.second ≡ top b = t.2 in
      (pm, grind (arith, common_steps))

  -- the pair and the sibling stand where the window does
  inside : (s : Shape) (up : ℕ) → SpellsTree ws up s → ((m : ℕ) → times_reached s m ≤ 1)
      → top s ≢ n → 0 < times_reached s n
      → (0 < times_reached s pair) × (0 < times_reached s other)
  inside (Leaf m) up t d h c = absurd (h (leaf_top n m c))
  inside (Fork m p a b) up t d h c =
      let ta : 0 < times_reached a (top a) = count_top a in
      let tb : 0 < times_reached b (top b) = count_top b in
      elim (cut_at n m p a b (d n) h c) [
        | First i l w ↦
            let g = first-goes m p a b up t i in
            (grind (arith, common_steps, g.0), grind (arith, common_steps, g.1))
        | Second j i l w ↦
            let g = second-goes m p a b up t j i in
            (grind (arith, common_steps, g.0), grind (arith, common_steps, g.1))
        | InFirst i ca l w ↦
            let g = inside a m t.3 (λ x. omega (arith, d x)) i ca in
            (omega (arith, g.0), omega (arith, g.1))
        | InSecond i cb l w ↦
            let g = inside b m t.4 (λ x. omega (arith, d x)) i cb in
            (omega (arith, g.0), omega (arith, g.1))
      ]

  pub top_cut : (s : Shape) (up : ℕ) → SpellsTree ws up s → ((m : ℕ) → times_reached s m ≤ 1)
      → top s ≢ n → 0 < times_reached s n
      → top (tree_without n s) ≡ (if top s == pair then other else top s)
  top_cut (Leaf m) up t d h c = absurd (h (leaf_top n m c))
  top_cut (Fork m p a b) up t d h c =
      let dp : times_reached (Fork m p a b) pair ≤ 1 = d pair in
      elim (cut_at n m p a b (d n) h c) [
        | First i l w ↦
            let g = first-goes m p a b up t i in
            ap top w ∙ grind (arith, common_steps, g.0, g.1)
        | Second j i l w ↦
            let g = second-goes m p a b up t j i in
            ap top w ∙ grind (arith, common_steps, g.0, g.1)
        | InFirst i ca l w ↦
            let g = inside a m t.3 (λ x. omega (arith, d x)) i ca in
            ap top w ∙ grind (arith, common_steps, g.0)
        | InSecond i cb l w ↦
            let g = inside b m t.4 (λ x. omega (arith, d x)) i cb in
            ap top w ∙ grind (arith, common_steps, g.0)
      ]

  -- what is left, what goes and the pair are the whole
  pub count_cut : (s : Shape) (up : ℕ) → SpellsTree ws up s → ((m : ℕ) → times_reached s m ≤ 1)
      → top s ≢ n → 0 < times_reached s n → (j : ℕ)
      → times_reached (tree_without n s) j + times_reached (below n s) j
      + (if pair == j then 1 else 0)
      ≡ times_reached s j
  count_cut (Leaf m) up t d h c j = absurd (h (leaf_top n m c))
  count_cut (Fork m p a b) up t d h c j =
      let whole = λ (x y : Shape) (l : below n (Fork m p a b) ≡ x)
      (w : tree_without n (Fork m p a b) ≡ y).
      ap (λ z. times_reached z j + times_reached (below n (Fork m p a b)) j
      + (if pair == j then 1 else 0)) w
      ∙ ap (λ z. times_reached y j + times_reached z j + (if pair == j then 1 else 0)) l in
      elim (cut_at n m p a b (d n) h c) [
        | First i l w ↦
            let g = (first-goes m p a b up t i).0 in
            whole a b l w ∙ grind (arith, common_steps, g)
        | Second f i l w ↦
            let g = (second-goes m p a b up t f i).0 in
            whole b a l w ∙ grind (arith, common_steps, g)
        | InFirst i ca l w ↦
            let g = count_cut a m t.3 (λ x. omega (arith, d x)) i ca j in
            whole (below n a) _ l w ∙ omega (arith, g)
        | InSecond i cb l w ↦
            let g = count_cut b m t.4 (λ x. omega (arith, d x)) i cb j in
            whole (below n b) _ l w ∙ omega (arith, g)
      ]

  -- the tree without the window is spelled
  pub spells_cut : (s : Shape) (up : ℕ) → SpellsTree ws up s → ((m : ℕ) → times_reached s m ≤ 1)
      → top s ≢ n → 0 < times_reached s n
      → ((j : ℕ) → times_reached sub j ≡ times_reached (below n s) j)
      → SpellsTree vs up (tree_without n s)
  spells_cut (Leaf m) up t d h c e = absurd (h (leaf_top n m c))
  spells_cut (Fork m p a b) up t d h c e =
      let dm : times_reached (Fork m p a b) m ≤ 1 = d m in
      let dp : times_reached (Fork m p a b) pair ≤ 1 = d pair in
      let dr : times_reached (Fork m p a b) other ≤ 1 = d other in
      let am : times_reached a m ≡ 0 = grind (arith, common_steps) in
      let bm : times_reached b m ≡ 0 = grind (arith, common_steps) in
      let t1 : p.first ≡ top a = t.1 in
      let t2 : p.second ≡ top b = t.2 in
      let gone = λ (x : Shape) (l : below n (Fork m p a b) ≡ x) (j : ℕ).
      e j ∙ ap (λ z. times_reached z j) l in
      elim (cut_at n m p a b (d n) h c) [
        | First i l w ↦
            let g = first-goes m p a b up t i in
            rw (w, k.over m _ g.0 t.0)
            (spells-lifted b m (sym g.1) (λ j. omega (arith, d j))
            (ap (times_reached b) (sym g.0) ∙ bm) (λ j q. gone a l j ∙ omega (arith, d j, q)) t.4)
        | Second f i l w ↦
            let g = second-goes m p a b up t f i in
            rw (w, k.over m _ g.0 t.0)
            (spells-lifted a m (sym g.1) (λ j. omega (arith, d j))
            (ap (times_reached a) (sym g.0) ∙ am) (λ j q. gone b l j ∙ omega (arith, d j, q)) t.3)
        | InFirst i ca l w ↦
            let g = inside a m t.3 (λ x. omega (arith, d x)) i ca in
            let i0 : 0 < times_reached a pair = g.0 in
            let i1 : 0 < times_reached a other = g.1 in
            let bp : times_reached b pair ≡ 0 = omega arith in
            let br : times_reached b other ≡ 0 = omega arith in
            let la : times_reached (below n a) m ≤ times_reached a m = count_below n a m in
            let tc = top_cut a m t.3 (λ x. omega (arith, d x)) i ca in
            subst (SpellsTree vs up) (sym w) (
              k.kept m _ t.0 (gone (below n a) l m ∙ omega arith)
                  (λ z. grind (arith, common_steps, z))
                  ∙ ap Some (relift-first pair other above m up (top (tree_without n a)) p
                  (λ z. grind (arith, common_steps, z)) (λ z. not_top b pair bp (sym t.2 ∙ z))
                  (λ z. k.over (top a) _ (sym t.1 ∙ z) (spells_top ws a m t.3))
                  (grind (arith, common_steps, tc))),
              refl,
              t.2,
              spells_cut a m t.3 (λ x. omega (arith, d x)) i ca (gone (below n a) l),
              spells-kept b m bp br
                  (λ j q. gone (below n a) l j ∙ omega (arith, d j, q, count_below n a j)) t.4,
            )
        | InSecond i cb l w ↦
            let g = inside b m t.4 (λ x. omega (arith, d x)) i cb in
            let i0 : 0 < times_reached b pair = g.0 in
            let i1 : 0 < times_reached b other = g.1 in
            let ap0 : times_reached a pair ≡ 0 = omega arith in
            let ar : times_reached a other ≡ 0 = omega arith in
            let lb : times_reached (below n b) m ≤ times_reached b m = count_below n b m in
            let tc = top_cut b m t.4 (λ x. omega (arith, d x)) i cb in
            subst (SpellsTree vs up) (sym w) (
              k.kept m _ t.0 (gone (below n b) l m ∙ omega arith)
                  (λ z. grind (arith, common_steps, z))
                  ∙ ap Some (relift-second pair other above m up (top (tree_without n b)) p
                  (λ z. grind (arith, common_steps, z)) (λ z. not_top a pair ap0 (sym t.1 ∙ z))
                  (λ z. k.over (top b) _ (sym t.2 ∙ z) (spells_top ws b m t.4))
                  (grind (arith, common_steps, tc))),
              t.1,
              refl,
              spells-kept a m ap0 ar
                  (λ j q. gone (below n b) l j ∙ omega (arith, d j, q, count_below n b j)) t.3,
              spells_cut b m t.4 (λ x. omega (arith, d x)) i cb (gone (below n b) l),
            )
      ]

-- the pair above a window isn't below it
pub outside : (ws : List Window) (n : ℕ) (s : Shape) (up : ℕ)
    → SpellsTree ws up s → ((m : ℕ) → times_reached s m ≤ 1)
    → top s ≢ n → 0 < times_reached s n
    → (times_reached (below n s) (parent_of ws n) ≡ 0)
    × (node_of ws (parent_of ws n) ≡ Some (parent_of ws (parent_of ws n), Some (pair_above n s)))
    × (0 < times_reached s (parent_of ws n))
outside ws n (Leaf m) up t d h c = absurd (h (leaf_top n m c))
outside ws n (Fork m p a b) up t d h c =
    let mn : (m == n) ≡ false = grind (arith, common_steps) in
    let dn : times_reached (Fork m p a b) n ≤ 1 = d n in
    let dm : times_reached (Fork m p a b) m ≤ 1 = d m in
    let dq : times_reached (Fork m p a b) (parent_of ws n) ≤ 1 = d (parent_of ws n) in
    let ta : 0 < times_reached a (top a) = count_top a in
    let tb : 0 < times_reached b (top b) = count_top b in
    let nm : node_of ws m ≡ Some (up, Some p) = t.0 in
    let um : up ≡ parent_of ws m = node_parent ws m _ t.0 in
    let pa : m ≡ parent_of ws (top a) = node_parent ws (top a) _ (spells_top ws a m t.3) in
    let pb : m ≡ parent_of ws (top b) = node_parent ws (top b) _ (spells_top ws b m t.4) in
    pick (top a == n)
    (λ e. (let i : top a ≡ n = eqb-true _ _ e in
    let l : below n a ≡ a = below_top n a i in
    let q : m ≡ parent_of ws n = pa ∙ ap (parent_of ws) i in
    (grind (arith, common_steps), grind (arith, common_steps), grind (arith, common_steps))))
    (λ e. pick (top b == n)
    (λ f. (let i : top b ≡ n = eqb-true _ _ f in
    let l : below n b ≡ b = below_top n b i in
    let q : m ≡ parent_of ws n = pb ∙ ap (parent_of ws) i in
    (grind (arith, common_steps), grind (arith, common_steps), grind (arith, common_steps))))
    (λ f. pick (nat_lt 0 (times_reached a n))
    (λ g. (let i : _ =
    outside ws n a m t.3 (λ x. omega (arith, d x)) (eqb-false _ _ e) (grind (arith, common_steps)) in
    let i0 : _ = i.0 in let i1 : _ = i.1 in let i2 : _ = i.2 in
    (grind (arith, common_steps), grind (arith, common_steps), grind (arith, common_steps))))
    (λ g. (let i : _ =
    outside ws n b m t.4 (λ x. omega (arith, d x)) (eqb-false _ _ f) (grind (arith, common_steps)) in
    let i0 : _ = i.0 in let i1 : _ = i.1 in let i2 : _ = i.2 in
    (grind (arith, common_steps), grind (arith, common_steps), grind (arith, common_steps))))))
