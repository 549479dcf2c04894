-- Windows that are placed have their rectangles, and those that have them stay as they are.
use Rattle.std.proofs.Common.{◌≡◌, inl, inr, ℕ, zero, suc, ◌<◌}
use Rattle.std.proofs.Common.{Bool, true, false, List, [], ◌∷◌, length, map, refl, sym, ap}
use Rattle.std.proofs.Common.{◌∙◌, subst, arith, Option, Some, None, is_some, cond}
use Rattle.std.proofs.lemmas.Grind.{common_steps}
use Rattle.std.proofs.lemmas.Bool.{and_parts, cases_eq}
use Rattle.glk_numbers.specs.Numbered.{changed_at, found}
use Rattle.glk_windows.specs.Areas.{HaveAreas, PlacesWindows}
use Rattle.glk_windows.specs.Laws.{window_area, nowhere}
use Rattle.glk_windows.specs.OneTree.{Shape, Leaf, Fork, IsTree, times_reached}
use Rattle.glk_windows.specs.Placing.{pair_divided, first_part, has_size, place}
use Rattle.glk_windows.specs.Placing.{windows_placed, second_part, is_shown_content, with_area}
use Rattle.glk_windows.specs.Resizing.{content_sized, sized}
use Rattle.glk_windows.specs.Tree.{WindowTree, pair_content}
use Rattle.glk_windows.specs.Tree.{pair_in, pair_of, read_window, set_at, window_at}
use Rattle.glk_windows.specs.Valid.{IsOrdered, IsValidTree, are_sound_windows}
use Rattle.glk_windows.specs.Valid.{is_sound_window, is_sound_content}
use Rattle.glk_windows.specs.declared.window.Area.{Area}
use Rattle.glk_windows.specs.declared.window.Content.{Content}
use Rattle.glk_windows.specs.declared.window.Content.TheVariants.{Grid}
use Rattle.glk_windows.specs.declared.window.Pair as p
use Rattle.glk_windows.specs.declared.window.Window.{Window}
use Rattle.glk_windows.proofs.SameLemmas.{node_in, node_read, read_map, read_set_at}
use Rattle.glk_windows.proofs.SpreadLemmas.{Spread, leaf_is, pair_placed, part_of, size_placed}
use Rattle.glk_windows.proofs.SpreadLemmas.{spread_top, spread_tree}
use Rattle.glk_windows.proofs.ValidLemmas.{SomeTree, some_tree}

-- ---- what rectangles are read of

abbrev pub Placement : Type 0
Placement = Area × Option p.Pair × Bool

abbrev placement_in : Window → Placement
placement_in w = (w.area, pair_in w, is_shown_content w.content)

abbrev pub placement : Window → Option Placement
placement w = Some (placement_in w)

abbrev pub placement_at : List Window → ℕ → Option Placement
placement_at ws n = read_window None placement (window_at ws n)

-- what is read of the placement alone is alike where that is
read-alike : {A : Type 0} (none : A) (of : Placement → A) (o v : Option Window)
    → read_window None placement v ≡ read_window None placement o
    → read_window none (λ w. of (placement_in w)) v ≡ read_window none (λ w. of (placement_in w)) o
read-alike none of None None e = refl
read-alike none of (Some w) (Some v) e =
    let i : placement_in v ≡ placement_in w = cc in ap of i
read-alike none of o v e = cc

there-alike : (o v : Option Window) → read_window None placement v ≡ read_window None placement o
    → is_some v ≡ is_some o
there-alike None None e = refl
there-alike (Some w) (Some v) e = refl
there-alike o v e = cc

-- these windows of all pairs have these parts of the pair's rectangle
abbrev Gives : List Window → (p.Pair → ℕ) → (p.Pair → Bool → Area → Area) → Type 0
Gives ws child part =
    (n : ℕ) (q : p.Pair) → pair_of ws n ≡ Some q
    → window_area ws (child q) ≡ part q (has_size ws q.key) (window_area ws n)

-- windows in which these are as they were
module _ (ws vs : List Window) (same : (m : ℕ) → placement_at vs m ≡ placement_at ws m) where
  area-alike : (m : ℕ) → window_area vs m ≡ window_area ws m
  area-alike m = read-alike nowhere (λ q. q.0) (window_at ws m) (window_at vs m) (same m)

  gives-alike : (child : p.Pair → ℕ) (part : p.Pair → Bool → Area → Area)
      → Gives ws child part → Gives vs child part
  gives-alike child part h n q e =
      area-alike (child q)
      ∙ h n q (sym (read-alike None (λ k. k.1) (window_at ws n) (window_at vs n) (same n)) ∙ e)
      ∙ ap (λ b. part q b (window_area ws n))
      (sym (read-alike false (λ k. k.2) (window_at ws q.key) (window_at vs q.key) (same q.key)))
      ∙ ap (part q (has_size vs q.key)) (sym (area-alike n))

pub areas-alike : (t u : WindowTree) (cols rows : ℕ) → u.root ≡ t.root
    → ((m : ℕ) → placement_at u.slots m ≡ placement_at t.slots m) → HaveAreas t cols rows
    → HaveAreas u cols rows
areas-alike t u cols rows root same h = record {
  root = λ there.
      ap (window_area u.slots) root ∙ area-alike t.slots u.slots same t.root
      ∙ h.root (sym (there-alike (window_at t.slots t.root) (window_at u.slots t.root)
      (same t.root)) ∙ ap (λ n. is_some (window_at u.slots n)) (sym root) ∙ there);
  first = gives-alike t.slots u.slots same (λ q. q.first) first_part h.first;
  second = gives-alike t.slots u.slots same (λ q. q.second) second_part h.second;
}

-- one window changed, or all
pub placement-changed : (f : Window → Window) → ((w : Window) → (f w).number ≡ w.number)
    → ((w : Window) → placement (f w) ≡ placement w) → (ws : List Window) (n m : ℕ)
    → placement_at (set_at f ws n) m ≡ placement_at ws m
placement-changed f number same ws n m = read_set_at None placement f number same ws n m

pub placement-map : (f : Window → Window) → ((w : Window) → (f w).number ≡ w.number)
    → ((w : Window) → placement (f w) ≡ placement w) → (ws : List Window) (m : ℕ)
    → placement_at (map f ws) m ≡ placement_at ws m
placement-map f number same ws m = read_map None placement f number same ws m

-- a change of content that keeps a pair's windows, and which windows show something
abbrev pub SamePlacement : (Content → Content) → Type 0
SamePlacement f =
    (c : Content)
    → (pair_content (f c) ≡ pair_content c) × (is_shown_content (f c) ≡ is_shown_content c)

pub content-placed : (f : Content → Content) → SamePlacement f → (w : Window)
    → placement (record w { content = f w.content }) ≡ placement w
content-placed f same w =
    let e = same w.content in
    ap (λ (o : Option p.Pair). placement_of o (is_shown_content (f w.content))) e.0
    ∙ ap (placement_of (pair_in w)) e.1
  where
    placement_of : Option p.Pair → Bool → Option Placement
    placement_of o b = Some (w.area, o, b)

-- ---- placing gives the rectangles

-- the two windows of a pair have their parts of its rectangle
record PartsOf (ws : List Window) (at : ℕ → Area) (m : ℕ) (q : p.Pair) : Type 0 where
  first : at q.first ≡ first_part q (has_size ws q.key) (at m)
  second : at q.second ≡ second_part q (has_size ws q.key) (at m)

spread-parts : (ws : List Window) (at : ℕ → Area) (s : Shape) (r : Area) (m : ℕ) (q : p.Pair)
    → Spread ws at s r → 0 < times_reached s m → pair_of ws m ≡ Some q → PartsOf ws at m q
spread-parts ws at (Leaf n) r m q t c e =
    let x : None ≡ Some q = sym t.1 ∙ ap (pair_of ws) (sym (leaf_is n m c)) ∙ e in absurd cc
spread-parts ws at (Fork n f a b) r m q t c e = elim (cases_eq n m) [
  | inl i ↦
      let x : Some t.1 ≡ Some q = sym t.2 ∙ ap (pair_of ws) i ∙ e in
      let is : t.1 ≡ q = cc in
      let z : Bool = has_size ws t.1.key in
      subst (λ k. PartsOf ws at k q) i (subst (λ k. PartsOf ws at n k) is (record {
        first = ap at t.3 ∙ spread_top ws at a _ t.5 ∙ ap (first_part t.1 z) (sym t.0);
        second = ap at t.4 ∙ spread_top ws at b _ t.6 ∙ ap (second_part t.1 z) (sym t.0);
      }))
  | inr i ↦ elim (part_of n m f a b i c) [
    | inl g ↦ spread-parts ws at a _ m q t.5 g e
    | inr g ↦ spread-parts ws at b _ m q t.6 g e
  ]
]

-- ---- the windows of a tree

area-nil : (d : ℕ) (n : ℕ) (r : Area) → windows_placed d [] n r ≡ []
unfolding windows_placed changed_at found
area-nil zero n r = refl
area-nil (suc d) n r = refl

none-given : (t : WindowTree) (cols rows : ℕ) → t.slots ≡ []
    → HaveAreas (place t cols rows) cols rows
unfolding found
none-given t cols rows e =
    let r : Area = record { x = 0; y = 0; w = cols; h = rows } in
    let none : windows_placed (length t.slots) t.slots t.root r ≡ [] =
    ap (λ ws. windows_placed (length ws) ws t.root r) e ∙ area-nil 0 t.root r in
    subst (λ ws. HaveAreas (record t { slots = ws }) cols rows) (sym none) (record {
      root = λ there. absurd cc;
      first = λ n q f. absurd cc;
      second = λ n q f. absurd cc;
    })

live-count : (o : Option Window) (k : ℕ) (q : p.Pair)
    → k ≡ cond (is_some (read_window None node_in o)) 1 0 → read_window None pair_in o ≡ Some q
    → 0 < k
live-count None k q e f = cc
live-count (Some w) k q e f = omega (arith, e)

some-given : (t : WindowTree) (s : Shape) (cols rows : ℕ) → IsOrdered t → IsTree t (Some s)
    → HaveAreas (place t cols rows) cols rows
some-given t s cols rows o h =
    let ws : List Window = t.slots in
    let r : Area = record { x = 0; y = 0; w = cols; h = rows } in
    let vs : List Window = (place t cols rows).slots in
    let g : Spread ws (window_area vs) s r = spread_tree t s cols rows o h in
    let sizes : (n : ℕ) → has_size vs n ≡ has_size ws n =
    λ n. size_placed (length ws) ws t.root r n in
    let of : (n : ℕ) (q : p.Pair) → pair_of vs n ≡ Some q → PartsOf ws (window_area vs) n q =
    λ n q e. let f : pair_of ws n ≡ Some q =
    sym (pair_placed (length ws) ws t.root r n) ∙ e in
    spread-parts ws (window_area vs) s r n q g
    (live-count (window_at ws n) (times_reached s n) q
    (h.2 n ∙ ap (λ o. cond (is_some o) 1 0) (node_read ws n)) f) f in
    record {
      root = λ there. ap (window_area vs) h.0 ∙ spread_top ws (window_area vs) s r g;
      first = λ n q e. (of n q e).first
          ∙ ap (λ z. first_part q z (window_area vs n)) (sym (sizes q.key));
      second = λ n q e. (of n q e).second
          ∙ ap (λ z. second_part q z (window_area vs n)) (sym (sizes q.key));
    }

tree-given : (t : WindowTree) (cols rows : ℕ) → IsOrdered t → SomeTree t
    → HaveAreas (place t cols rows) cols rows
tree-given t cols rows o (None, h, k) = none-given t cols rows h.1
tree-given t cols rows o (Some s, h, k) = some-given t s cols rows o h

-- ---- windows that have their rectangles stay as they are

content-same : (c : Content) (a : Area) → is_sound_content c a ≡ true → content_sized c a ≡ c
content-same (Grid g) a e = grind (arith, common_steps)
content-same c a e = refl

window-same : (w : Window) → is_sound_window w ≡ true → sized w.area w ≡ w
window-same w e = ap (λ c. record w { content = c }) (content-same w.content w.area e)

-- a window that has its rectangle already
area-same : (ws : List Window) (n : ℕ) (a : Area)
    → are_sound_windows ws ≡ true → window_area ws n ≡ a
    → with_area ws n a ≡ ws
unfolding changed_at found
area-same [] n a s e = refl
area-same (w ∷ ws) n a s e =
    let k = and_parts (is_sound_window w) (are_sound_windows ws) s in
    let i : sized w.area w ≡ w = window-same w k.0 in
    let j : window_area ws n ≡ a → with_area ws n a ≡ ws = area-same ws n a k.1 in
    grind (arith, common_steps)

placed-again : (t : WindowTree) (cols rows : ℕ) → HaveAreas t cols rows
    → are_sound_windows t.slots ≡ true → (d n : ℕ) (a : Area) → window_area t.slots n ≡ a
    → windows_placed d t.slots n a ≡ t.slots
unfolding windows_placed
placed-again t cols rows h s zero n a e = refl
placed-again t cols rows h s (suc d) n a e =
    ap (λ ws. pair_divided (windows_placed d) ws (pair_of t.slots n) a) (area-same t.slots n a s e)
    ∙ parts (pair_of t.slots n) refl (placed-again t cols rows h s d)
  where
    parts : (o : Option p.Pair) → pair_of t.slots n ≡ o
        → ((m : ℕ) (b : Area) → window_area t.slots m ≡ b → windows_placed d t.slots m b ≡ t.slots)
        → pair_divided (windows_placed d) t.slots o a ≡ t.slots
    parts None f again = refl
    parts (Some q) f again =
        ap (λ ws. windows_placed d ws q.second (second_part q (has_size t.slots q.key) a))
        (again q.first (first_part q (has_size t.slots q.key) a)
        (h.first n q f ∙ ap (first_part q (has_size t.slots q.key)) e))
        ∙ again q.second (second_part q (has_size t.slots q.key) a)
        (h.second n q f ∙ ap (second_part q (has_size t.slots q.key)) e)

unchanged : (us : List Window) (n : ℕ) (a : Area) → window_at us n ≡ None
    → with_area us n a ≡ us
unfolding changed_at found
unchanged [] n a f = refl
unchanged (w ∷ us) n a f =
    let k : window_at us n ≡ None → with_area us n a ≡ us = unchanged us n a in
    grind (arith, common_steps)

-- no window of this number is there: nothing is placed
placed-none : (ws : List Window) (d n : ℕ) (a : Area) → window_at ws n ≡ None
    → windows_placed d ws n a ≡ ws
unfolding windows_placed
placed-none ws zero n a e = refl
placed-none ws (suc d) n a e =
    ap (λ o. pair_divided (windows_placed d) (with_area ws n a) (read_window None pair_in o) a) e
    ∙ unchanged ws n a e

again : (t : WindowTree) (cols rows : ℕ) → IsValidTree t → HaveAreas t cols rows
    → place t cols rows ≡ t
again t cols rows v h = ap (λ ws. record t { slots = ws }) (by-root (window_at t.slots t.root) refl)
  where
    r : Area
    r = record { x = 0; y = 0; w = cols; h = rows }

    by-root : (o : Option Window) → window_at t.slots t.root ≡ o
        → windows_placed (length t.slots) t.slots t.root r ≡ t.slots
    by-root None e = placed-none t.slots (length t.slots) t.root r e
    by-root (Some w) e =
        placed-again t cols rows h v.sound (length t.slots) t.root r (h.root (ap is_some e))

pub places_windows : PlacesWindows
places_windows = record {
  gives = λ t cols rows v. tree-given t cols rows v.ordered (some_tree t v);
  again = again;
}
