-- Each call keeps the windows valid.
use Rattle.std.proofs.Common.{◌≡◌, ◌≢◌, inl, inr, ℕ, ◌+◌, ◌≤◌, ◌==◌, ◌||◌, List, []}
use Rattle.std.proofs.Common.{◌∷◌, map, length, refl, sym, ap, ◌∙◌, subst, Option, Some, None}
use Rattle.std.proofs.Common.{option_map, arith, Bool, true, false, if◌then◌else◌}
use Rattle.std.proofs.lemmas.Bool.{cond_both, eqb-false, eqb-true, or_parts}
use Rattle.std.proofs.lemmas.Grind.{common_steps}
use Rattle.glk_numbers.specs.Numbered.{ascends, has}
use Rattle.glk_windows.specs.declared.window.Window.{Window}
use Rattle.glk_windows.specs.declared.window.Pair as pairs
use Rattle.glk_windows.specs.declared.window.Content.{Content}
use Rattle.glk_windows.specs.declared.window.Content.TheVariants.{Pair}
use Rattle.glk_windows.specs.Tree.{WindowTree, IsLive, window_number, set_at}
use Rattle.glk_windows.specs.Tree.{pair_in, pair_content, content_arranged, grid_cursor_moved}
use Rattle.glk_windows.specs.Opening.{MaySplit, split, first_opened, beside_opened}
use Rattle.glk_windows.specs.Closing.{close, echo_ended, unechoed}
use Rattle.glk_windows.specs.Arranging.{is_method, arrange, move_to, stream_set, echo_set}
use Rattle.glk_windows.specs.Output.{put_on_window, clear, begin_turn, window_put, window_cleared}
use Rattle.glk_windows.specs.Output.{window_kept, content_cleared, content_kept, content_put}
use Rattle.glk_windows.specs.Placing.{place}
use Rattle.glk_windows.specs.OneTree.{Shape, Leaf, top, pair_without_key, bare_in, node_of, IsTree}
use Rattle.glk_windows.specs.OneTree.{shape_of, is_tree, tree_without, tree_forked, tree_of, key_in}
use Rattle.glk_windows.specs.OneTree.{pair_key, are_keyed}
use Rattle.glk_windows.specs.Valid.{IsOrdered, IsValidTree, is_sound_content}
use Rattle.glk_windows.specs.Laws.{IsKeyOf, KeepsWindowsValid}
use Rattle.glk_windows.proofs.ArrangeLemmas.{reshaped, keyed_reshaped, keyed_arranged}
use Rattle.glk_windows.proofs.ArrangeLemmas.{none_arranged, tree_arranged}
use Rattle.glk_windows.proofs.CloseLemmas.{tree_close}
use Rattle.glk_windows.proofs.CutLemmas.{node_lower, nil_of, tree_close-root}
use Rattle.glk_windows.proofs.FitLemmas.{Fit, fit_of, fit_set_at, fit_map, fit_placed, fit_close}
use Rattle.glk_windows.proofs.KeyLemmas.{Keyed, keyed_of, are_keyed_of, keyed_on, keyed_cut}
use Rattle.glk_windows.proofs.KeyLemmas.{left_close}
use Rattle.glk_windows.proofs.OneTreeLemmas.{spells_top, once_le, once_at}
use Rattle.glk_windows.proofs.OpeningLemmas.{fit_first, tree_first, new_pair, fit_beside}
use Rattle.glk_windows.proofs.OpeningLemmas.{beside_made, tree_beside, keyed_beside}
use Rattle.glk_windows.proofs.OrderLemmas.{Ascends}
use Rattle.glk_windows.proofs.SameLemmas.{read_set_at, read_map, read_placed, pair_sized, node_in}
use Rattle.glk_windows.proofs.SameLemmas.{same_tree, node_alike, node_placed}
use Rattle.glk_windows.proofs.SoundLemmas.{KeepsSound, sound_arranged, sound_moved, sound_put}
use Rattle.glk_windows.proofs.SoundLemmas.{sound_cleared, sound_kept}
use Rattle.glk_windows.proofs.TestLemmas.{tree_of_test, test_of_tree, tree_found}

node-step : (b : Bool) (x : ℕ × Option pairs.Pair) (h : Bool) (o : Option (ℕ × Option pairs.Pair))
    → (b || h) ≡ true
    → (h ≡ true → (y : ℕ × Option pairs.Pair) × (o ≡ Some y))
    → (y : ℕ × Option pairs.Pair) × ((if b then Some x else o) ≡ Some y)
node-step true x h o e k = (x, refl)
node-step false x h o e k = k e

-- a live window has a place in the tree
pub node_live : (ws : List Window) (n : ℕ) → has window_number ws n ≡ true
    → (x : ℕ × Option pairs.Pair) × (node_of ws n ≡ Some x)
unfolding has
node_live [] n e = cc
node_live (w ∷ ws) n e =
    node-step (w.number == n) (w.parent, bare_in w) (has window_number ws n) (node_of ws n) e
    (node_live ws n)

-- one tree, by the test and by its shape
abbrev pub KeyedBy : List Window → Option Shape → Type 0
KeyedBy ws None = Unit {0}
KeyedBy ws (Some s) = Keyed ws s

abbrev pub SomeTree : WindowTree → Type 0
SomeTree t = (o : Option Shape) × IsTree t o × KeyedBy t.slots o

none-of : (ws : List Window) → (length ws == 0) ≡ true → ws ≡ []
none-of [] e = refl
none-of (w ∷ ws) e = absurd (grind (arith, e))

by-root : (t : WindowTree) (b : Bool) → (t.root == 0) ≡ b
    → (if b then length t.slots == 0 else is_tree t) ≡ true
    → are_keyed t.slots (tree_of t) ≡ true → SomeTree t
by-root t true e h k = (None, (grind (arith, common_steps), none-of t.slots h), tt)
by-root t false e h k = (Some (tree_of t), tree_of_test t h, keyed_of t.slots (tree_of t) k)

pub some_tree : (t : WindowTree) → IsValidTree t → SomeTree t
some_tree t v = by-root t (t.root == 0) refl v.one_tree v.keyed

root-some : (ws : List Window) (z n : ℕ) (x : ℕ × Option pairs.Pair)
    → Ascends 0 ws z → node_of ws n ≡ Some x → (n == 0) ≡ false
root-some ws z n x o e =
    let k : n ≤ 0 → node_of ws n ≡ None = node_lower 0 ws z n o in
    grind (arith, common_steps)

-- valid is: in order, few, sound and one tree
valid-of : (t : WindowTree) → Fit t.slots t.next → SomeTree t → IsValidTree t
unfolding IsOrdered shape_of
valid-of t f (None, h, k) = record {
  ordered = f.ordered;
  one_tree = rw (h.0, h.1) refl;
  keyed = rw (h.0, h.1) refl;
  few = f.few;
  sound = f.sound;
}
valid-of t f (Some s, h, k) = record {
  ordered = f.ordered;
  one_tree = ap (λ b. if b then length t.slots == 0 else is_tree t)
      (ap (λ n. n == 0) h.0
      ∙ root-some t.slots t.next (top s) _ f.ordered (spells_top t.slots s 0 h.1))
      ∙ test_of_tree t s f.ordered h;
  keyed = ap (are_keyed t.slots) (tree_found t s f.ordered h) ∙ are_keyed_of t.slots s k;
  few = f.few;
  sound = f.sound;
}

-- windows that say the same of their tree
same-some : (t u : WindowTree) → SomeTree t → ((m : ℕ) → node_of u.slots m ≡ node_of t.slots m)
    → ((m : ℕ) → pair_key u.slots m ≡ pair_key t.slots m) → u.root ≡ t.root → SomeTree u
same-some t u (None, h, k) f g e =
    (None, (e ∙ h.0, nil_of u.slots (λ m. f m ∙ ap (λ ws. node_of ws m) h.1)), tt)
same-some t u (Some s, h, k) f g e =
    (Some s, same_tree t u s f e h, keyed_on t.slots u.slots s (λ m l. g m) k)

valid-same : (t u : WindowTree) → IsValidTree t
    → ((m : ℕ) → node_of u.slots m ≡ node_of t.slots m)
    → ((m : ℕ) → pair_key u.slots m ≡ pair_key t.slots m) → u.root ≡ t.root
    → Fit u.slots u.next → IsValidTree u
valid-same t u v f h e k = valid-of u k (same-some t u (some_tree t v) f h e)

-- a change that leaves a window its place in the tree, and keeps it sound
record Keeps (f : Window → Window) : Type 0 where
  number : (w : Window) → (f w).number ≡ w.number
  parent : (w : Window) → (f w).parent ≡ w.parent
  pair : (w : Window) → pair_in (f w) ≡ pair_in w
  sound : KeepsSound f

keeps-node : (f : Window → Window) → Keeps f → (w : Window) → node_in (f w) ≡ node_in w
keeps-node f k w =
    ap (λ u. Some (u, bare_in (f w))) (k.parent w)
    ∙ ap (λ o. Some (w.parent, option_map pair_without_key o)) (k.pair w)

content-keeps : (f : Content → Content) → ((c : Content) → pair_content (f c) ≡ pair_content c)
    → ((w : Window) → is_sound_content w.content w.area ≡ true
    → is_sound_content (f w.content) w.area ≡ true)
    → Keeps (λ w. record w { content = f w.content })
content-keeps f p s =
    record { number = λ w. refl; parent = λ w. refl; pair = λ w. p w.content; sound = s }

valid-set_at : (t : WindowTree) (f : Window → Window) (n : ℕ) → Keeps f
    → IsValidTree t → IsValidTree (record t { slots = set_at f t.slots n })
valid-set_at t f n k v =
    valid-same t _ v
    (λ m. node_alike t.slots _ m
    (read_set_at None node_in f k.number (keeps-node f k) t.slots n m))
    (read_set_at 0 (λ w. key_in (pair_in w)) f k.number (λ w. ap key_in (k.pair w)) t.slots n) refl
    (fit_set_at f k.number k.sound t.slots t.next n (fit_of t v))

valid-map : (t : WindowTree) (f : Window → Window) → Keeps f
    → IsValidTree t → IsValidTree (record t { slots = map f t.slots })
valid-map t f k v =
    valid-same t _ v
    (λ m. node_alike t.slots _ m (read_map None node_in f k.number (keeps-node f k) t.slots m))
    (read_map 0 (λ w. key_in (pair_in w)) f k.number (λ w. ap key_in (k.pair w)) t.slots) refl
    (fit_map f k.number k.sound t.slots t.next (fit_of t v))

pair-put : (c : Content) (code style : ℕ) → pair_content (content_put c code style) ≡ pair_content c
pair-put (Pair q) code style = refl
pair-put c code style = refl

pair-cleared : (c : Content) → pair_content (content_cleared c) ≡ pair_content c
pair-cleared (Pair q) = refl
pair-cleared c = refl

pair-kept : (c : Content) → pair_content (content_kept c) ≡ pair_content c
pair-kept (Pair q) = refl
pair-kept c = refl

pair-moved : (c : Content) (x y : ℕ) → pair_content (grid_cursor_moved c x y) ≡ pair_content c
pair-moved (Pair q) x y = refl
pair-moved c x y = refl

valid-put : (t : WindowTree) (n code style : ℕ)
    → IsValidTree t → IsValidTree (put_on_window t n code style)
valid-put t n code style v =
    valid-set_at t (λ w. window_put w code style) n
    (content-keeps (λ c. content_put c code style) (λ c. pair-put c code style)
    (λ w e. sound_put w.content w.area code style e)) v

valid-clear : (t : WindowTree) (n : ℕ) → IsValidTree t → IsValidTree (clear t n)
valid-clear t n v =
    valid-set_at t window_cleared n
    (content-keeps content_cleared pair-cleared (λ w e. sound_cleared w.content w.area e)) v

valid-move_to : (t : WindowTree) (n x y : ℕ) → IsValidTree t → IsValidTree (move_to t n x y)
valid-move_to t n x y v =
    valid-set_at t (λ w. record w { content = grid_cursor_moved w.content x y }) n
    (content-keeps (λ c. grid_cursor_moved c x y) (λ c. pair-moved c x y)
    (λ w e. sound_moved w.content w.area x y e)) v

valid-stream : (t : WindowTree) (n stream : ℕ)
    → IsValidTree t → IsValidTree (stream_set t n stream)
valid-stream t n stream v =
    valid-set_at t (λ w. record w { stream = stream }) n
    (record { number = λ w. refl; parent = λ w. refl; pair = λ w. refl; sound = λ w e. e }) v

valid-echo : (t : WindowTree) (n stream : ℕ) → IsValidTree t → IsValidTree (echo_set t n stream)
valid-echo t n stream v =
    valid-set_at t (λ w. record w { echo = stream }) n
    (record { number = λ w. refl; parent = λ w. refl; pair = λ w. refl; sound = λ w e. e }) v

valid-end_echo : (t : WindowTree) (stream : ℕ)
    → IsValidTree t → IsValidTree (echo_ended t stream)
valid-end_echo t stream v =
    valid-map t (unechoed stream)
    (record { number = λ w. refl; parent = λ w. refl; pair = λ w. refl; sound = λ w e. e }) v

valid-begin_turn : (t : WindowTree) → IsValidTree t → IsValidTree (begin_turn t)
valid-begin_turn t v =
    valid-map t window_kept
    (content-keeps content_kept pair-kept (λ w e. sound_kept w.content w.area e)) v

valid-place : (t : WindowTree) (cols rows : ℕ) → IsValidTree t → IsValidTree (place t cols rows)
valid-place t cols rows v =
    valid-same t _ v (node_placed (length t.slots) t.slots t.root _)
    (read_placed 0 (λ w. key_in (pair_in w)) (λ a w. ap key_in (pair_sized a w.content))
    (length t.slots) t.slots t.root _) refl
    (fit_placed (length t.slots) t.slots t.next t.root _ (fit_of t v))

valid-new : IsValidTree (record { slots = []; next = 1; root = 0 })
unfolding IsOrdered shape_of ascends
valid-new = record {
  ordered = (omega arith, refl);
  one_tree = refl;
  keyed = refl;
  few = omega arith;
  sound = refl;
}

-- a pair divided anew
tree-arranged : (t : WindowTree) (n method size key : ℕ)
    → IsOrdered t → IsKeyOf t n key → SomeTree t → SomeTree (arrange t n method size key)
tree-arranged t n method size key o y (None, h, k) =
    (None, none_arranged t n method size key h, tt)
tree-arranged t n method size key o y (Some s, h, k) = (
  Some (reshaped n method size s),
  tree_arranged t n method size key s h,
  keyed_reshaped _ n method size s (keyed_arranged (key == 0) t n method size key s refl o h y k),
)

valid-arrange : (t : WindowTree) (n method size key : ℕ)
    → IsValidTree t → is_method method ≡ true → IsKeyOf t n key
    → IsValidTree (arrange t n method size key)
valid-arrange t n method size key v m y =
    valid-of _
    (fit_set_at (λ w. record w { content = content_arranged w.content method size key })
    (λ w. refl) (λ w e. sound_arranged w.content w.area method size key m e) t.slots t.next n
    (fit_of t v))
    (tree-arranged t n method size key v.ordered y (some_tree t v))

-- a window opened
pub node_nil : (ws : List Window) (n : ℕ) (x : ℕ × Option pairs.Pair)
    → ws ≡ [] → node_of ws n ≡ Some x → ⊥
node_nil [] n x e f = cc
node_nil (w ∷ ws) n x e f = cc

valid-first : (t : WindowTree) (kind rock : ℕ)
    → IsValidTree t → IsValidTree (first_opened t kind rock).0
valid-first t kind rock v =
    cond_both _ _ _ (λ (u : WindowTree × ℕ). IsValidTree u.0) (λ e. v)
    (λ e. (let root : (t.root == 0) ≡ true = grind (arith, common_steps, e) in
    let none : t.slots ≡ [] =
    none-of t.slots (subst (λ b. (if b then length t.slots == 0 else is_tree t) ≡ true) root
    v.one_tree) in
    valid-of _ (fit_first t kind rock none (fit_of t v))
    (Some (Leaf t.next), tree_first t kind rock none, tt)))

some-beside : (t : WindowTree) (from method size kind rock : ℕ) (x : ℕ × Option pairs.Pair)
    → IsOrdered t → node_of t.slots from ≡ Some x → SomeTree t
    → SomeTree (beside_made t from method size kind rock)
some-beside t from method size kind rock x o l (None, h, k) =
    absurd (node_nil t.slots from x h.1 l)
some-beside t from method size kind rock x o l (Some s, h, k) = (
  Some (tree_forked from (t.next + 1) (new_pair method size 0 from t.next) t.next s),
  tree_beside t from method size kind rock s x o l h,
  keyed_beside t from method size kind rock s o h k,
)

valid-beside : (t : WindowTree) (from method size kind rock : ℕ) → IsValidTree t → IsLive t from
    → is_method method ≡ true → IsValidTree (beside_opened t from method size kind rock).0
valid-beside t from method size kind rock v l m =
    let x : _ = node_live t.slots from l in
    cond_both _ _ _ (λ (u : WindowTree × ℕ). IsValidTree u.0) (λ e. v)
    (λ e. valid-of _
    (fit_beside t from method size kind rock m (or_parts _ _ e).1 (fit_of t v))
    (some-beside t from method size kind rock x.0 v.ordered x.1 (some_tree t v)))

valid-split : (t : WindowTree) (from method size kind rock : ℕ) → IsValidTree t
    → MaySplit t from method → IsValidTree (split t from method size kind rock).0
valid-split t from method size kind rock v (inl z) =
    subst (λ n. IsValidTree (split t n method size kind rock).0) (sym z)
    (valid-first t kind rock v)
valid-split t from method size kind rock v (inr l) =
    cond_both (from == 0) _ _ (λ (u : WindowTree × ℕ). IsValidTree u.0)
    (λ e. valid-first t kind rock v) (λ e. valid-beside t from method size kind rock v l.0 l.1)

-- a window closed
tree-close-if : (t : WindowTree) (s : Shape) (n : ℕ) (x : ℕ × Option pairs.Pair) (b : Bool)
    → (top s == n) ≡ b
    → IsOrdered t → IsTree t (Some s) → Keyed t.slots s
    → node_of t.slots n ≡ Some x → SomeTree (close t n)
tree-close-if t s n x true e o h k l =
    let i : t.root ≡ n = h.0 ∙ eqb-true (top s) n e in
    (None, subst (λ m. IsTree (close t m) None) i (tree_close-root t s o h), tt)
tree-close-if t s n x false e o h k l =
    let i : top s ≢ n = eqb-false (top s) n e in (
      Some (tree_without n s),
      tree_close t s n x o h l i,
      keyed_cut t.slots _ n s (λ m. once_le _ _ (h.2 m)) i (omega (arith, once_at _ _ x l (h.2 n)))
          (left_close t s n x o h l) k,
    )

tree-close : (t : WindowTree) (n : ℕ) (x : ℕ × Option pairs.Pair)
    → IsOrdered t → node_of t.slots n ≡ Some x
    → SomeTree t → SomeTree (close t n)
tree-close t n x o l (None, h, k) = absurd (node_nil t.slots n x h.1 l)
tree-close t n x o l (Some s, h, k) = tree-close-if t s n x (top s == n) refl o h k l

valid-close : (t : WindowTree) (n : ℕ) → IsValidTree t → IsLive t n → IsValidTree (close t n)
valid-close t n v l =
    let x : _ = node_live t.slots n l in
    valid-of (close t n) (fit_close t n (fit_of t v))
    (tree-close t n x.0 v.ordered x.1 (some_tree t v))

pub keeps_valid : KeepsWindowsValid
keeps_valid = record {
  new = valid-new;
  split = valid-split;
  close = valid-close;
  place = valid-place;
  arrange = valid-arrange;
  put = valid-put;
  clear = valid-clear;
  move_to = valid-move_to;
  set_stream = valid-stream;
  set_echo = valid-echo;
  end_echo = valid-end_echo;
  begin_turn = valid-begin_turn;
}
