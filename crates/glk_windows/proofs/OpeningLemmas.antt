-- A window that is opened keeps the windows one tree, with their keys, in order, few and sound.
use Rattle.std.proofs.Common.{◌≡◌, ℕ, ◌+◌, ◌<◌, ◌≤◌, List, [], ◌∷◌, ◌++◌, length, refl}
use Rattle.std.proofs.Common.{ap, ◌∙◌, Option, Some, None, is_some, option_map, arith, Bool}
use Rattle.std.proofs.Common.{true, false, nat_lt, ◌==◌, if◌then◌else◌, length-append}
use Rattle.std.proofs.lemmas.Bool.{and_from, cond_both}
use Rattle.std.proofs.lemmas.Grind.{common_steps}
use Rattle.glk_numbers.specs.Numbered.{found}
use Rattle.glk_numbers.proofs.FoundLemmas.{length-changed}
use Rattle.glk_windows.specs.declared.window.Window.{Window}
use Rattle.glk_windows.specs.declared.window.Pair as p
use Rattle.glk_windows.specs.declared.window.Content.TheVariants.{Pair}
use Rattle.glk_windows.specs.Tree.{WindowTree, parent_of, pair_in, pair_content, window_number}
use Rattle.glk_windows.specs.Arranging.{is_method}
use Rattle.glk_windows.specs.Opening.{pair_joined, unplaced_window, new_content}
use Rattle.glk_windows.specs.OneTree.{Shape, Leaf, top, times_reached, pair_without_key, bare_in}
use Rattle.glk_windows.specs.OneTree.{node_of, tree_forked, Once, IsTree, key_in, pair_key}
use Rattle.glk_windows.specs.Valid.{IsOrdered, is_sound_content}
use Rattle.glk_windows.proofs.FitLemmas.{Fit, fit_relinked}
use Rattle.glk_windows.proofs.KeyLemmas.{Keyed, keyed_forked, key_append, key_after, key_joined}
use Rattle.glk_windows.proofs.OneTreeLemmas.{renode, node_joined, node_later, node_append, node_new}
use Rattle.glk_windows.proofs.OneTreeLemmas.{node_parent, top_forked, count_forked, spells_forked}
use Rattle.glk_windows.proofs.OneTreeLemmas.{once_le, once_at, once_mapped}
use Rattle.glk_windows.proofs.OrderLemmas.{Ascends, ascends-more, ascends-two}
use Rattle.glk_windows.proofs.SoundLemmas.{sound_append}

pair-fresh : (kind : ℕ) → pair_content (new_content kind) ≡ None
pair-fresh kind =
    cond_both (kind == 3) _ _ (λ c. pair_content c ≡ None) (λ e. refl)
    (λ e. cond_both (kind == 4) _ _ (λ c. pair_content c ≡ None) (λ k. refl) (λ k. refl))

sound-fresh : (kind : ℕ)
    → is_sound_content (new_content kind) (record { x = 0; y = 0; w = 0; h = 0 }) ≡ true
sound-fresh kind = grind (arith, common_steps)

-- ---- the first window

abbrev pub first_made : WindowTree → ℕ → ℕ → WindowTree
first_made t kind rock = record {
  slots = t.slots ++ unplaced_window t.next rock 0 (new_content kind) ∷ [];
  next = t.next + 1;
  root = t.next;
}

pub tree_first : (t : WindowTree) (kind rock : ℕ) → t.slots ≡ []
    → IsTree (first_made t kind rock) (Some (Leaf t.next))
tree_first t kind rock e =
    let i : _ = pair-fresh kind in
    rw e (refl, grind (arith, common_steps), λ m. grind (arith, common_steps))

pub fit_first : (t : WindowTree) (kind rock : ℕ) → t.slots ≡ [] → Fit t.slots t.next
    → Fit (first_made t kind rock).slots (first_made t kind rock).next
fit_first t kind rock e h = record {
  ordered = ascends-more 0 t.slots t.next _ refl h.ordered;
  few = rw e (omega arith);
  sound = sound_append t.slots _ h.sound (and_from _ _ (sound-fresh kind) refl);
}

-- ---- a window beside another

abbrev pub new_pair : ℕ → ℕ → ℕ → ℕ → ℕ → p.Pair
new_pair method size key from new =
    record { method = method; size = size; key = key; first = from; second = new }

abbrev pub beside_slots : WindowTree → ℕ → ℕ → ℕ → ℕ → ℕ → List Window
beside_slots t from method size kind rock =
    pair_joined t.slots from (t.next + 1)
    ++ unplaced_window t.next rock (t.next + 1) (new_content kind)
    ∷ unplaced_window (t.next + 1) 0 (parent_of t.slots from)
    (Pair (new_pair method size t.next from t.next)) ∷ []

abbrev pub beside_made : WindowTree → ℕ → ℕ → ℕ → ℕ → ℕ → WindowTree
beside_made t from method size kind rock = record {
  slots = beside_slots t from method size kind rock;
  next = t.next + 2;
  root = if t.root == from then t.next + 1 else t.root;
}

pub fit_beside : (t : WindowTree) (from method size kind rock : ℕ) → is_method method ≡ true
    → nat_lt 64 (length t.slots + 2) ≡ false → Fit t.slots t.next
    → Fit (beside_slots t from method size kind rock) (t.next + 2)
fit_beside t from method size kind rock m e h =
    let joined : Fit (pair_joined t.slots from (t.next + 1)) t.next =
    fit_relinked t.slots t.next from (t.next + 1) (parent_of t.slots from) (t.next + 1) from h in
    let long : length (pair_joined t.slots from (t.next + 1)) ≡ length t.slots =
    length-changed window_number _ _ from
    ∙ length-changed window_number _ t.slots (parent_of t.slots from) in
    let few : length t.slots + 2 ≤ 64 = grind (arith, common_steps, e) in
    record {
      ordered =
          ascends-two 0 (pair_joined t.slots from (t.next + 1)) t.next _ _ refl refl joined.ordered;
      few = simp length-append (omega (arith, long, few));
      sound = sound_append (pair_joined t.slots from (t.next + 1)) _ joined.sound
          (and_from _ _ (sound-fresh kind) (and_from _ _ m refl));
    }

-- what a list with a pair in the place of a window holds
abbrev pub Beside : List Window → ℕ → ℕ → List Window → ℕ → p.Pair → Type 0
Beside ws z from vs q r = (m : ℕ) → node_of vs m ≡
    (if m == z then Some (z + 1, None) else (if m == z + 1 then Some (q, Some r)
    else option_map (renode from (z + 1) q m) (node_of ws m)))

beside-case : (o : Option (ℕ × Option p.Pair)) (js ws : List Window) (z m : ℕ)
    (v u : Window) (q : ℕ) (r : p.Pair)
    (f : ℕ × Option p.Pair → ℕ × Option p.Pair)
    → Ascends 0 ws z → v.number ≡ z → u.number ≡ z + 1 → v.parent ≡ z + 1 → u.parent ≡ q
    → bare_in v ≡ None → bare_in u ≡ Some r
    → node_of js m ≡ option_map f o → node_of ws m ≡ o
    → node_of (js ++ v ∷ u ∷ []) m
    ≡ (if m == z then Some (z + 1, None)
    else (if m == z + 1 then Some (q, Some r) else option_map f o))
beside-case None js ws z m v u q r f o a b c d e g h k =
    node_new js (v ∷ u ∷ []) m h ∙ grind (arith, common_steps)
beside-case (Some x) js ws z m v u q r f o a b c d e g h k =
    let l : z ≤ m → node_of ws m ≡ None = node_later 0 ws z m o in
    let i : m < z = grind (arith, common_steps) in
    node_append js (v ∷ u ∷ []) m (f x) h ∙ grind (arith, common_steps)

-- the list that is made, as the lemmas on shapes want it
beside-nodes : (t : WindowTree) (from method size kind rock : ℕ) → IsOrdered t
    → Beside t.slots t.next from (beside_slots t from method size kind rock)
    (parent_of t.slots from) (new_pair method size 0 from t.next)
unfolding IsOrdered
beside-nodes t from method size kind rock o m =
    beside-case (node_of t.slots m) (pair_joined t.slots from (t.next + 1)) t.slots t.next m _ _
    (parent_of t.slots from) _ (renode from (t.next + 1) (parent_of t.slots from) m) o refl refl
    refl refl (ap (option_map pair_without_key) (pair-fresh kind)) refl
    (node_joined t.slots from (t.next + 1) m) refl

once-cases : (b c : Bool) (z m : ℕ) (o v : Option (ℕ × Option p.Pair)) (n : ℕ)
    (x : ℕ × Option p.Pair)
    (w : Option (ℕ × Option p.Pair)) (y : ℕ × Option p.Pair)
    → (m == z) ≡ b → (m == z + 1) ≡ c → is_some w ≡ is_some o → (z ≤ m → o ≡ None)
    → n ≡ (if is_some o then 1 else 0)
    → v ≡ (if m == z then Some x else (if m == z + 1 then Some y else w))
    → n + (if z + 1 == m then 1 else 0) + (if z == m then 1 else 0) ≡ (if is_some v then 1 else 0)
once-cases b c z m None v n x w y e f k l j h = grind (arith, common_steps)
once-cases b c z m (Some s) v n x w y e f k l j h = grind (arith, common_steps)

-- one more pair and window are in the tree once
once-forked : (ws vs : List Window) (z from q : ℕ) (r : p.Pair) (s : Shape) → Ascends 0 ws z
    → Beside ws z from vs q r → times_reached s from ≡ 1
    → Once ws s → Once vs (tree_forked from (z + 1) r z s)
once-forked ws vs z from q r s o h c w m =
    let i : _ = count_forked from (z + 1) z r s m c in
    let j : times_reached s m ≡ (if is_some (node_of ws m) then 1 else 0) = w m in
    let k : is_some (option_map (renode from (z + 1) q m) (node_of ws m)) ≡ is_some (node_of ws m) =
    once_mapped _ _ in
    let lz : z ≤ m → node_of ws m ≡ None = node_later 0 ws z m o in
    let hm : _ = h m in
    i
    ∙ once-cases (m == z) (m == z + 1) z m (node_of ws m) (node_of vs m)
    (times_reached s m) _ _ _ refl refl k lz j hm

-- the nodes of a split list, one by one
beside-old : (ws vs : List Window) (z from q : ℕ) (r : p.Pair)
    → Ascends 0 ws z → Beside ws z from vs q r
    → (m : ℕ) (x : ℕ × Option p.Pair) → node_of ws m ≡ Some x
    → node_of vs m ≡ Some (renode from (z + 1) q m x)
beside-old ws vs z from q r o h m x e =
    let l : z ≤ m → node_of ws m ≡ None = node_later 0 ws z m o in
    let i : _ = h m in
    let k : option_map (renode from (z + 1) q m) (node_of ws m) ≡ Some (renode from (z + 1) q m x) =
    ap (option_map (renode from (z + 1) q m)) e in
    let g : m < z = grind (arith, common_steps) in
    grind (arith, common_steps)

-- a window beside a live one keeps the windows one tree
pub tree_beside : (t : WindowTree) (from method size kind rock : ℕ) (s : Shape)
    (x : ℕ × Option p.Pair)
    → IsOrdered t → node_of t.slots from ≡ Some x → IsTree t (Some s)
    → IsTree (beside_made t from method size kind rock)
    (Some (tree_forked from (t.next + 1) (new_pair method size 0 from t.next) t.next s))
unfolding IsOrdered
tree_beside t from method size kind rock s x o live h =
    let r : p.Pair = new_pair method size 0 from t.next in
    let vs : List Window = beside_slots t from method size kind rock in
    let q : ℕ = parent_of t.slots from in
    let b : Beside t.slots t.next from vs q r = beside-nodes t from method size kind rock o in
    let c1 : times_reached s from ≡ 1 = once_at _ _ x live (h.2 from) in
    let bn : _ = b t.next in
    let bp : _ = b (t.next + 1) in (
      (let i : _ = top_forked from (t.next + 1) t.next r s in
          let e : t.root ≡ top s = h.0 in grind (arith, common_steps)),
      spells_forked t.slots vs from (t.next + 1) t.next q r
          (beside-old t.slots vs t.next from q r o b)
          (λ m y e k. node_parent t.slots m y k ∙ ap (parent_of t.slots) e)
          (grind (arith, common_steps)) (grind (arith, common_steps)) refl refl
          s 0 (λ m. once_le _ _ (h.2 m)) h.1,
      once-forked t.slots vs t.next from q r s o b c1 h.2,
    )

key-of-new : (z : ℕ) (v w : Window)
    → v.number ≡ z → w.number ≡ z + 1
    → pair_key (v ∷ w ∷ []) (z + 1) ≡ key_in (pair_in w)
unfolding found
key-of-new z v w e f =
    let a : (v.number == z + 1) ≡ false = grind (arith, common_steps) in
    let b : (w.number == z + 1) ≡ true = grind (arith, common_steps) in
    grind (arith, common_steps)

some-of : (o : Option (ℕ × Option p.Pair)) (n : ℕ) → n ≡ (if is_some o then 1 else 0) → 0 < n
    → (x : ℕ × Option p.Pair) × (o ≡ Some x)
some-of None n e h = absurd (omega (arith, e, h))
some-of (Some x) n e h = (x, refl)

pub keyed_beside : (t : WindowTree) (from method size kind rock : ℕ) (s : Shape)
    → IsOrdered t → IsTree t (Some s) → Keyed t.slots s
    → Keyed (beside_slots t from method size kind rock)
    (tree_forked from (t.next + 1) (new_pair method size 0 from t.next) t.next s)
unfolding IsOrdered
keyed_beside t from method size kind rock s o h k =
    let z : ℕ = t.next in
    let js : List Window = pair_joined t.slots from (z + 1) in
    let v : Window = unplaced_window z rock (z + 1) (new_content kind) in
    let w : Window = unplaced_window (z + 1) 0 (parent_of t.slots from)
    (Pair (new_pair method size z from z)) in
    let later : node_of t.slots (z + 1) ≡ None = node_later 0 t.slots z (z + 1) o (omega arith) in
    let none : node_of js (z + 1) ≡ None =
    node_joined t.slots from (z + 1) (z + 1)
    ∙ ap (option_map (renode from (z + 1) (parent_of t.slots from) (z + 1))) later in
    keyed_forked t.slots (js ++ v ∷ w ∷ []) from (z + 1) z _
    (key_after js (v ∷ w ∷ []) (z + 1) none ∙ key-of-new z v w refl refl)
    s
    (λ m c. (let x : _ = some-of (node_of t.slots m) (times_reached s m) (h.2 m) c in
    let y : node_of js m ≡ Some (renode from (z + 1) (parent_of t.slots from) m x.0) =
    node_joined t.slots from (z + 1) m
    ∙ ap (option_map (renode from (z + 1) (parent_of t.slots from) m)) x.1 in
    key_append js (v ∷ w ∷ []) m _ y ∙ key_joined t.slots from (z + 1) m)) k
