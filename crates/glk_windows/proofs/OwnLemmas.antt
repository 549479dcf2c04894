-- Closing takes the windows that go with one, and leaves the others what is their own.
use Rattle.std.proofs.Common.{◌≡◌, ◌≢◌, ◌⊎◌, inl, inr, ℕ, ◌≤◌, ◌==◌, ◌||◌, List}
use Rattle.std.proofs.Common.{[], ◌∷◌, length, refl, sym, ap, ◌∙◌, Option, Some, None, is_some}
use Rattle.std.proofs.Common.{option_map, arith, Bool, true, false, if◌then◌else◌, nat_lt}
use Rattle.std.proofs.lemmas.Bool.{cond_both, eqb-false, eqb-true}
use Rattle.std.proofs.lemmas.Grind.{common_steps}
use Rattle.glk_numbers.specs.Numbered.{found, without}
use Rattle.glk_windows.specs.declared.window.Window.{Window}
use Rattle.glk_windows.specs.declared.window.Pair as pairs
use Rattle.glk_windows.specs.declared.window.Content.{Content}
use Rattle.glk_windows.specs.declared.window.Content.TheVariants.{Pair}
use Rattle.glk_windows.specs.Tree.{WindowTree, window_number, pair_of}
use Rattle.glk_windows.specs.Tree.{parent_of, stream_of, swapped}
use Rattle.glk_windows.specs.Closing.{close, windows_without, content_unkeyed}
use Rattle.glk_windows.specs.Closing.{sibling_lifted, forgotten, removed, unlinked}
use Rattle.glk_windows.specs.Reading.{other_window as sibling}
use Rattle.glk_windows.specs.OneTree.{Shape, pair_without_key, below, times_reached}
use Rattle.glk_windows.specs.OneTree.{pair_above, node_of, IsTree, top}
use Rattle.glk_windows.specs.Valid.{IsOrdered}
use Rattle.glk_windows.specs.Laws.{ClosesBelow, goes_with, own_fields, own_content, own_of}
use Rattle.glk_windows.proofs.CutLemmas.{node_lower, node_pair}
use Rattle.glk_windows.proofs.CloseLemmas.{node_rest, pair_rest}
use Rattle.glk_windows.proofs.KeepLemmas.{removed_keeps}
use Rattle.glk_windows.proofs.OneTreeLemmas.{node_parent, spells_top}
use Rattle.glk_windows.proofs.OrderLemmas.{Ascends, ascends-behind, ascends-closed}
use Rattle.glk_windows.proofs.OrderLemmas.{ascends-removed}
use Rattle.glk_windows.proofs.SameLemmas.{read_map, read_set_at}
use Rattle.glk_windows.proofs.TestLemmas.{tree_found}
use Rattle.glk_windows.proofs.ValidLemmas.{node_live, node_nil, some_tree, SomeTree}

-- a window has something of its own where it is there
own-node : (ws : List Window) (m : ℕ) → is_some (own_of ws m) ≡ is_some (node_of ws m)
unfolding found
own-node [] m = refl
own-node (w ∷ ws) m = let k : _ = own-node ws m in grind (arith, common_steps)

none-of : (o : Option Window) → is_some o ≡ false → o ≡ None
none-of None e = refl
none-of (Some w) e = cc

own-none : (ws : List Window) (m : ℕ) → node_of ws m ≡ None → own_of ws m ≡ None
own-none ws m e = none-of (own_of ws m) (own-node ws m ∙ ap is_some e)

content-unkeyed : (c : Content) (n : ℕ) → own_content (content_unkeyed n c) ≡ own_content c
content-unkeyed (Pair p) n = grind (arith, common_steps)
content-unkeyed c n = refl

content-swapped : (c : Content) (a b : ℕ) → own_content (swapped c a b) ≡ own_content c
content-swapped (Pair p) a b = grind (arith, common_steps)
content-swapped c a b = refl

own-forgotten : (ws : List Window) (n s m : ℕ) → own_of (forgotten ws n s) m ≡ own_of ws m
own-forgotten ws n s m =
    read_map None (λ w. Some (own_fields w)) (unlinked n s) (λ w. refl)
    (λ w. ap (λ c. Some (record w { echo = 0; parent = 0; content = c }))
    (content-unkeyed w.content n)) ws m

own-without : (a : ℕ) (ws : List Window) (z n m : ℕ) → Ascends a ws z
    → own_of (without window_number ws n) m ≡ (if m == n then None else own_of ws m)
unfolding found without
own-without a [] z n m o = grind (arith, common_steps)
own-without a (w ∷ ws) z n m o =
    let b = ascends-behind a w ws z o in
    let i : m ≤ w.number → own_of ws m ≡ None =
    λ l. own-none ws m (node_lower w.number ws z m b l) in
    let k : _ = own-without w.number ws z n m b in
    grind (arith, common_steps)

own-closed : (a : ℕ) (ws : List Window) (z n m : ℕ) → Ascends a ws z
    → own_of (windows_without ws n) m ≡ (if m == n then None else own_of ws m)
own-closed a ws z n m o =
    own-forgotten (without window_number ws n) n (stream_of ws n) m ∙ own-without a ws z n m o

-- a window keeps what is its own, or is gone
abbrev Rests : List Window → List Window → ℕ → Type 0
Rests ws vs m = (own_of vs m ≡ own_of ws m) ⊎ (own_of vs m ≡ None)

rests-on : (ws vs us : List Window) (m : ℕ) → Rests ws vs m → Rests vs us m → Rests ws us m
rests-on ws vs us m h (inr e) = inr e
rests-on ws vs us m (inl e) (inl f) = inl (f ∙ e)
rests-on ws vs us m (inr e) (inl f) = inr (f ∙ e)

rests-if : (b : Bool) (o v : Option Window) → v ≡ (if b then None else o) → (v ≡ o) ⊎ (v ≡ None)
rests-if true o v e = inr e
rests-if false o v e = inl e

rests-closed : (a : ℕ) (ws : List Window) (z n m : ℕ)
    → Ascends a ws z → Rests ws (windows_without ws n) m
rests-closed a ws z n m o = rests-if (m == n) (own_of ws m) _ (own-closed a ws z n m o)

rests-removed : (d a : ℕ) (ws : List Window) (z n m : ℕ) → Ascends a ws z
    → Rests ws (removed d ws n) m
rests-removed d a ws z n m o =
    (removed_keeps (λ v. Ascends a v z × Rests ws v m)
    (λ v k h. (
      ascends-closed a v z k h.0,
      rests-on ws v (windows_without v k) m h.1 (rests-closed a v z k m h.0),
    ))
    d ws n (o, inl refl)).1

-- the windows that are gone have nothing, and the others what they had
own-rest : (ws vs : List Window) (m : ℕ) (b : Bool)
    → node_of vs m ≡ (if b then None else node_of ws m) → Rests ws vs m
    → own_of vs m ≡ (if b then None else own_of ws m)
own-rest ws vs m true e r = own-none vs m e
own-rest ws vs m false e (inl f) = f
own-rest ws vs m false e (inr f) =
    f ∙ sym (none-of (own_of ws m)
    (own-node ws m ∙ ap is_some (sym e) ∙ sym (own-node vs m) ∙ ap is_some f))

-- the pair ends, and its other window takes its place
own-ended : (u : WindowTree) (pair : ℕ) (o : Option pairs.Pair) (r : pairs.Pair) (n m : ℕ)
    → option_map pair_without_key o ≡ Some r → Ascends 0 u.slots u.next
    → own_of (sibling_lifted u pair o n).slots m ≡ (if m == pair then None else own_of u.slots m)
own-ended u pair None r n m e a = cc
own-ended u pair (Some q) r n m e a =
    read_set_at None (λ w. Some (own_fields w)) (λ w. record w { parent = parent_of u.slots pair })
    (λ w. refl) (λ w. refl) _ (sibling q n) m
    ∙ read_set_at None (λ w. Some (own_fields w))
    (λ w. record w { content = swapped w.content pair (sibling q n) }) (λ w. refl)
    (λ w. ap (λ c. Some (record w { echo = 0; parent = 0; content = c }))
    (content-swapped w.content pair (sibling q n))) (windows_without u.slots pair)
    (parent_of u.slots pair) m
    ∙ own-closed 0 u.slots u.next pair m a

-- both of two causes
or-none : (a c : Bool) (o : Option Window) → (a ≡ true → o ≡ None)
    → (if c then None else o) ≡ (if a || c then None else o)
or-none true true o h = refl
or-none true false o h = h refl
or-none false c o h = refl

or-twice : (a c : Bool) (o : Option Window)
    → (if a then None else (if c then None else o)) ≡ (if a || c then None else o)
or-twice true c o = refl
or-twice false c o = refl

-- a window without a pair above it is the root
not-root : (t : WindowTree) (s : Shape) (n : ℕ) → IsTree t (Some s)
    → (parent_of t.slots n == 0) ≡ false → top s ≢ n
not-root t s n h e = λ i.
    eqb-false (parent_of t.slots n) 0 e
    (ap (parent_of t.slots) (sym i)
    ∙ sym (node_parent t.slots (top s) _ (spells_top t.slots s 0 h.1)))

own-close : (t : WindowTree) (s : Shape) (n : ℕ) (x : ℕ × Option pairs.Pair) (m : ℕ)
    → IsOrdered t → IsTree t (Some s) → node_of t.slots n ≡ Some x
    → own_of (close t n).slots m
    ≡ (if m == parent_of t.slots n || nat_lt 0 (times_reached (below n s) m) then None
    else own_of t.slots m)
unfolding IsOrdered
own-close t s n x m o h live =
    let ws : List Window = t.slots in
    let pair : ℕ = parent_of ws n in
    let w2 : List Window = removed (length ws) ws n in
    let u : WindowTree = record t { slots = w2 } in
    let gone : Bool = nat_lt 0 (times_reached (below n s) m) in
    let r : own_of w2 m ≡ (if gone then None else own_of ws m) =
    own-rest ws w2 m gone (node_rest t s n x o h live m)
    (rests-removed (length ws) 0 ws t.next n m o) in
    cond_both (pair == 0) (record u { root = 0 }) (sibling_lifted u pair (pair_of w2 pair) n)
    (λ (v : WindowTree). own_of v.slots m ≡ (if m == pair || gone then None else own_of ws m))
    (λ e. r ∙ or-none (m == pair) gone (own_of ws m)
    (λ i. own-none ws m (node_lower 0 ws t.next m o
    (omega (arith, eqb-true m pair i, eqb-true pair 0 e)))))
    (λ e. own-ended u pair (pair_of w2 pair) (pair_above n s) n m
    (node_pair w2 pair _ (pair_rest t s n x o h live (not-root t s n h e)))
    (ascends-removed (length ws) 0 ws t.next n o)
    ∙ ap (λ v. if m == pair then None else v) r ∙ or-twice (m == pair) gone (own_of ws m))

closes-tree : (t : WindowTree) (n m : ℕ) (x : ℕ × Option pairs.Pair) → IsOrdered t
    → node_of t.slots n ≡ Some x → SomeTree t
    → own_of (close t n).slots m ≡ (if goes_with t n m then None else own_of t.slots m)
closes-tree t n m x o l (None, h, k) = absurd (node_nil t.slots n x h.1 l)
closes-tree t n m x o l (Some s, h, k) =
    own-close t s n x m o h l
    ∙ ap (λ y. if m == parent_of t.slots n || nat_lt 0 (times_reached (below n y) m) then None
    else own_of t.slots m) (sym (tree_found t s o h))

pub closes_below : ClosesBelow
closes_below t n m v l =
    let x : _ = node_live t.slots n l in
    closes-tree t n m x.0 v.ordered x.1 (some_tree t v)
