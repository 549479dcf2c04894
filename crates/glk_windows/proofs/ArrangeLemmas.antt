-- A pair that is divided anew keeps the windows one tree, with their keys.
use Rattle.std.proofs.Common.{◌≡◌, ◌≢◌, inl, inr, ℕ, ◌≤◌, ◌<◌, ◌==◌, ◌||◌, List, []}
use Rattle.std.proofs.Common.{◌∷◌, refl, sym, ap, ◌∙◌, Option, Some, None, option_map, is_some}
use Rattle.std.proofs.Common.{arith, Bool, true, false, if◌then◌else◌}
use Rattle.std.proofs.lemmas.Bool.{eqb-true, eqb-false}
use Rattle.std.proofs.lemmas.Grind.{common_steps}
use Rattle.glk_numbers.specs.Numbered.{found, changed_at}
use Rattle.glk_windows.specs.declared.window.Window.{Window}
use Rattle.glk_windows.specs.declared.window.Pair as pairs
use Rattle.glk_windows.specs.declared.window.Content.{Content}
use Rattle.glk_windows.specs.declared.window.Content.TheVariants.{Pair}
use Rattle.glk_windows.specs.Tree.{WindowTree, set_at, pair_in, pair_content, content_arranged}
use Rattle.glk_windows.specs.Arranging.{arrange}
use Rattle.glk_windows.specs.OneTree.{Shape, Leaf, Fork, top, times_reached, pair_without_key}
use Rattle.glk_windows.specs.OneTree.{node_of, SpellsTree, IsTree, below, key_in, pair_key}
use Rattle.glk_windows.specs.OneTree.{has_leaf}
use Rattle.glk_windows.specs.Valid.{IsOrdered}
use Rattle.glk_windows.specs.Laws.{IsKeyOf}
use Rattle.glk_windows.proofs.OneTreeLemmas.{node_set_at, once_le, once_mapped}
use Rattle.glk_windows.proofs.KeyLemmas.{Keyed, keyed_on}
use Rattle.glk_windows.proofs.CutLemmas.{nil_of}
use Rattle.glk_windows.proofs.SameLemmas.{read_set_at}
use Rattle.glk_windows.proofs.TestLemmas.{tree_found}

-- a pair divided anew
abbrev pub redivided : ℕ → ℕ → pairs.Pair → pairs.Pair
redivided method size q = record q { method = method; size = size }

-- the tree with one of its pairs divided anew
abbrev pub reshaped : ℕ → ℕ → ℕ → Shape → Shape
reshaped n method size (Leaf m) = Leaf m
reshaped n method size (Fork m q a b) =
    Fork m (if m == n then redivided method size q else q) (reshaped n method size a)
    (reshaped n method size b)

top-reshaped : (n method size : ℕ) (s : Shape) → top (reshaped n method size s) ≡ top s
top-reshaped n method size (Leaf m) = refl
top-reshaped n method size (Fork m q a b) = refl

count-reshaped : (n method size : ℕ) (s : Shape) (j : ℕ)
    → times_reached (reshaped n method size s) j ≡ times_reached s j
count-reshaped n method size (Leaf m) j = refl
count-reshaped n method size (Fork m q a b) j =
    let k : _ = count-reshaped n method size a j in
    let l : _ = count-reshaped n method size b j in
    grind (arith, common_steps)

abbrev pub renoded : ℕ → ℕ → ℕ × Option pairs.Pair → ℕ × Option pairs.Pair
renoded method size (u, o) = (u, option_map (redivided method size) o)

spells-re : (ws vs : List Window) (n method size : ℕ)
    (h : (m : ℕ)
    → node_of vs m ≡ option_map (λ x. if m == n then renoded method size x else x) (node_of ws m))
    → (s : Shape) (up : ℕ) → SpellsTree ws up s → SpellsTree vs up (reshaped n method size s)
spells-re ws vs n method size h (Leaf m) up t = h m ∙ rw t (grind (arith, common_steps))
spells-re ws vs n method size h (Fork m q a b) up t = (
  h m ∙ rw t.0 (grind (arith, common_steps)),
  grind (arith, common_steps) ∙ t.1 ∙ sym (top-reshaped n method size a),
  grind (arith, common_steps) ∙ t.2 ∙ sym (top-reshaped n method size b),
  spells-re ws vs n method size h a m t.3,
  spells-re ws vs n method size h b m t.4,
)

pair-re : (c : Content) (method size key : ℕ)
    → option_map pair_without_key (pair_content (content_arranged c method size key))
    ≡ option_map (redivided method size) (option_map pair_without_key (pair_content c))
pair-re (Pair q) method size key = refl
pair-re c method size key = refl

-- a window divided anew
abbrev arranged : ℕ → ℕ → ℕ → Window → Window
arranged method size key w = record w { content = content_arranged w.content method size key }

node-arranged : (ws : List Window) (n method size key m : ℕ)
    → node_of (set_at (arranged method size key) ws n) m
    ≡ option_map (λ x. if m == n then renoded method size x else x) (node_of ws m)
node-arranged ws n method size key m =
    node_set_at (arranged method size key) (renoded method size) (λ w. refl)
    (λ w. ap (λ o. (w.parent, o)) (pair-re w.content method size key)) ws n m

leaf-reshaped : (n method size : ℕ) (s : Shape) (k : ℕ)
    → has_leaf (reshaped n method size s) k ≡ has_leaf s k
leaf-reshaped n method size (Leaf m) k = refl
leaf-reshaped n method size (Fork m q a b) k =
    let i : _ = leaf-reshaped n method size a k in
    let j : _ = leaf-reshaped n method size b k in
    grind (arith, common_steps)

pub keyed_reshaped : (vs : List Window) (n method size : ℕ) (s : Shape)
    → Keyed vs s → Keyed vs (reshaped n method size s)
keyed_reshaped vs n method size (Leaf m) k = tt
keyed_reshaped vs n method size (Fork m q a b) k = (
  λ i. ap (λ x. x || has_leaf (reshaped n method size b) (pair_key vs m))
      (leaf-reshaped n method size a (pair_key vs m))
      ∙ ap (λ x. has_leaf a (pair_key vs m) || x) (leaf-reshaped n method size b (pair_key vs m))
      ∙ k.0 i,
  keyed_reshaped vs n method size a k.1,
  keyed_reshaped vs n method size b k.2,
)

key-content-same : (c : Content) (method size key : ℕ) → key ≡ 0
    → key_in (pair_content (content_arranged c method size key)) ≡ key_in (pair_content c)
key-content-same (Pair q) method size key e = grind (arith, common_steps)
key-content-same c method size key e = refl

key-content-new : (c : Content) (method size key : ℕ) (q : pairs.Pair)
    → key ≢ 0
    → option_map pair_without_key (pair_content c) ≡ Some q
    → key_in (pair_content (content_arranged c method size key)) ≡ key
key-content-new (Pair r) method size key q e h = grind (arith, common_steps)
key-content-new c method size key q e h = cc

key-other : (ws : List Window) (n method size key m : ℕ) → m ≢ n
    → pair_key (set_at (arranged method size key) ws n) m ≡ pair_key ws m
unfolding changed_at found
key-other [] n method size key m h = refl
key-other (w ∷ ws) n method size key m h =
    let k : _ = key-other ws n method size key m h in grind (arith, common_steps)

key-own : (ws : List Window) (n method size key u : ℕ) (q : pairs.Pair)
    → key ≢ 0 → node_of ws n ≡ Some (u, Some q)
    → pair_key (set_at (arranged method size key) ws n) n ≡ key
unfolding changed_at found
key-own [] n method size key u q e h = cc
key-own (w ∷ ws) n method size key u q e h =
    let i : option_map pair_without_key (pair_in w) ≡ Some q
    → key_in (pair_content (content_arranged w.content method size key)) ≡ key =
    key-content-new w.content method size key q e in
    let k : node_of ws n ≡ Some (u, Some q)
    → pair_key (set_at (arranged method size key) ws n) n ≡ key =
    key-own ws n method size key u q e in
    grind (arith, common_steps)

head-given : (z : Bool) (ws vs : List Window) (n key : ℕ)
    → ((m : ℕ) → m ≢ n → pair_key vs m ≡ pair_key ws m)
    → (m : ℕ) (q : pairs.Pair) (a b : Shape) (up : ℕ)
    → ((u : ℕ) (r : pairs.Pair) → node_of ws n ≡ Some (u, Some r) → pair_key vs n ≡ key)
    → node_of ws m ≡ Some (up, Some q)
    → (0 < times_reached (Fork m q a b) n → has_leaf (below n (Fork m q a b)) key ≡ true)
    → (m == n) ≡ z
    → (pair_key ws m ≢ 0 → (has_leaf a (pair_key ws m) || has_leaf b (pair_key ws m)) ≡ true)
    → pair_key vs m ≢ 0 → (has_leaf a (pair_key vs m) || has_leaf b (pair_key vs m)) ≡ true
head-given true ws vs n key ho m q a b up hn t f e k i =
    let mn : m ≡ n = eqb-true m n e in
    let v : pair_key vs m ≡ key = ap (pair_key vs) mn ∙ hn up q (ap (node_of ws) (sym mn) ∙ t) in
    let g : has_leaf (below n (Fork m q a b)) key ≡ true = f (grind (arith, common_steps)) in
    let h : (has_leaf a key || has_leaf b key) ≡ true = grind (arith, common_steps) in
    ap (λ x. has_leaf a x || has_leaf b x) v ∙ h
head-given false ws vs n key ho m q a b up hn t f e k i =
    let v : pair_key vs m ≡ pair_key ws m = ho m (eqb-false m n e) in
    ap (λ x. has_leaf a x || has_leaf b x) v ∙ k (λ j. i (v ∙ j))

-- the pair with its new key, and the others with theirs
keyed-given : (ws vs : List Window) (n key : ℕ) → ((m : ℕ) → m ≢ n → pair_key vs m ≡ pair_key ws m)
    → ((u : ℕ) (q : pairs.Pair) → node_of ws n ≡ Some (u, Some q) → pair_key vs n ≡ key)
    → (s : Shape) (up : ℕ) → SpellsTree ws up s → ((m : ℕ) → times_reached s m ≤ 1)
    → (0 < times_reached s n → has_leaf (below n s) key ≡ true) → Keyed ws s → Keyed vs s
keyed-given ws vs n key ho hn (Leaf m) up t d f k = tt
keyed-given ws vs n key ho hn (Fork m q a b) up t d f k =
    let dn : times_reached (Fork m q a b) n ≤ 1 = d n in (
      λ i. head-given (m == n) ws vs n key ho m q a b up hn t.0 f refl k.0 i,
      keyed-given ws vs n key ho hn a m t.3 (λ x. omega (arith, d x))
          (λ c. (let g : has_leaf (below n (Fork m q a b)) key ≡ true = f (omega (arith, c)) in
          let mn : (m == n) ≡ false = grind (arith, common_steps) in grind (arith, common_steps)))
          k.1,
      keyed-given ws vs n key ho hn b m t.4 (λ x. omega (arith, d x))
          (λ c. (let g : has_leaf (below n (Fork m q a b)) key ≡ true = f (omega (arith, c)) in
          let mn : (m == n) ≡ false = grind (arith, common_steps) in grind (arith, common_steps)))
          k.2,
    )

pub keyed_arranged : (z : Bool) (t : WindowTree) (n method size key : ℕ) (s : Shape)
    → (key == 0) ≡ z → IsOrdered t → IsTree t (Some s)
    → IsKeyOf t n key → Keyed t.slots s → Keyed (arrange t n method size key).slots s
keyed_arranged true t n method size key s e o h y k =
    keyed_on t.slots _ s (λ m l. read_set_at 0 (λ w. key_in (pair_in w))
    (arranged method size key) (λ w. refl)
    (λ w. key-content-same w.content method size key (eqb-true key 0 e)) t.slots n m) k
keyed_arranged false t n method size key s e o h (inl y) k = absurd (eqb-false key 0 e y)
keyed_arranged false t n method size key s e o h (inr y) k =
    keyed-given t.slots _ n key (key-other t.slots n method size key)
    (λ u q l. key-own t.slots n method size key u q (eqb-false key 0 e) l) s 0 h.1
    (λ m. once_le _ _ (h.2 m))
    (λ c. ap (λ x. has_leaf (below n x) key) (sym (tree_found t s o h)) ∙ y) k

pub none_arranged : (t : WindowTree) (n method size key : ℕ)
    → IsTree t None → IsTree (arrange t n method size key) None
none_arranged t n method size key h = (
  h.0,
  nil_of _ (λ m. node-arranged t.slots n method size key m
      ∙ ap (option_map (λ x. if m == n then renoded method size x else x))
      (ap (λ ws. node_of ws m) h.1)),
)

pub tree_arranged : (t : WindowTree) (n method size key : ℕ) (s : Shape)
    → IsTree t (Some s) → IsTree (arrange t n method size key) (Some (reshaped n method size s))
tree_arranged t n method size key s h = (
  h.0 ∙ sym (top-reshaped n method size s),
  spells-re t.slots _ n method size (node-arranged t.slots n method size key) s 0 h.1,
  λ m. count-reshaped n method size s m ∙ h.2 m
      ∙ ap (λ b. if b then 1 else 0)
      (sym (ap is_some (node-arranged t.slots n method size key m) ∙ once_mapped _ _)),
)
