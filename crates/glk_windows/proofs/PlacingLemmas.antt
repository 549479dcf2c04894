-- Rectangles, for any depth that is left.
use native.Mathlib.Numerals.{unary_clauses}
use Rattle.std.proofs.Common.{◌≡◌, ◌∙◌, ℕ, zero, suc, ◌-◌, ◌<◌, List, [], ◌∷◌, ◌++◌, Option}
use Rattle.std.proofs.Common.{Some, None, Result, Ok, Err, OnErr, arith, refl, sym, ap}
use Rattle.glk_windows.specs.declared.window.Window.{Window}
use Rattle.glk_windows.specs.declared.window.Area.{Area}
use Rattle.glk_windows.specs.declared.window.Pair as p
use Rattle.glk_windows.specs.Tree.{pair_of}
use Rattle.glk_windows.specs.Placing.{windows_placed, pair_divided, with_area, first_part}
use Rattle.glk_windows.specs.Placing.{second_part, has_size, all_sized, IsPartPlaced}

pub placed_more : (d : ℕ) (ws : List Window) (n : ℕ) (a : Area) (o : Option p.Pair)
    → 0 < d → o ≡ pair_of ws n
    → windows_placed d ws n a ≡ pair_divided (windows_placed (d - 1)) (with_area ws n a) o a
unfolding windows_placed
placed_more zero ws n a o h e = absurd (omega arith)
placed_more (suc d) ws n a o h e = simp (unary_clauses, e)

-- ---- some windows given rectangles

pub part_none : (ws : List Window) → IsPartPlaced ws ws
part_none ws = ([], refl)

part_one : (ws : List Window) (n : ℕ) (a : Area) → IsPartPlaced ws (with_area ws n a)
part_one ws n a = ((n, a) ∷ [], refl)

all_sized-append : (ws : List Window) (xs ys : List (ℕ × Area))
    → all_sized ws (xs ++ ys) ≡ all_sized (all_sized ws xs) ys
all_sized-append ws [] ys = refl
all_sized-append ws (x ∷ xs) ys = all_sized-append (with_area ws x.0 x.1) xs ys

pub part_then : (ws vs us : List Window)
    → IsPartPlaced ws vs → IsPartPlaced vs us
    → IsPartPlaced ws us
part_then ws vs us h k = (
  h.0 ++ k.0,
  k.1 ∙ ap (λ (l : List Window). all_sized l k.0) h.1 ∙ sym (all_sized-append ws h.0 k.0),
)

part_divided : (gives : List Window → ℕ → Area → List Window)
    → ((ws : List Window) (n : ℕ) (a : Area) → IsPartPlaced ws (gives ws n a))
    → (ws : List Window) (o : Option p.Pair) (a : Area)
    → IsPartPlaced ws (pair_divided gives ws o a)
part_divided gives part ws None a = part_none ws
part_divided gives part ws (Some p) a =
    part_then ws (gives ws p.first (first_part p (has_size ws p.key) a)) _
    (part ws p.first (first_part p (has_size ws p.key) a))
    (part (gives ws p.first (first_part p (has_size ws p.key) a)) p.second
    (second_part p (has_size ws p.key) a))

pub part_placed : (d : ℕ) (ws : List Window) (n : ℕ) (a : Area)
    → IsPartPlaced ws (windows_placed d ws n a)
unfolding windows_placed
part_placed zero ws n a = part_none ws
part_placed (suc d) ws n a =
    part_then ws (with_area ws n a) _ (part_one ws n a)
    (part_divided (windows_placed d) (part_placed d) (with_area ws n a) (pair_of ws n) a)

-- the window had its rectangle, and then some had theirs
pub part_begun : (ws vs us : List Window) (n : ℕ) (a : Area)
    → vs ≡ with_area ws n a → IsPartPlaced vs us
    → IsPartPlaced ws us
part_begun ws vs us n a e k =
    part_then ws vs us ((n, a) ∷ [], e) k

-- and then those below the first of a pair
pub part_gone_on : (ws vs us ts : List Window) (n m d : ℕ) (a b : Area) → vs ≡ with_area ws n a
    → us ≡ windows_placed d vs m b → IsPartPlaced us ts → IsPartPlaced ws ts
part_gone_on ws vs us ts n m d a b e f k =
    part_begun ws vs ts n a e
    (part_then vs us ts ((part_placed d vs m b).0, f ∙ (part_placed d vs m b).1) k)

pub on_any_err : {T E P : Type 0} (r : Result T E) → P → OnErr r P
on_any_err (Ok x) h = tt
on_any_err (Err e) h = h
