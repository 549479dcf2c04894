-- One item of a list set.
use Rattle.std.proofs.Common.{List, None, Some, [], ap, false, map, refl, set, suc, sym, true}
use Rattle.std.proofs.Common.{zero, ℕ, ◌∷◌, ◌≡◌, ◌≢◌}
use Rattle.std.specs.List.{slice_get}

pub some_same : {A : Type 0} (x y : A) → Some x ≡ Some y → x ≡ y
some_same x y is = cc

pub some_none : {A : Type 0} (x : A) → Some x ≡ None → ⊥
some_none x is = cc

pub get_here : {A : Type 0} (l : List A) (i : ℕ) (x y : A) → slice_get l i ≡ Some x
    → slice_get (set l i y) i ≡ Some y
get_here [] i x y is = absurd (some_none x (sym is))
get_here (a ∷ l) zero x y is = refl
get_here (a ∷ l) (suc i) x y is = get_here l i x y is

pub get_else : {A : Type 0} (l : List A) (i j : ℕ) (y : A) → j ≢ i
    → slice_get (set l i y) j ≡ slice_get l j
get_else [] i j y apart = refl
get_else (a ∷ l) zero zero y apart = absurd (apart refl)
get_else (a ∷ l) zero (suc j) y apart = refl
get_else (a ∷ l) (suc i) zero y apart = refl
get_else (a ∷ l) (suc i) (suc j) y apart = get_else l i j y (λ is. apart (ap (λ (k : ℕ). suc k) is))

pub false_true : false ≡ true → ⊥
false_true is = cc

pub set_same : {A : Type 0} (l : List A) (i : ℕ) (x : A) → slice_get l i ≡ Some x → set l i x ≡ l
set_same [] i x is = refl
set_same (a ∷ l) zero x is = ap (λ (y : _). y ∷ l) (sym (some_same a x is))
set_same (a ∷ l) (suc i) x is = ap (λ (k : List _). a ∷ k) (set_same l i x is)

-- an item of a mapped list comes of one
pub map_at : {A B : Type 0} (f : A → B) (items : List A) (i : ℕ) (y : B)
    → slice_get (map f items) i ≡ Some y
    → (x : A) × (slice_get items i ≡ Some x) × (y ≡ f x)
map_at f [] i y is = absurd cc
map_at f (x ∷ items) zero y is = (x, refl, sym (some_same (f x) y is))
map_at f (x ∷ items) (suc i) y is = map_at f items i y is
