-- Lists that are mapped there and back, and two lists side by side.
use Rattle.std.proofs.Common.{◌≡◌, ◌∙◌, ℕ, ◌<◌, List, [], ◌∷◌, map, refl, ap, arith, zero, suc, ◌+◌}
use Rattle.std.proofs.Common.{◌++◌, length, get_or, min, take}
use Rattle.std.specs.List.{zip}
use Rattle.std.proofs.lemmas.List.{take_all}
use Rattle.std.proofs.lemmas.Slice.Zip.{length-zip}

-- what gives each value back gives the list back
pub map-back : {A B : Type 0} (f : A → B) (g : B → A) → ((x : A) → g (f x) ≡ x) → (xs : List A)
    → map g (map f xs) ≡ xs
map-back f g h [] = refl
map-back f g h (x ∷ xs) =
    ap (λ y. y ∷ map g (map f xs)) (h x) ∙ ap (λ ys. x ∷ ys) (map-back f g h xs)

-- one pair more
pub zip-more : {A B C : Type 0} (f : A × B → C) (xs : List A) (ys : List B) (n : ℕ) (a : A) (b : B)
    → n < length xs → n < length ys → a ≡ get_or xs n a → b ≡ get_or ys n b
    → map f (take (n + 1) (zip xs ys)) ≡ map f (take n (zip xs ys)) ++ f (a, b) ∷ []
zip-more f [] ys n a b k l d e = absurd (omega (arith, k))
zip-more f (x ∷ xs) [] n a b k l d e = absurd (omega (arith, l))
zip-more f (x ∷ xs) (y ∷ ys) zero a b k l d e = ap (λ p. f p ∷ []) (rw (d, e) refl)
zip-more f (x ∷ xs) (y ∷ ys) (suc n) a b k l d e =
    let next : suc n + 1 ≡ suc (n + 1) = omega arith in
    rw next (ap (λ cs. f (x, y) ∷ cs)
    (zip-more f xs ys n a b (omega (arith, k)) (omega (arith, l)) d e))

-- all of the pairs
pub zip-all : {A B C : Type 0} (f : A × B → C) (xs : List A) (ys : List B) (n : ℕ)
    → n ≡ min (length xs) (length ys) → map f (take n (zip xs ys)) ≡ map f (zip xs ys)
zip-all f xs ys n e = ap (map f) (take_all n (zip xs ys) (omega (arith, e, length-zip xs ys)))
