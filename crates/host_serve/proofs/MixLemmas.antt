-- Lists whose first items are another list's, one more or one less.
use Rattle.std.proofs.Common.{◌≡◌, ℕ, zero, suc, ◌+◌, ◌<◌, List, [], ◌∷◌, ◌++◌, length, map, take}
use Rattle.std.proofs.Common.{drop, get_or, set, ap, sym, ◌∙◌, refl, arith}
use Rattle.std.proofs.Math.Seq.{take-suc}
use Rattle.std.proofs.lemmas.List.{map-append, same_from_push}
use Rattle.turn_cell.specs.History.{Each}

module _ {A : Type 0} where
  -- the first so many of one list, and the rest of another
  drop_none : (n : ℕ) → drop {A = A} n [] ≡ []
  drop_none zero = refl
  drop_none (suc n) = refl

  pub mix_rest : (k : ℕ) (xs ys : List A) (d : A) → length xs ≡ length ys → k < length ys
      → get_or (take k xs ++ drop k ys) k d ≡ get_or ys k d
  mix_rest zero [] ys d long low = refl
  mix_rest zero (x ∷ xs) ys d long low = refl
  mix_rest (suc k) [] ys d long low = absurd (omega arith)
  mix_rest (suc k) (x ∷ xs) [] d long low = absurd (omega arith)
  mix_rest (suc k) (x ∷ xs) (y ∷ ys) d long low = mix_rest k xs ys d (omega arith) (omega arith)

  pub mix_first : (k n : ℕ) (xs ys : List A) (d : A) → k < n → k < length xs
      → get_or (take n xs ++ drop n ys) k d ≡ get_or xs k d
  mix_first k zero xs ys d low in_xs = absurd (omega arith)
  mix_first k (suc n) [] ys d low in_xs = absurd (omega arith)
  mix_first zero (suc n) (x ∷ xs) ys d low in_xs = refl
  mix_first (suc k) (suc n) (x ∷ xs) [] d low in_xs =
      ap (λ (t : List A). get_or (take n xs ++ t) k d) (sym (drop_none n))
      ∙ mix_first k n xs [] d (omega arith) (omega arith)
  mix_first (suc k) (suc n) (x ∷ xs) (y ∷ ys) d low in_xs =
      mix_first k n xs ys d (omega arith) (omega arith)

  pub mix_up : (k : ℕ) (xs ys : List A) (d : A) → length xs ≡ length ys → k < length ys
      → set (take k xs ++ drop k ys) k (get_or xs k d) ≡ take (suc k) xs ++ drop (suc k) ys
  mix_up k [] ys d long low = absurd (omega arith)
  mix_up k (x ∷ xs) [] d long low = absurd (omega arith)
  mix_up zero (x ∷ xs) (y ∷ ys) d long low = refl
  mix_up (suc k) (x ∷ xs) (y ∷ ys) d long low =
      ap (λ (l : List A). x ∷ l) (mix_up k xs ys d (omega arith) (omega arith))

  pub mix_down : (k : ℕ) (xs ys : List A) (d : A) → length xs ≡ length ys → k < length ys
      → set (take (suc k) xs ++ drop (suc k) ys) k (get_or ys k d) ≡ take k xs ++ drop k ys
  mix_down k [] ys d long low = absurd (omega arith)
  mix_down k (x ∷ xs) [] d long low = absurd (omega arith)
  mix_down zero (x ∷ xs) (y ∷ ys) d long low = refl
  mix_down (suc k) (x ∷ xs) (y ∷ ys) d long low =
      ap (λ (l : List A). x ∷ l) (mix_down k xs ys d (omega arith) (omega arith))

  pub mix_long : (k : ℕ) (xs ys : List A) → length xs ≡ length ys
      → length (take k xs ++ drop k ys) ≡ length ys
  mix_long zero xs ys long = refl
  mix_long (suc k) [] [] long = refl
  mix_long (suc k) [] (y ∷ ys) long = absurd (omega arith)
  mix_long (suc k) (x ∷ xs) [] long = absurd (omega arith)
  mix_long (suc k) (x ∷ xs) (y ∷ ys) long = ap suc (mix_long k xs ys (omega arith))

  pub each_parts : (P : A → Type 0) (xs : List A) (x : A) → Each P (xs ++ x ∷ []) → Each P xs × P x
  each_parts P [] x all = (tt, all.0)
  each_parts P (y ∷ ys) x all = let rest = each_parts P ys x all.1 in ((all.0, rest.0), rest.1)

module _ {A B : Type 0} (f : A → B) where
  -- one value more in the first list, and one less
  pub grown : (xs : List A) (x : A) (ys : List B) (k : ℕ) (d : B) → map f xs ≡ take k ys
      → k < length ys → f x ≡ get_or ys k d → map f (xs ++ x ∷ []) ≡ take (k + 1) ys
  grown xs x ys k d is low at = let next : suc k ≡ k + 1 = omega arith in
      map-append f xs (x ∷ [])
      ∙ ((λ i. is i ++ at i ∷ [])
      ∙ (sym (take-suc ys k d low) ∙ ap (λ (n : ℕ). take n ys) next))

  pub shrunk : (xs : List A) (x : A) (ys : List B) (k : ℕ) (d : B)
      → map f (xs ++ x ∷ []) ≡ take (k + 1) ys → k < length ys
      → (map f xs ≡ take k ys) × (f x ≡ get_or ys k d)
  shrunk xs x ys k d is low = let next : k + 1 ≡ suc k = omega arith in
      same_from_push (map f xs) (take k ys) (f x) (get_or ys k d)
      (sym (map-append f xs (x ∷ []))
      ∙ (is ∙ (ap (λ (n : ℕ). take n ys) next ∙ take-suc ys k d low)))
