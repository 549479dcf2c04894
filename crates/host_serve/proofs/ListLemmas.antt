-- Lists that go on, and entries at their places.
use Rattle.std.proofs.Common.{◌≡◌, ◌∙◌, ℕ, zero, suc, ◌+◌, ◌<◌, ◌≤◌, Some, None}
use Rattle.std.proofs.Common.{List, [], ◌∷◌, ◌++◌, length, take, set, get_or, refl, ap, sym, subst}
use Rattle.std.proofs.Common.{⊎_elim, arith, append_assoc}
use Rattle.std.specs.Prelude.{slice_get}
use Rattle.std.proofs.Math.ListN.{get_or-append}
use Rattle.std.proofs.Math.Seq.{get_or-append_seam, take-suc}
use Rattle.std.proofs.lemmas.Bool.{cases_lt}
use Rattle.std.proofs.lemmas.List.{length-append}
use Rattle.std.proofs.lemmas.Option.{get_or_from_slice_get, none-some, same_Some, slice_get_within}
use Rattle.turn_cell.specs.History.{Continues, Each}
use Rattle.turn_cell.proofs.HistoryLemmas.{each_append}

module _ {A : Type 0} where
  pub same_some : (a b : A) → Some a ≡ Some b → a ≡ b
  same_some a b e = same_Some a b e

  pub none_some : (x : A) → None ≡ Some x → ⊥
  none_some x e = none-some x e

  -- past the first list and within the second stands one of the second
  pub each_there : (P : A → Type 0) (xs rest tail : List A) (i : ℕ) (e : A) → Each P rest
      → length xs ≤ i → i < length (xs ++ rest) → slice_get ((xs ++ rest) ++ tail) i ≡ Some e
      → P e
  each_there P [] [] tail i e each low high is = absurd (omega arith)
  each_there P [] (x ∷ rest) tail zero e each low high is = subst P (same_some x e is) each.0
  each_there P [] (x ∷ rest) tail (suc i) e each low high is =
      each_there P [] rest tail i e each.1 (omega arith) (omega arith) is
  each_there P (x ∷ xs) rest tail zero e each low high is = absurd (omega arith)
  each_there P (x ∷ xs) rest tail (suc i) e each low high is =
      each_there P xs rest tail i e each (omega arith) (omega arith) is

  pub get_last : (xs rest : List A) (x : A) → slice_get (xs ++ x ∷ rest) (length xs) ≡ Some x
  get_last [] rest x = refl
  get_last (y ∷ xs) rest x = get_last xs rest x

  pub length_more : (xs : List A) (x : A) → length (xs ++ x ∷ []) ≡ length xs + 1
  length_more xs x = length-append xs (x ∷ [])

  pub each_at : (P : A → Type 0) (xs : List A) (k : ℕ) (d : A) → Each P xs → k < length xs
      → P (get_or xs k d)
  each_at P [] k d each low = absurd (omega arith)
  each_at P (x ∷ xs) zero d each low = each.0
  each_at P (x ∷ xs) (suc k) d each low = each_at P xs k d each.1 (omega arith)

  pub each_set : (P : A → Type 0) (xs : List A) (k : ℕ) (y : A) → Each P xs → P y
      → Each P (set xs k y)
  each_set P [] k y each p = tt
  each_set P (x ∷ xs) zero y each p = (p, each.1)
  each_set P (x ∷ xs) (suc k) y each p = (each.0, each_set P xs k y each.1 p)

  pub take_more : (xs : List A) (i : ℕ) (x : A) → slice_get xs i ≡ Some x
      → take (i + 1) xs ≡ take i xs ++ x ∷ []
  take_more xs i x e = let next : i + 1 ≡ suc i = omega arith in
      ap (λ (n : ℕ). take n xs) next ∙ (take-suc xs i x (slice_get_within xs i x e)
      ∙ ap (λ (y : A). take i xs ++ y ∷ []) (get_or_from_slice_get xs i x x e))

  -- what holds of items by their places, and of one more that is put behind them
  pub one_more : (P : ℕ → A → Type 0) (xs : List A) (x d : A) (n : ℕ) → length xs ≡ n
      → ((s : ℕ) → s < n → P s (get_or xs s d)) → P n x
      → (s : ℕ) → s < n + 1 → P s (get_or (xs ++ x ∷ []) s d)
  one_more P xs x d n many each last s low = ⊎_elim
      (λ (below : s < n). subst (P s)
      (sym (get_or-append xs (x ∷ []) d s (omega arith))) (each s below))
      (λ (past : n ≤ s). let place : length xs ≡ s = omega arith in
      let same : n ≡ s = omega arith in
      subst (P s) (sym (get_or-append_seam xs x [] d)
      ∙ ap (λ (k : ℕ). get_or (xs ++ x ∷ []) k d) place) (subst (λ (k : ℕ). P k x) same last))
      (cases_lt s n)

  -- what goes on from what goes on
  pub goes_on : (P : A → Type 0) (a b c : List A) → Continues P b a → Continues P c b
      → Continues P c a
  goes_on P a b c s t = (
    s.0 ++ t.0,
    t.1 ∙ (ap (λ (l : List A). l ++ t.0) s.1 ∙ append_assoc a s.0 t.0),
    each_append P s.0 t.0 s.2 t.2,
  )
