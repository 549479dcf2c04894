-- What stands where a file is found, and what is changed and left out there.
use Rattle.std.proofs.Common.{◌≡◌, ◌≤◌, ℕ, suc, ◌+◌, List, [], ◌∷◌, refl, Option, Some, None, arith}
use Rattle.std.proofs.Common.{slice_set, slice_index_or, true, false, length}
use Rattle.std.specs.Prelude.{remove, insert, is_some, IfNone, IfSome}
use Rattle.std.proofs.lemmas.Grind.{common_steps}
use Rattle.glk_numbers.proofs.PlaceLemmas.{remove-cons}
use Rattle.glk_streams.specs.declared.file.File.{File}
use Rattle.glk_streams.specs.Files.{seat_of, spot_of, has_file, sum_of_bytes, content_of}
use Rattle.glk_streams.specs.Files.{file_with_bytes, with_file, without_file, file_of}

has-none : (fs : List File) (u : ℕ) (n : List ℕ) → None ≡ seat_of fs u n → has_file fs u n ≡ false
unfolding has_file seat_of
has-none [] u n e = refl
has-none (f ∷ fs) u n e = grind (arith, common_steps, has-none fs u n)

has-some : (fs : List File) (u : ℕ) (n : List ℕ) (i : ℕ) → Some i ≡ seat_of fs u n
    → has_file fs u n ≡ true
unfolding has_file seat_of
has-some [] u n i e = absurd (grind (arith, e))
has-some (f ∷ fs) u n i e = grind (arith, common_steps, has-some fs u n)

content-none : (fs : List File) (u : ℕ) (n : List ℕ) → None ≡ seat_of fs u n
    → content_of fs u n ≡ []
unfolding content_of seat_of
content-none [] u n e = refl
content-none (f ∷ fs) u n e = grind (arith, common_steps, content-none fs u n)

content-some : (fs : List File) (u : ℕ) (n : List ℕ) (i : ℕ) (d : File) → Some i ≡ seat_of fs u n
    → content_of fs u n ≡ (slice_index_or fs i d).bytes
unfolding content_of seat_of
content-some [] u n i d e = absurd (grind (arith, e))
content-some (f ∷ fs) u n i d e = grind (arith, common_steps, content-some fs u n)

with_bytes-some : (fs : List File) (u : ℕ) (n : List ℕ) (i : ℕ) (d : File) (b : List ℕ)
    → Some i ≡ seat_of fs u n
    → file_with_bytes fs u n b ≡ slice_set fs i (record (slice_index_or fs i d) { bytes = b })
unfolding file_with_bytes seat_of
with_bytes-some [] u n i d b e = absurd (grind (arith, e))
with_bytes-some (f ∷ fs) u n i d b e = grind (arith, common_steps, with_bytes-some fs u n)

without-none : (fs : List File) (u : ℕ) (n : List ℕ) → None ≡ seat_of fs u n
    → without_file fs u n ≡ fs
unfolding without_file seat_of
without-none [] u n e = refl
without-none (f ∷ fs) u n e = grind (arith, common_steps, without-none fs u n)

without-some : (fs : List File) (u : ℕ) (n : List ℕ) (i : ℕ) → Some i ≡ seat_of fs u n
    → without_file fs u n ≡ remove fs i
unfolding without_file seat_of
without-some [] u n i e = absurd (grind (arith, e))
without-some (f ∷ fs) u n i e = grind (arith, common_steps, without-some fs u n, remove-cons f fs)

insert-cons : {X : Type 0} (x y : X) (xs : List X) (i : ℕ)
    → insert (x ∷ xs) (1 + i) y ≡ x ∷ insert xs i y
insert-cons x y xs i = let e : 1 + i ≡ suc i = omega arith in rw e refl

pub with_file_at_spot : (fs : List File) (u : ℕ) (n b : List ℕ)
    → with_file fs u n b ≡ insert fs (spot_of fs u n) (file_of u n b)
unfolding with_file spot_of
with_file_at_spot [] u n b = refl
with_file_at_spot (f ∷ fs) u n b =
    grind (
      arith,
      common_steps,
      with_file_at_spot fs u n b,
      insert-cons f (file_of u n b) fs
          (spot_of fs u n),
    )

-- no file has more bytes than all
pub content_within : (fs : List File) (u : ℕ) (n : List ℕ)
    → length (content_of fs u n) ≤ sum_of_bytes fs
unfolding content_of sum_of_bytes
content_within [] u n = omega arith
content_within (f ∷ fs) u n = grind (arith, common_steps, content_within fs u n)

-- the same by the result of a search
module _ (fs : List File) (u : ℕ) (n : List ℕ) where
  pub is_had : (r : Option ℕ) → r ≡ seat_of fs u n → has_file fs u n ≡ is_some r
  is_had None e = has-none fs u n e
  is_had (Some i) e = has-some fs u n i e

  pub no_content : (r : Option ℕ) → r ≡ seat_of fs u n → IfNone r (content_of fs u n ≡ [])
  no_content None e = content-none fs u n e
  no_content (Some i) e = tt

  pub is_content : (r : Option ℕ) → r ≡ seat_of fs u n
      → IfSome r (λ i. (d : File) → content_of fs u n ≡ (slice_index_or fs i d).bytes)
  is_content None e = tt
  is_content (Some i) e = λ d. content-some fs u n i d e

  pub is_changed : (r : Option ℕ) → r ≡ seat_of fs u n
      → IfSome r (λ i. (d : File) (b : List ℕ)
      → file_with_bytes fs u n b ≡ slice_set fs i (record (slice_index_or fs i d) { bytes = b }))
  is_changed None e = tt
  is_changed (Some i) e = λ d b. with_bytes-some fs u n i d b e

  pub is_left : (r : Option ℕ) → r ≡ seat_of fs u n
      → IfSome r (λ i. without_file fs u n ≡ remove fs i)
  is_left None e = tt
  is_left (Some i) e = without-some fs u n i e

  pub none_is_left : (r : Option ℕ) → r ≡ seat_of fs u n → IfNone r (without_file fs u n ≡ fs)
  none_is_left None e = without-none fs u n e
  none_is_left (Some i) e = tt
