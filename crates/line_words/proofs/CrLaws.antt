-- A line is a spelling, with a CR behind it or without.
use Rattle.std.proofs.Common.{◌≡◌, ℕ, zero, suc, ◌-◌, ◌+◌, ◌<◌, ◌⊎◌, inl, inr, Bool, true}
use Rattle.std.proofs.Common.{false, ◌==◌, cond, nat_lt, List, [], ◌∷◌, ◌++◌, length, get_or}
use Rattle.std.proofs.Common.{take, Option, Some, refl, ap, sym, ◌∙◌, arith}
use Rattle.std.proofs.lemmas.Bool.{and_parts}
use Rattle.std.proofs.lemmas.Bool.Decides.{nat_tests}
use Rattle.std.proofs.lemmas.List.{length-append, take_at, take_all, take_more}
use Rattle.std.proofs.Math.Seq.{get_or-append_seam}
use Rattle.line_words.specs.Play.{ends_in_cr, without_cr, is_long, unless_long}
use Rattle.line_words.specs.Spelling.{IsLineOf}
use Rattle.line_words.proofs.WordLaws.{else_some}
use Rattle.line_words.proofs.ReaderLaws.{NoCr}

no_cr_at : (bs : List ℕ) (i : ℕ) → NoCr bs → i < length bs → (get_or bs i 0 == 13) ≡ false
no_cr_at [] i h lt = absurd (omega (arith, lt))
no_cr_at (b ∷ bs) zero h lt = h.0
no_cr_at (b ∷ bs) (suc i) h lt = no_cr_at bs i h.1 (omega (arith, lt))

-- a line without a CR stands as it is
stays : (line : List ℕ) → NoCr line → without_cr line ≡ line
unfolding without_cr
stays [] h = refl
stays (b ∷ bs) h =
    let last = no_cr_at (b ∷ bs) (length (b ∷ bs) - 1) h (omega arith) in
    let some : nat_lt 0 (length (b ∷ bs)) ≡ true = grind (arith, nat_tests) in
    rw (some, last) refl

-- a CR at the end is dropped
drops_cr : (line : List ℕ) → without_cr (line ++ 13 ∷ []) ≡ line
unfolding without_cr
drops_cr line =
    let len : length (line ++ (13 ∷ [])) ≡ length line + 1 =
    omega (arith, length-append line (13 ∷ [])) in
    let less : length line + 1 - 1 ≡ length line = omega arith in
    let some : nat_lt 0 (length line + 1) ≡ true = grind (arith, nat_tests) in
    let last : get_or (line ++ (13 ∷ [])) (length line) 0 ≡ 13 = get_or-append_seam line 13 [] 0 in
    rw (len, less, some, last, take_at line (13 ∷ []) (length line) refl) refl

-- a list that isn't empty is all but its last item, and that item
last_apart : (line : List ℕ)
    → 0 < length line
    → line ≡ take (length line - 1) line ++ (get_or line (length line - 1) 0 ∷ [])
last_apart line more =
    let within : length line - 1 < length line = omega (arith, more) in
    let all : length line - 1 + 1 ≡ length line = omega (arith, more) in
    sym (take_all (length line) line (omega arith))
    ∙ ap (λ (n : ℕ). take n line) (sym all)
    ∙ take_more line (length line - 1) 0 within

-- what stands before the CR that may end a line
cr_parts : (line : List ℕ) → (line ≡ without_cr line) ⊎ (line ≡ without_cr line ++ 13 ∷ [])
unfolding without_cr
cr_parts line = by (ends_in_cr line) refl where
  by : (ends : Bool)
      → ends_in_cr line ≡ ends
      → (line ≡ cond ends (take (length line - 1) line) line)
      ⊎ (line ≡ cond ends (take (length line - 1) line) line ++ 13 ∷ [])
  by false e = inl refl
  by true e =
      let h = and_parts (nat_lt 0 (length line)) (get_or line (length line - 1) 0 == 13) e in
      let more : 0 < length line = grind (arith, nat_tests, h.0) in
      let last : get_or line (length line - 1) 0 ≡ 13 = grind (arith, nat_tests, h.1) in
      inr (last_apart line more ∙ ap (λ (x : ℕ). take (length line - 1) line ++ (x ∷ [])) last)

pub line_again : {A : Type 0} (Spells : List ℕ → A → Type 0) (read : List ℕ → Option A)
    → ((bytes : List ℕ) (x : A) → Spells bytes x → (read bytes ≡ Some x) × NoCr bytes)
    → (line : List ℕ) (x : A) → IsLineOf Spells line x
    → unless_long line (read (without_cr line)) ≡ Some x
line_again Spells read again line x (spelling, h, stands, short) =
    let fits : is_long line ≡ false = grind (arith, nat_tests, short) in
    let bare : without_cr line ≡ spelling =
    elim stands [
      | inl same ↦ ap without_cr same ∙ stays spelling (again spelling x h).1
      | inr cr ↦ ap without_cr cr ∙ drops_cr spelling
    ] in
    rw (fits, bare) (again spelling x h).0

pub line_only : {A : Type 0} (Spells : List ℕ → A → Type 0) (read : List ℕ → Option A)
    → ((bytes : List ℕ) (x : A) → read bytes ≡ Some x → Spells bytes x)
    → (line : List ℕ) (x : A)
    → unless_long line (read (without_cr line)) ≡ Some x
    → IsLineOf Spells line x
line_only Spells read only line x e =
    let h = else_some (is_long line) (read (without_cr line)) x e in
    (without_cr line, only (without_cr line) x h.1, cr_parts line, grind (arith, nat_tests, h.0))
