-- The characters of runs as they were put.
use Rattle.std.proofs.Common.{◌≡◌, ◌≢◌, ◌∙◌, ℕ, ◌<◌, List, [], ◌∷◌, ◌++◌, length, map, Bool}
use Rattle.std.proofs.Common.{true, false, if◌then◌else◌, refl, ap, sym, arith, append_assoc}
use Rattle.std.proofs.lemmas.Grind.{common_steps}
use Rattle.glk_windows.specs.declared.text.Run.{Run}
use Rattle.glk_windows.specs.Output.{ends_in_style, last_longer, longer_run}
use Rattle.glk_windows.specs.Laws.{spelled_by, AreRuns, SpellsOutput}

map-append : {A B : Type 0} (f : A → B) (xs ys : List A) → map f (xs ++ ys) ≡ map f xs ++ map f ys
map-append f [] ys = refl
map-append f (x ∷ xs) ys = ap (λ l. f x ∷ l) (map-append f xs ys)

append-nil : {A : Type 0} (xs : List A) → xs ++ [] ≡ xs
append-nil [] = refl
append-nil (x ∷ xs) = ap (λ l. x ∷ l) (append-nil xs)

-- a run with one more code is that run's characters and this one
longer-spelled : (r : Run) (code : ℕ) (rest : List (ℕ × ℕ))
    → map (λ c. (c, r.style)) (longer_run r code).codes ++ rest
    ≡ map (λ c. (c, r.style)) r.codes ++ ((code, r.style) ∷ rest)
longer-spelled r code rest =
    ap (λ (l : List (ℕ × ℕ)). l ++ rest) (map-append (λ c. (c, r.style)) r.codes (code ∷ []))
    ∙ append_assoc (map (λ c. (c, r.style)) r.codes) ((code, r.style) ∷ []) rest

last-spelled : (rs : List Run) (code style : ℕ) → ends_in_style rs style ≡ true
    → spelled_by (last_longer rs code) ≡ spelled_by rs ++ (code, style) ∷ []
unfolding ends_in_style last_longer
last-spelled [] code style e = absurd cc
last-spelled (r ∷ []) code style e =
    let same : r.style ≡ style = grind (arith, common_steps, e) in
    longer-spelled r code []
    ∙ ap (λ (s : ℕ). map (λ c. (c, r.style)) r.codes ++ ((code, s) ∷ [])) same
    ∙ ap (λ (l : List (ℕ × ℕ)). l ++ (code, style) ∷ [])
    (sym (append-nil (map (λ c. (c, r.style)) r.codes)))
last-spelled (r ∷ s ∷ rs) code style e =
    ap (λ (l : List (ℕ × ℕ)). map (λ c. (c, r.style)) r.codes ++ l)
    (last-spelled (s ∷ rs) code style e)
    ∙ sym
    (append_assoc (map (λ c. (c, r.style)) r.codes) (spelled_by (s ∷ rs)) ((code, style) ∷ []))

more-spelled : (rs : List Run) (code style : ℕ)
    → spelled_by (rs ++ (record { style = style; codes = code ∷ [] }) ∷ [])
    ≡ spelled_by rs ++ (code, style) ∷ []
more-spelled [] code style = refl
more-spelled (r ∷ rs) code style =
    ap (λ (l : List (ℕ × ℕ)). map (λ c. (c, r.style)) r.codes ++ l) (more-spelled rs code style)
    ∙ sym (append_assoc (map (λ c. (c, r.style)) r.codes) (spelled_by rs) ((code, style) ∷ []))

run_on-spelled : (b : Bool) (rs : List Run) (code style : ℕ) → ends_in_style rs style ≡ b
    → spelled_by
    (if b then last_longer rs code else rs ++ (record { style = style; codes = code ∷ [] }) ∷ [])
    ≡ spelled_by rs ++ (code, style) ∷ []
run_on-spelled true rs code style e = last-spelled rs code style e
run_on-spelled false rs code style e = more-spelled rs code style

-- ---- what runs are

-- a list that begins with a run of this style
abbrev Begins : ℕ → List Run → Type 0
Begins style [] = Unit {0}
Begins style (r ∷ rs) = r.style ≡ style

last_begins : (s : Run) (rs : List Run) (code : ℕ) → Begins s.style (last_longer (s ∷ rs) code)
unfolding last_longer
last_begins s [] code = refl
last_begins s (t ∷ rs) code = refl

consed : (r : Run) (style : ℕ) (rs : List Run)
    → 0 < length r.codes → r.style ≢ style → Begins style rs
    → AreRuns rs
    → AreRuns (r ∷ rs)
consed r style [] l d b a = l
consed r style (s ∷ rs) l d b a = (l, (λ e. d (e ∙ b)), a)

longer_more : (r : Run) (code : ℕ) → 0 < length (longer_run r code).codes
longer_more r code = size r.codes
  where
    size : (xs : List ℕ) → 0 < length (xs ++ code ∷ [])
    size [] = omega arith
    size (x ∷ xs) = omega arith

last-runs : (rs : List Run) (code : ℕ) → AreRuns rs → AreRuns (last_longer rs code)
unfolding last_longer
last-runs [] code a = a
last-runs (r ∷ []) code a = longer_more r code
last-runs (r ∷ s ∷ rs) code a =
    consed r s.style (last_longer (s ∷ rs) code) a.0 a.1 (last_begins s rs code)
    (last-runs (s ∷ rs) code a.2)

more-runs : (rs : List Run) (code style : ℕ) → ends_in_style rs style ≡ false → AreRuns rs
    → AreRuns (rs ++ (record { style = style; codes = code ∷ [] }) ∷ [])
unfolding ends_in_style
more-runs [] code style e a = omega arith
more-runs (r ∷ []) code style e a =
    (a, (λ d. absurd (grind (arith, common_steps, d, e))), omega arith)
more-runs (r ∷ s ∷ rs) code style e a = (a.0, a.1, more-runs (s ∷ rs) code style e a.2)

run_on-runs : (b : Bool) (rs : List Run) (code style : ℕ) → ends_in_style rs style ≡ b → AreRuns rs
    → AreRuns
    (if b then last_longer rs code else rs ++ (record { style = style; codes = code ∷ [] }) ∷ [])
run_on-runs true rs code style e a = last-runs rs code a
run_on-runs false rs code style e a = more-runs rs code style e a

pub spells_output : SpellsOutput
spells_output = record {
  none = refl;
  more = λ rs code style. run_on-spelled (ends_in_style rs style) rs code style refl;
  runs = λ rs code style a. run_on-runs (ends_in_style rs style) rs code style refl a;
}
