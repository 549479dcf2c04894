-- Echoes that come to an end.
use Rattle.std.proofs.Common.{◌≡◌, ◌≢◌, if◌then◌else◌, ◌⊎◌, inl, inr, ℕ, zero, suc, ◌+◌, ◌≤◌, ◌==◌}
use Rattle.std.proofs.Common.{◌||◌, Bool, true, false, List, [], ◌∷◌, length, refl, sym, ap, ◌∙◌}
use Rattle.std.proofs.Common.{arith}
use Rattle.std.proofs.lemmas.Grind.{common_steps}
use Rattle.std.proofs.lemmas.Bool.{cases_Bool, eqb-true, or_cases, or_left, or_parts, or_right}
use Rattle.glk_dispatch.specs.Links.{echoes_end, ComesToAnEnd, HasNoLoop}

-- a stream from which nothing goes on
pub over-stop : (k : ℕ) (f : ℕ → ℕ) (n : ℕ) → n ≡ 0 → echoes_end k f n ≡ true
unfolding echoes_end
over-stop zero f n e = rw e refl
over-stop (suc k) f n e = rw e refl

pub over-go : (k : ℕ) (f : ℕ → ℕ) (n : ℕ)
    → echoes_end k f (f n) ≡ true
    → echoes_end (suc k) f n ≡ true
unfolding echoes_end
over-go k f n e = elim (cases_Bool (n == 0)) [
  | inl h ↦ rw h refl
  | inr h ↦ rw h e
]

pub over-cases : (k : ℕ) (f : ℕ → ℕ) (n : ℕ) → echoes_end (suc k) f n ≡ true
    → (n ≡ 0) ⊎ (echoes_end k f (f n) ≡ true)
unfolding echoes_end
over-cases k f n e = elim (cases_Bool (n == 0)) [
  | inl h ↦ inl (grind (arith, common_steps, h))
  | inr h ↦ inr (rw h at e)
]

pub end-stop : (f : ℕ → ℕ) (n : ℕ) → n ≡ 0 → ComesToAnEnd f n
end-stop f n e = record { steps = 0; over = over-stop 0 f n e }

pub end-go : (f : ℕ → ℕ) (n m : ℕ) → f n ≡ m → ComesToAnEnd f m → ComesToAnEnd f n
end-go f n m e h = record {
  steps = suc h.steps;
  over = over-go h.steps f n
      (ap (echoes_end h.steps f) e ∙ h.over);
}

-- where each echo is as it was, or is none, no loop begins
end-fewer : (f g : ℕ → ℕ)
    → ((n : ℕ) → (g n ≡ f n) ⊎ (g n ≡ 0)) → (k n : ℕ)
    → echoes_end k f n ≡ true
    → ComesToAnEnd g n
unfolding echoes_end
end-fewer f g h zero n e = end-stop g n (grind (arith, common_steps, e))
end-fewer f g h (suc k) n e = elim (over-cases k f n e) [
  | inl z ↦ end-stop g n z
  | inr r ↦ elim (h n) [
    | inl same ↦ end-go g n (f n) same (end-fewer f g h k (f n) r)
    | inr none ↦ end-go g n 0 none (end-stop g 0 refl)
  ]
]

pub no_loop-fewer : (f g : ℕ → ℕ) → ((n : ℕ) → (g n ≡ f n) ⊎ (g n ≡ 0)) → HasNoLoop f → HasNoLoop g
no_loop-fewer f g h k n = end-fewer f g h (k n).steps n (k n).over

-- where one echo goes elsewhere, from where the echoes never come back
unfoldable pub walk : ℕ → (ℕ → ℕ) → ℕ → ℕ
walk zero f n = n
walk (suc k) f n = walk k f (f n)

end-away : (f g : ℕ → ℕ) (hit : ℕ → Bool) → ((n : ℕ) → hit n ≡ false → g n ≡ f n)
    → (k n : ℕ) → echoes_end k f n ≡ true → ((j : ℕ) → hit (walk j f n) ≡ false) → ComesToAnEnd g n
unfolding echoes_end walk
end-away f g hit same zero n e away = end-stop g n (grind (arith, common_steps, e))
end-away f g hit same (suc k) n e away = elim (over-cases k f n e) [
  | inl z ↦ end-stop g n z
  | inr r ↦ end-go g n (f n) (same n (away 0)) (end-away f g hit same k (f n) r (λ j. away (suc j)))
]

end-turned : (f g : ℕ → ℕ) (hit : ℕ → Bool) (b : ℕ) → ((n : ℕ) → hit n ≡ false → g n ≡ f n)
    → ((n : ℕ) → hit n ≡ true → g n ≡ b) → ComesToAnEnd g b → (k n : ℕ) → echoes_end k f n ≡ true
    → ComesToAnEnd g n
unfolding echoes_end
end-turned f g hit b same turned ends zero n e = end-stop g n (grind (arith, common_steps, e))
end-turned f g hit b same turned ends (suc k) n e = elim (over-cases k f n e) [
  | inl z ↦ end-stop g n z
  | inr r ↦ elim (cases_Bool (hit n)) [
    | inl h ↦ end-go g n b (turned n h) ends
    | inr h ↦ end-go g n (f n) (same n h) (end-turned f g hit b same turned ends k (f n) r)
  ]
]

pub no_loop-turned : (f g : ℕ → ℕ) (hit : ℕ → Bool) (b : ℕ) → ((n : ℕ) → hit n ≡ false → g n ≡ f n)
    → ((n : ℕ) → hit n ≡ true → g n ≡ b) → ((j : ℕ) → hit (walk j f b) ≡ false) → HasNoLoop f
    → HasNoLoop g
no_loop-turned f g hit b same turned away k n =
    end-turned f g hit b same turned (end-away f g hit same (k b).steps b (k b).over away)
    (k n).steps n (k n).over

-- a walk that ends meets a stream that it asks for within as many steps as there are windows
unfoldable pub passes : ℕ → (ℕ → ℕ) → (ℕ → Bool) → ℕ → Bool
passes zero f hit n = false
passes (suc k) f hit n = hit n || passes k f hit (f n)

pub walk-passes : (f : ℕ → ℕ) (hit : ℕ → Bool) → (j n : ℕ) → passes (suc j) f hit n ≡ false
    → hit (walk j f n) ≡ false
unfolding walk passes
walk-passes f hit zero n e = (or_parts (hit n) false e).0
walk-passes f hit (suc j) n e = walk-passes f hit j (f n)
    (or_parts (hit n) (passes (suc j) f hit (f n)) e).1

passes-more : (f : ℕ → ℕ) (hit : ℕ → Bool) → (j k n : ℕ) → j ≤ k → passes j f hit n ≡ true
    → passes k f hit n ≡ true
unfolding passes
passes-more f hit zero k n l e = absurd cc
passes-more f hit (suc j) zero n l e = absurd (omega (arith, l))
passes-more f hit (suc j) (suc k) n l e = elim (or_cases (hit n) (passes j f hit (f n)) e) [
  | inl h ↦ or_left (hit n) (passes k f hit (f n)) h
  | inr h ↦ or_right (hit n) (passes k f hit (f n))
      (passes-more f hit j k (f n) (omega (arith, l)) h)
]

-- from 0 nothing is passed
pub passes-none : (f : ℕ → ℕ) (hit : ℕ → Bool) → hit 0 ≡ false → f 0 ≡ 0 → (k : ℕ)
    → passes k f hit 0 ≡ false
unfolding passes
passes-none f hit h z zero = refl
passes-none f hit h z (suc k) = rw (h, z) (passes-none f hit h z k)

over-more : (f : ℕ → ℕ) → (k n : ℕ) → echoes_end k f n ≡ true → echoes_end (suc k) f n ≡ true
unfolding echoes_end
over-more f zero n e = or_left (n == 0) (echoes_end 0 f (f n)) e
over-more f (suc k) n e = elim (or_cases (n == 0) (echoes_end k f (f n)) e) [
  | inl h ↦ or_left (n == 0) (echoes_end (suc k) f (f n)) h
  | inr h ↦ or_right (n == 0) (echoes_end (suc k) f (f n)) (over-more f k (f n) h)
]

-- how many of these are so
unfoldable pub count : {X : Type 0} → (X → Bool) → List X → ℕ
count p [] = 0
count p (x ∷ xs) = (if p x then 1 else 0) + count p xs

pub count-length : {X : Type 0} (p : X → Bool) (xs : List X) → count p xs ≤ length xs
unfolding count
count-length p [] = omega arith
count-length p (x ∷ xs) = grind (arith, common_steps, count-length p xs)

unfoldable pub is_in : {X : Type 0} → (X → Bool) → List X → Bool
is_in p [] = false
is_in p (x ∷ xs) = p x || is_in p xs

pub count-less : {X : Type 0} (p q : X → Bool) → ((x : X) → p x ≡ true → q x ≡ true) → (xs : List X)
    → count p xs ≤ count q xs
unfolding count
count-less p q h [] = omega arith
count-less p q h (x ∷ xs) = let i = h x in grind (arith, common_steps, count-less p q h xs, i)

pub count-some : {X : Type 0} (p q r : X → Bool) → ((x : X) → p x ≡ true → q x ≡ true)
    → ((x : X) → r x ≡ true → (p x ≡ false) × (q x ≡ true)) → (xs : List X) → is_in r xs ≡ true
    → count p xs + 1 ≤ count q xs
unfolding count is_in
count-some p q r h k [] e = absurd cc
count-some p q r h k (x ∷ xs) e = elim (or_cases (r x) (is_in r xs) e) [
  | inl i ↦ let j = k x i in rw (j.0, j.1) (let l = count-less p q h xs in omega (arith, l))
  | inr i ↦ let l = count-some p q r h k xs i in let j = h x in grind (arith, common_steps, l, j)
]

-- the streams from which the echoes go on are the windows'; each has its window in the list
pub record AreListed {X : Type 0} (f : ℕ → ℕ) (hit own : ℕ → Bool) (echo : X
    → ℕ) (ws : List X) : Type 0 where
  pub listed : (n : ℕ) → own n ≡ true → is_in (λ x. echo x == f n) ws ≡ true
  pub others : (n : ℕ) → own n ≡ false → (f n ≡ 0) × (hit n ≡ false)
  pub none : own 0 ≡ false

over-not : (f : ℕ → ℕ) (k n : ℕ) → echoes_end k f n ≡ false → n ≢ 0
over-not f k n e z = let c : true ≡ false = sym (over-stop k f n z) ∙ e in absurd cc

-- where the echoes come to an end at one step more, so do those of a window more
count-next : {X : Type 0} (f : ℕ → ℕ) (echo : X → ℕ) (ws : List X) (k n : ℕ)
    → echoes_end k f (f n) ≡ false → echoes_end (suc k) f (f n) ≡ true
    → is_in (λ x. echo x == f n) ws ≡ true
    → count (λ x. echoes_end k f (echo x)) ws + 1 ≤ count (λ x. echoes_end (suc k) f (echo x)) ws
count-next f echo ws k n before on there =
    count-some (λ x. echoes_end k f (echo x)) (λ x. echoes_end (suc k) f (echo x))
    (λ x. echo x == f n) (λ x h. over-more f k (echo x) h)
    (λ x h. (
      ap (echoes_end k f) (eqb-true (echo x) (f n) h) ∙ before,
      ap (echoes_end (suc k) f) (eqb-true (echo x) (f n) h) ∙ on,
    )) ws there

-- a window is counted
count-one : {X : Type 0} (f : ℕ → ℕ) (echo : X → ℕ) (ws : List X) (k m : ℕ)
    → is_in (λ x. echo x == m) ws ≡ true
    → echoes_end k f m ≡ true → 1 ≤ count (λ x. echoes_end k f (echo x)) ws
count-one f echo ws k m i e =
    let l = count-some (λ x. false) (λ x. echoes_end k f (echo x)) (λ x. echo x == m)
    (λ x h. absurd cc)
    (λ x h. (refl, ap (echoes_end k f) (eqb-true (echo x) m h) ∙ e)) ws i in
    omega (arith, l)

over-zero : (f : ℕ → ℕ) (n : ℕ) → echoes_end 0 f n ≡ true → n ≡ 0
unfolding echoes_end
over-zero f n e = eqb-true n 0 e

over-on : (k : ℕ) (f : ℕ → ℕ) (n : ℕ) → echoes_end (suc k) f n ≡ true → echoes_end k f n ≡ false
    → echoes_end k f (f n) ≡ true
over-on k f n e not = elim (over-cases k f n e) [
  | inl z ↦ absurd (over-not f k n not z)
  | inr r ↦ r
]

over-before : (k : ℕ) (f : ℕ → ℕ) (n : ℕ)
    → echoes_end (suc k) f n ≡ false
    → echoes_end k f (f n) ≡ false
unfolding echoes_end
over-before k f n e = (or_parts (n == 0) (echoes_end k f (f n)) e).1

passes-nil : (f : ℕ → ℕ) (hit : ℕ → Bool) (n : ℕ) → passes 0 f hit n ≡ true → ⊥
unfolding passes
passes-nil f hit n e = absurd cc

passes-cases : (i : ℕ) (f : ℕ → ℕ) (hit : ℕ → Bool) (n : ℕ) → passes (suc i) f hit n ≡ true
    → (hit n ≡ true) ⊎ (passes i f hit (f n) ≡ true)
unfolding passes
passes-cases i f hit n e = or_cases (hit n) (passes i f hit (f n)) e

passes-go : (i : ℕ) (f : ℕ → ℕ) (hit : ℕ → Bool) (n : ℕ) → passes i f hit (f n) ≡ true
    → passes (suc i) f hit n ≡ true
unfolding passes
passes-go i f hit n e = or_right (hit n) (passes i f hit (f n)) e

passes-hit : (i : ℕ) (f : ℕ → ℕ) (hit : ℕ → Bool) (n : ℕ) → 1 ≤ i → hit n ≡ true → passes i f hit n
    ≡ true
unfolding passes
passes-hit zero f hit n l e = absurd (omega (arith, l))
passes-hit (suc i) f hit n l e = or_left (hit n) (passes i f hit (f n)) e

module _ {X : Type 0} (f : ℕ → ℕ) (hit own : ℕ → Bool) (echo : X
    → ℕ) (ws : List X) (all : AreListed f hit own echo ws) where
  none-passed : (i : ℕ) (n : ℕ) → n ≡ 0 → passes i f hit n ≡ true → ⊥
  none-passed i n z e =
      let o = all.others 0 all.none in
      let c : true ≡ false = sym e ∙ ap (passes i f hit) z
      ∙ passes-none f hit o.1 o.0 i in absurd cc

  is-own : (n : ℕ) → (own n ≡ false → ⊥) → own n ≡ true
  is-own n h = elim (cases_Bool (own n)) [
    | inl e ↦ e
    | inr e ↦ absurd (h e)
  ]

  pub few-step : (k n j : ℕ)
      → echoes_end (suc k) f n ≡ true → echoes_end k f n ≡ false
      → passes j f hit n
      ≡ true
      → ((i : ℕ) → passes i f hit (f n) ≡ true → echoes_end k f (f n) ≡ true
      → passes (count (λ x. echoes_end k f (echo x)) ws) f hit n ≡ true)
      → passes (count (λ x. echoes_end k f (echo x)) ws) f hit n ≡ true
  few-step k n zero o not e rest = absurd (passes-nil f hit n e)
  few-step k n (suc i) o not e rest =
      let on = over-on k f n o not in
      elim (passes-cases i f hit n e) [
        | inl h ↦
            let own_n = is-own n (λ c. let d : true ≡ false = sym h
            ∙ (all.others n c).1 in absurd cc) in
            passes-hit (count (λ x. echoes_end k f (echo x)) ws) f hit n
            (count-one f echo ws k (f n) (all.listed n own_n) on) h
        | inr p ↦ rest i p on
      ]

  pub few : (k n j : ℕ)
      → echoes_end (suc k) f n ≡ true → echoes_end k f n ≡ false
      → passes j f hit n
      ≡ true
      → passes (count (λ x. echoes_end k f (echo x)) ws) f hit n ≡ true
  few zero n j o not e = few-step 0 n j o not e (λ i p on. absurd
      (none-passed i (f n) (over-zero f (f n) on) p))
  few (suc k) n j o not e = few-step (suc k) n j o not e (λ i p on.
      let own_n = is-own n (λ c. none-passed i (f n) (all.others n c).0 p) in
      let before = over-before k f n not in
      let some = count-next f echo ws k n before on (all.listed n own_n) in
      passes-more f hit (suc (count (λ x. echoes_end k f (echo x)) ws))
      (count (λ x. echoes_end (suc k) f (echo x)) ws) n (omega (arith, some))
      (passes-go (count (λ x. echoes_end k f (echo x)) ws) f hit n (few k (f n) i on before p)))

  first-over : (k n j : ℕ) → echoes_end k f n ≡ true → passes j f hit n ≡ true
      → passes (length ws) f hit n ≡ true
  first-over zero n j o e = absurd (none-passed j n (over-zero f n o) e)
  first-over (suc k) n j o e = elim (cases_Bool (echoes_end k f n)) [
    | inl before ↦ first-over k n j before e
    | inr before ↦ passes-more f hit (count (λ x. echoes_end k f (echo x)) ws) (length ws) n
        (count-length (λ x. echoes_end k f (echo x)) ws)
        (few k n j o before e)
  ]

  -- the test that stops after as many steps as there are windows misses nothing
  pub passes-within : (n j : ℕ) → ComesToAnEnd f n → passes (length ws) f hit n ≡ false
      → passes j f hit n ≡ false
  passes-within n j ends e = elim (cases_Bool (passes j f hit n)) [
    | inl h ↦ let c : true ≡ false = sym (first-over ends.steps n j ends.over h) ∙ e in absurd cc
    | inr h ↦ h
  ]

-- ---- echoes that end do so within as many steps as there are windows, and one

pub over-same : (f g : ℕ → ℕ)
    → ((n : ℕ) → f n ≡ g n) → (k n : ℕ)
    → echoes_end k f n ≡ echoes_end k g n
unfolding echoes_end
over-same f g e zero n = refl
over-same f g e (suc k) n =
    ap (λ m. n == 0 || echoes_end k f m) (e n) ∙ ap (λ b. n == 0 || b) (over-same f g e k (g n))

over-most : (f : ℕ → ℕ) (j k n : ℕ) → j ≤ k → echoes_end j f n ≡ true → echoes_end k f n ≡ true
over-most f zero k n l e = over-stop k f n (over-zero f n e)
over-most f (suc j) zero n l e = absurd (omega (arith, l))
over-most f (suc j) (suc k) n l e = elim (over-cases j f n e) [
  | inl z ↦ over-stop (suc k) f n z
  | inr r ↦ over-go k f n (over-most f j k (f n) (omega (arith, l)) r)
]

module _ {X : Type 0} (f : ℕ → ℕ) (echo : X → ℕ) (ws : List X)
    (listed : (n : ℕ) → f n ≢ 0 → is_in (λ x. echo x == f n) ws ≡ true) where
  steps-counted : (k n : ℕ) → echoes_end (suc k) f n ≡ true → echoes_end k f n ≡ false
      → k ≤ count (λ x. echoes_end k f (echo x)) ws
  steps-counted zero n o not = omega arith
  steps-counted (suc k) n o not =
      let before = over-before k f n not in
      let on = over-on (suc k) f n o not in
      let less = steps-counted k (f n) on before in
      let some = count-next f echo ws k n before on (listed n (over-not f k (f n) before)) in
      omega (arith, less, some)

  pub over-within : (k n : ℕ) → echoes_end k f n ≡ true → echoes_end (suc (length ws)) f n ≡ true
  over-within zero n o = over-stop (suc (length ws)) f n (over-zero f n o)
  over-within (suc k) n o = elim (cases_Bool (echoes_end k f n)) [
    | inl before ↦ over-within k n before
    | inr before ↦
        let some = steps-counted k n o before in
        let all = count-length (λ x. echoes_end k f (echo x)) ws in
        over-most f (suc k) (suc (length ws)) n (omega (arith, some, all)) o
  ]
