-- What a turn tells at its end, from what its steps told.
use Rattle.std.proofs.Common.{◌≡◌, ℕ, ◌+◌, ◌^◌, ◌%◌, ◌<◌, List, [], ◌∷◌, ◌++◌}
use Rattle.std.proofs.Common.{length, get_or, inl, inr, sym, refl, ap, ◌∙◌, subst, arith}
use Rattle.std.proofs.Common.{Option, Some, None, length-append}
use mathlib.Core.Option.{none}
use Rattle.std.specs.Option.{IsSome}
use Rattle.atomic_table.specs.Table.{Me, State, rest, step, Allows}
use Rattle.turn_cell.specs.declared.view.View.{View}
use Rattle.turn_cell.specs.declared.view.Stage.TheVariants.{Waits}
use Rattle.turn_cell.specs.History.{IsAmong}
use Rattle.turn_cell.specs.Views.{at_stage, HasValue, MayLeave, HasNumberFirst, tag_in}
use Rattle.turn_cell.specs.Steps.{PassesOn, Raises, FindsValue, TakesValue}
use Rattle.turn_cell.specs.Rule.{Legal}
use Rattle.turn_cell.proofs.HistoryLemmas.{among_head}
use Rattle.turn_cell.proofs.StepLemmas.{raises, passes}

module _ {T : Type 0} where
  pub held_same : (c more : List (ℕ × Option T)) (a b : Option T)
      → c ≡ (0, a) ∷ more → c ≡ (0, b) ∷ rest c → b ≡ a
  held_same c more a b e f =
      ap (λ (l : List (ℕ × Option T)). (get_or l 0 (0, b)).1) (sym f ∙ e)

module _ {T E G : Type 0} (entries : T → List E) (by : E → ℕ) (tag : T → G) where
  abbrev M : Type 0
  M = Me (Option T) (View E T)

  pub takes_value : (m0 m m' n : M) (t : ℕ) (x : T) (result : Option T)
      → m ≡ (at_stage m0.0 (Waits t) m0.0.seen, [])
      → FindsValue entries by tag m t m'
      → m'.1 ≡ (0, result) ∷ rest m'.1
      → n ≡ (m'.0, (0, None) ∷ rest m'.1) → result ≡ Some x
      → TakesValue entries by tag m0 x n
  takes_value m0 m m' n t x result is taken held now some_is =
      let k : FindsValue entries by tag (at_stage m0.0 (Waits t) m0.0.seen, []) t m' =
      subst (λ (z : M). FindsValue entries by tag z t m') is taken in
      let value = k.0 in
      let found : result ≡ Some value =
      held_same m'.1 [] (Some value) result (ap (λ (z : M). z.1) k.1) held in
      let same : value ≡ x = cc (found, some_is) in
      let at_value : TakesValue entries by tag m0 value n =
      (t, now ∙ (λ i. ((k.1 i).0, (0, None) ∷ rest (k.1 i).1)), k.2) in
      subst (λ (y : T). TakesValue entries by tag m0 y n) same at_value

  tag_found : (o : Option T) (g : G) → tag_in tag o ≡ Some g → (x : T) × (o ≡ Some x) × (g ≡ tag x)
  tag_found None g e = absurd cc
  tag_found (Some x) g e = (x, refl, cc)

  pub tag_shown : (o : Option T) (value : T)
      → IsSome o → ((x : T) → o ≡ Some x → tag value ≡ tag x)
      → tag_in tag o ≡ Some (tag value)
  tag_shown None value some_is same = absurd cc
  tag_shown (Some x) value some_is same = ap Some (sym (same x refl))

  abbrev V : Type 0
  V = View E T

  -- the seat, with the value put into the slot that it holds
  pub rested : (m0 m1 : M) (value : T)
      → HasValue m0 → m1 ≡ (m0.0, (0, Some value) ∷ rest m0.1)
      → m1 ≡ (m0.0, (0, Some value) ∷ [])
  rested m0 m1 value has e =
      e ∙ ap (λ (c : List (ℕ × Option T)). let v : V = m0.0 in (v, (0, Some value) ∷ rest c)) has.2

  pub kept_seen : (v : V) (value : T)
      → MayLeave entries by tag v value
      → length (entries value) ≡ length v.seen
      → entries value ≡ v.seen
  kept_seen v value may same = elim may.1 [
    | inl e ↦ e
    | inr t ↦ absurd (omega (arith, ap length t.1, length-append v.seen (t.0 ∷ []), same))
  ]

  pub one_more : (v : V) (value : T)
      → MayLeave entries by tag v value
      → (length (entries value) ≡ length v.seen → ⊥)
      → (e : E) × (entries value ≡ v.seen ++ e ∷ []) × (by e ≡ v.number)
  one_more v value may differ =
      elim may.1 [ inl e ↦ absurd (differ (ap length e)) | inr t ↦ t ]

  module _ (first : T) where
    abbrev R : State (Option T) V → Type 0
    R = Legal entries by tag first

    pub raises_at : (slots id : ℕ) (m0 m1 : M) (value : T)
        → HasValue m0 → HasNumberFirst m0.0
        → MayLeave entries by tag m0.0 value
        → (length (entries value) ≡ length m0.0.seen → ⊥)
        → length (entries value) < 2 ^ 64
        → m1 ≡ (m0.0, (0, Some value) ∷ [])
        → Allows R slots id m1 2 (λ n. (n + 1) % 2 ^ 64) (Raises entries (step 0 0 0 0 none) m1)
    raises_at slots id m0 m1 value has numbered may differ room is =
        let more = one_more m0.0 value may differ in
        subst (λ (z : M).
        Allows R slots id z 2 (λ n. (n + 1) % 2 ^ 64) (Raises entries (step 0 0 0 0 none) z))
        (sym is)
        (raises entries by tag first slots id (step 0 0 0 0 none)
        (m0.0, (0, Some value) ∷ []) has.0 value more.0 has.1 refl more.1
        (subst (λ (n : ℕ). IsAmong n m0.0.holds) (sym more.2)
        (among_head m0.0.number m0.0.holds numbered.0 numbered.1)) room)

    pub passes_at : (slots id : ℕ) (m0 m1 : M) (value : T)
        → HasValue m0 → MayLeave entries by tag m0.0 value
        → m1 ≡ (at_stage m0.0 m0.0.stage (entries value), (0, Some value) ∷ [])
        → Allows R slots id m1 1 (λ n. (n + 1) % 2 ^ 64) (PassesOn (step 0 0 0 0 none) m1)
    passes_at slots id m0 m1 value has may is =
        subst
        (λ (z : M). Allows R slots id z 1 (λ n. (n + 1) % 2 ^ 64) (PassesOn (step 0 0 0 0 none) z))
        (sym is)
        (passes entries by tag first slots id (step 0 0 0 0 none)
        (at_stage m0.0 m0.0.stage (entries value), (0, Some value) ∷ []) has.0 value
        (tag_found m0.0.sample (tag value) may.0).0 has.1 refl refl
        (tag_found m0.0.sample (tag value) may.0).1 (tag_found m0.0.sample (tag value) may.0).2)

  pub raised_to : (m0 m1 m2 : M) (value : T)
      → m1 ≡ (m0.0, (0, Some value) ∷ [])
      → Raises entries (step 0 0 0 0 none) m1 0 m2
      → m2 ≡ (at_stage m0.0 m0.0.stage (entries value), (0, Some value) ∷ [])
  raised_to m0 m1 m2 value is told =
      told value (ap (λ (z : M). z.1) is)
      ∙ ap (λ (z : M). let v : V = at_stage z.0 z.0.stage (entries value) in (v, z.1)) is

  pub stayed_at : (m0 m1 : M) (value : T)
      → m1 ≡ (m0.0, (0, Some value) ∷ [])
      → entries value ≡ m0.0.seen
      → m1 ≡ (at_stage m0.0 m0.0.stage (entries value), (0, Some value) ∷ [])
  stayed_at m0 m1 value is same =
      is
      ∙ ap (λ (l : List E). let v : V = at_stage m0.0 m0.0.stage l in (v, (0, Some value) ∷ []))
      (sym same)
