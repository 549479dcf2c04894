-- Steps of a turn: how each changes its own seat, and what it tells (own).
-- Each relates the seat before, the number that was read, and the seat afterwards.
use Rattle.std.specs.Prelude.{◌≡◌, ◌≢◌, ℕ, ◌^◌, ◌<◌, ◌≤◌, List, [], ◌∷◌, Option, Some, None}
use Rattle.atomic_table.specs.Table.{Me, Step}
use Rattle.turn_cell.specs.declared.view.View.{View}
use Rattle.turn_cell.specs.declared.view.Stage.TheVariants.{Idle, Waits, Served, Joined}
use Rattle.turn_cell.specs.History.{AreApart, Continues, IsAmong, IsForeign}
use Rattle.turn_cell.specs.Views.{at_stage}

module _ {E T : Type 0} where
  -- a ticket is drawn, and the seat waits with it
  abbrev pub Draws : {S : Type 0}
      → Step S → Me S (View E T) → ℕ → Me S (View E T) → Type 0
  Draws st m n m' = m' ≡ (at_stage m.0 (Waits n) m.0.seen, m.1)

  -- the ticket is gone, and the slot is back in the table
  abbrev pub PassesOn : {S : Type 0}
      → Step S → Me S (View E T) → ℕ → Me S (View E T) → Type 0
  PassesOn st m n m' = m' ≡ (at_stage m.0 Idle m.0.seen, [])

module _ {T E G : Type 0} (entries : T → List E) (by : E → ℕ) (tag : T → G) where
  -- what a seat learns of the value in its turn: the value's list goes on from what was seen by
  -- entries of others, and not at all where the seat is the root's and alone; where it is the root's,
  -- by entries of numbers that were given; the tag is the cell's
  abbrev pub Learned : View E T → T → Type 0
  Learned v value = Continues (IsForeign by v.holds) (entries value) v.seen
      × (IsAmong 0 v.holds → v.made ≡ 0 → entries value ≡ v.seen)
      × (IsAmong 0 v.holds → Continues (λ e. by e ≤ v.made) (entries value) v.seen)
      × ((x : T) → v.sample ≡ Some x → tag value ≡ tag x)

  -- the ticket t is served: the seat has the slot with the value in it, and has seen its list
  abbrev pub FindsValue : Me (Option T) (View E T) → ℕ → Me (Option T) (View E T) → Type 0
  FindsValue m t m' = (value : T)
      × (m' ≡ (at_stage m.0 (Served t) (entries value), (0, Some value) ∷ m.1))
      × Learned m.0 value

  -- a look at the served number n: nothing changes unless it is the ticket, below 2 ^ 62
  abbrev pub LooksAtServed : Step (Option T)
      → Me (Option T) (View E T) → ℕ → Me (Option T) (View E T) → Type 0
  LooksAtServed st m n m' = (t : ℕ) → m.0.stage ≡ Waits t
      → (n ≢ t → m' ≡ m) × (n ≡ t → t < 2 ^ 62 → FindsValue m t m')
      × (2 ^ 62 ≤ t → m' ≡ m)

  -- all steps of `enter` together: the caller has the value, and the slot is empty
  abbrev pub TakesValue : Me (Option T) (View E T) → T → Me (Option T) (View E T) → Type 0
  TakesValue m value m' = (t : ℕ)
      × (m' ≡ (at_stage m.0 (Served t) (entries value), (0, None) ∷ []))
      × Learned m.0 value

-- the history is one longer: the seat has seen the list of the value that it put into the slot
abbrev pub Raises : {T E : Type 0} → (T → List E)
    → Step (Option T) → Me (Option T) (View E T) → ℕ → Me (Option T) (View E T) → Type 0
Raises {T} entries st m n m' = (value : T) → m.1 ≡ (0, Some value) ∷ []
    → m' ≡ (at_stage m.0 m.0.stage (entries value), m.1)

-- after a join: what came since either had seen it is of numbers that this one didn't hold; and no
-- number was held by both; where this one is the root's, by entries of numbers that were given
abbrev pub LearnsBoth : {T E : Type 0} → (E → ℕ)
    → Step (Option T) → Me (Option T) (View E T) → ℕ → Me (Option T) (View E T) → Type 0
LearnsBoth {E = E} by st m n m' =
    (a : List E) (an : List ℕ) (b : List E) (bn : List ℕ) → m.0.stage ≡ Joined a an b bn
    → (m' ≡ (at_stage m.0 Idle m.0.seen, m.1))
    × Continues (IsForeign by an) m.0.seen a
    × Continues (IsForeign by bn) m.0.seen b
    × AreApart an bn
    × (IsAmong 0 an → Continues (λ e. by e ≤ m.0.made) m.0.seen a)
