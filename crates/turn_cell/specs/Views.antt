-- What a pass knows: the view that its seat has (own).
use Rattle.std.specs.Prelude.{◌≡◌, ◌⊎◌, ℕ, ◌+◌, ◌<◌, List, [], ◌∷◌, ◌++◌, length, slice_index}
use Rattle.std.specs.Prelude.{Option, Some, None}
use Rattle.atomic_table.specs.Table.{Me}
use Rattle.turn_cell.specs.declared.view.View.{View}
use Rattle.turn_cell.specs.declared.view.Stage.{Stage}
use Rattle.turn_cell.specs.declared.view.Stage.TheVariants.{Idle, Waits, Served, Joined}
use Rattle.turn_cell.specs.History.{IsAmong, longer_list}

module _ {E : Type 0} where
  -- the stage has the ticket t
  abbrev pub HasTicket : ℕ → Stage E → Type 0
  HasTicket t Idle = ⊥
  HasTicket t (Waits u) = u ≡ t
  HasTicket t (Served u) = u ≡ t
  HasTicket t (Joined _ _ _ _) = ⊥

  -- how many tickets the stage has
  abbrev pub ticket_count : Stage E → ℕ
  ticket_count Idle = 0
  ticket_count (Waits u) = 1
  ticket_count (Served u) = 1
  ticket_count (Joined _ _ _ _) = 0

module _ {E T : Type 0} where
  -- how many tickets all views have
  abbrev pub tickets_out : List (View E T) → ℕ
  tickets_out [] = 0
  tickets_out (v ∷ vs) = ticket_count v.stage + tickets_out vs

  -- the view with another stage, and what it has seen
  abbrev pub at_stage : View E T → Stage E → List E → View E T
  at_stage v stage seen = record v { stage = stage; seen = seen }

  -- the root's view after a split
  abbrev pub with_one_more : View E T → View E T
  with_one_more v = record v { made = v.made + 1 }

  -- the new pass's view: it has seen as much, and its number is the next one
  abbrev pub split_off : View E T → View E T
  split_off v = record {
    stage = Idle;
    number = v.made + 1;
    made = 0;
    holds = (v.made + 1) ∷ [];
    seen = v.seen;
    sample = v.sample;
  }

  -- two views made one, which has seen the longer list and holds the numbers of both
  abbrev pub joined : View E T → View E T → View E T
  joined v w = record v {
    stage = Joined v.seen v.holds w.seen w.holds;
    seen = longer_list v.seen w.seen;
    holds = v.holds ++ w.holds;
  }

  -- what is left of the other view
  abbrev pub spent : View E T
  spent = record { stage = Idle; number = 0; made = 0; holds = []; seen = []; sample = None }

  -- the view has its number first, and 0 only if that is its own
  -- (a ghost field has to be a proposition, which `IsAmong` isn't)
  abbrev pub HasNumberFirst : View E T → Type 0
  HasNumberFirst v = (0 < length v.holds) × (slice_index v.holds 0 ≡ v.number)
      × (IsAmong 0 v.holds → v.number ≡ 0)

-- the root's view as the cell is made
abbrev pub starting : {T E : Type 0} → (T → List E) → T → View E T
starting entries value = record {
  stage = Idle;
  number = 0;
  made = 0;
  holds = 0 ∷ [];
  seen = entries value;
  sample = Some value;
}

-- the tag of a value, if there is one
abbrev pub tag_in : {T G : Type 0} → (T → G) → Option T → Option G
tag_in tag None = None
tag_in tag (Some x) = Some (tag x)

module _ {T E : Type 0} where
  -- the seat is in no turn
  abbrev pub IsIdle : Me (Option T) (View E T) → Type 0
  IsIdle m = (m.0.stage ≡ Idle) × (m.1 ≡ [])

  -- the seat's turn is on, and the caller has the value
  abbrev pub HasValue : Me (Option T) (View E T) → Type 0
  HasValue m = (t : ℕ) × (m.0.stage ≡ Served t) × (m.1 ≡ (0, None) ∷ [])

-- what may be put back: a value of the cell's tag, whose list is what was seen,
-- with at most one entry more, and that one of this pass's number
abbrev pub MayLeave : {T E G : Type 0} → (T → List E) → (E → ℕ) → (T → G) → View E T
    → T → Type 0
MayLeave {T} {E} entries by tag v value = (tag_in tag v.sample ≡ Some (tag value))
    × ((entries value ≡ v.seen)
    ⊎ ((e : E) × (entries value ≡ v.seen ++ e ∷ []) × (by e ≡ v.number)))
