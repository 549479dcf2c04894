-- Rule of a cell's table, which holds between any two atomic steps (own).
-- Word 0 counts the tickets drawn, word 1 those served, word 2 the entries of the history.
-- Slot 0 has the value, except in a turn. Seat 0 is the root's.
use Rattle.std.specs.Prelude.{◌≡◌, ◌⊎◌, ℕ, ◌+◌, ◌^◌, ◌<◌, ◌≤◌, List, length, slice_index, Option}
use Rattle.std.specs.Prelude.{Some}
use mathlib.Core.Option.{some}
use mathlib.Core.Option as maybe
use lib.ListN.{get_elem?}
use Rattle.atomic_table.specs.Table.{State}
use Rattle.turn_cell.specs.declared.view.View.{View}
use Rattle.turn_cell.specs.declared.view.Stage.{Stage}
use Rattle.turn_cell.specs.declared.view.Stage.TheVariants.{Idle, Waits, Served, Joined}
use Rattle.turn_cell.specs.History.{AreApart, Continues, IsAmong, IsForeign}
use Rattle.turn_cell.specs.Views.{HasTicket, tickets_out}

module _ {T E G : Type 0} (entries : T → List E) (by : E → ℕ) (tag : T → G) where
  -- what the stage of a view promises. A waiting ticket is drawn and not served yet;
  -- a served one is the one that is served now, and its view has seen the whole history
  abbrev pub KnowsStage : List ℕ → List E → View E T → Stage E → Type 0
  KnowsStage words log v Idle = Unit {0}
  KnowsStage words log v (Waits t) = (slice_index words 1 ≤ t) × (t < slice_index words 0)
  KnowsStage words log v (Served t) = (t ≡ slice_index words 1) × (t < slice_index words 0)
      × (t < 2 ^ 62) × (v.seen ≡ log)
  KnowsStage words log v (Joined a an b bn) =
      Continues (IsForeign by an) v.seen a × Continues (IsForeign by bn) v.seen b × AreApart an bn
      × (IsAmong 0 an → Continues (λ e. by e ≤ v.made) v.seen a)

  -- what is true of each view, where the root has made so many passes
  pub record Knows (words : List ℕ) (log : List E) (made : ℕ) (first : T) (v : View E T)
      : Type 0 where
    -- its `seen` begins the history, and has all entries of the numbers that it holds
    pub known : Continues (IsForeign by v.holds) log v.seen
    -- it holds no number that wasn't given yet
    pub low : (n : ℕ) → IsAmong n v.holds → n ≤ made
    pub tagged : (x : T) → v.sample ≡ Some x → tag x ≡ tag first
    pub at : KnowsStage words log v v.stage

  -- the value is at home: its list is the history, and it has the tag of the first value
  abbrev pub IsHome : List (maybe.Option (Option T)) → List E → T → Type 0
  IsHome homes log first = (value : T) × (get_elem? homes 0 ≡ some (some (Some value)))
      × (entries value ≡ log) × (tag value ≡ tag first)

  -- the value is with a pass that is served
  abbrev pub IsAway : List (View E T) → Type 0
  IsAway views = (j : ℕ) × (v : View E T) × (t : ℕ)
      × (get_elem? views j ≡ some v) × (v.stage ≡ Served t)

  -- the rule of a cell that was made with the value `first`
  pub record Legal (first : T) (s : State (Option T) (View E T)) : Type 0 where
    -- the one history, and what the root knows
    pub log : List E
    pub root : View E T
    pub three_words : length s.words ≡ 3
    pub one_slot : length s.homes ≡ 1
    -- tickets are served in order, and each that is drawn and not served is some view's;
    -- so no word wraps
    pub served : slice_index s.words 1 ≤ 2 ^ 62
    pub in_order : slice_index s.words 1 ≤ slice_index s.words 0
    pub tickets : slice_index s.words 0 ≤ slice_index s.words 1 + tickets_out s.views
    pub counted : slice_index s.words 2 ≡ length log
    -- the root has seat 0 and holds 0; each other seat was split off from it
    pub rooted : get_elem? s.views 0 ≡ some root
    pub zero_held : IsAmong 0 root.holds
    pub all_made : length s.views ≡ root.made + 1
    pub made_low : root.made ≤ 2 ^ 32
    -- entries of numbers not given yet stand in what the root has seen
    pub given : Continues (λ e. by e ≤ root.made) log root.seen
    -- a root that was never split has seen the whole history
    pub alone : root.made ≡ 0 → root.seen ≡ log
    pub each : (j : ℕ) (v : View E T) → get_elem? s.views j ≡ some v
        → Knows s.words log root.made first v
    -- no number is held by two views, and no ticket is out twice
    pub apart : (i j : ℕ) (v w : View E T) (n : ℕ)
        → get_elem? s.views i ≡ some v → get_elem? s.views j ≡ some w
        → IsAmong n v.holds → IsAmong n w.holds → i ≡ j
    pub turns : (i j : ℕ) (v w : View E T) (t : ℕ)
        → get_elem? s.views i ≡ some v → get_elem? s.views j ≡ some w
        → HasTicket t v.stage → HasTicket t w.stage → i ≡ j
    pub place : IsHome s.homes log first ⊎ IsAway s.views
