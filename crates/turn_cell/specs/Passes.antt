-- Words for callers: what a clause reads of a pass and of a cell (own).
use Rattle.std.specs.Prelude.{◌≡◌, ℕ, ◌+◌, ◌≤◌, List, [], ◌∷◌, Option, Some}
use Rattle.turn_cell.specs.declared.view.View.{View}
use Rattle.turn_cell.specs.declared.pass.Pass.{Pass}
use Rattle.turn_cell.specs.declared.cell.Cell.{Cell}
use Rattle.turn_cell.specs.History.{IsAmong}
use Rattle.turn_cell.specs.Views.{IsIdle, HasValue, tag_in}

module _ {T E : Type 0} where
  abbrev pub view : Pass T E → View E T
  view p = p.known.place.me.0

  -- its own number
  abbrev pub pass_number : Pass T E → ℕ
  pass_number p = p.known.number

  -- how many passes were split from it
  abbrev pub made : Pass T E → ℕ
  made p = p.known.made

  -- its own number, and those of the passes joined into it
  abbrev pub pass_numbers : Pass T E → List ℕ
  pass_numbers p = p.known.place.me.0.holds

  -- a list that the cell's history begins with
  abbrev pub seen : Pass T E → List E
  seen p = p.known.place.me.0.seen

  -- a value with the tag of all values that the cell has had
  abbrev pub sample : Pass T E → Option T
  sample p = p.known.place.me.0.sample

  -- the tag of all values that the cell has had
  abbrev pub tag_of : {G : Type 0} → (T → G) → Pass T E → Option G
  tag_of tag p = tag_in tag p.known.place.me.0.sample

  abbrev pub IsOf : Cell T E → Pass T E → Type 0
  IsOf c p = p.known.place.table_id ≡ c.table.shared.table_id

  -- the pass is in no turn
  abbrev pub IsOutside : Pass T E → Type 0
  IsOutside p = IsIdle p.known.place.me

  -- its turn is on, and its holder has the value
  abbrev pub IsInTurn : Pass T E → Type 0
  IsInTurn p = HasValue p.known.place.me

  -- the pass is the root, and was never split
  abbrev pub IsAlone : Pass T E → Type 0
  IsAlone p = (pass_number p ≡ 0) × (made p ≡ 0)

  -- it is the root, and each pass that was split from it was joined into it again
  abbrev pub HoldsAll : Pass T E → Type 0
  HoldsAll p = (n : ℕ) → n ≤ made p → IsAmong n (pass_numbers p)

  -- its number, the numbers that it holds and its tag stay
  abbrev pub KeepsNumbers : Pass T E → Pass T E → Type 0
  KeepsNumbers old new =
      (pass_number new ≡ pass_number old) × (pass_numbers new ≡ pass_numbers old)
      × (sample new ≡ sample old)

  -- the root of a new cell: alone and outside; it has seen the list of the cell's value
  abbrev pub IsRoot : {G : Type 0}
      → (T → List E) → (T → G) → T → Cell T E → Pass T E → Type 0
  IsRoot entries tag value c p = IsOf c p × IsOutside p × IsAlone p × (pass_numbers p ≡ 0 ∷ [])
      × (seen p ≡ entries value) × (tag_of tag p ≡ Some (tag value))

  -- a pass split from the root: it has the next number, and has seen as much
  abbrev pub IsSplitFrom : Cell T E → Pass T E → Pass T E → Type 0
  IsSplitFrom c root p = IsOf c p × IsOutside p × (pass_number p ≡ made root + 1) × (made p ≡ 0)
      × (pass_numbers p ≡ (made root + 1) ∷ []) × (seen p ≡ seen root)
      × (sample p ≡ sample root)
