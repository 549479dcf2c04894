-- One turn of a pass on a cell (own).
use Rattle.std.specs.Prelude.{◌≡◌, ℕ, List, [], ◌∷◌, ◌++◌, Bool, MatchBool}
use Rattle.turn_cell.specs.declared.pass.Pass.{Pass}
use Rattle.turn_cell.specs.declared.cell.Cell.{Cell}
use Rattle.turn_cell.specs.History.{Continues, IsForeign}
use Rattle.turn_cell.specs.Passes.{IsOf, IsOutside, KeepsNumbers, made, pass_numbers, seen}

module _ {T E : Type 0} where
  -- the pass is of this cell, and in no turn
  abbrev pub IsReadyPass : Cell T E → Pass T E → Type 0
  IsReadyPass c p = IsOf c p × IsOutside p

  -- after a turn the pass is as it was, but for what it has seen
  abbrev pub AfterTurn : Cell T E → Pass T E → Pass T E → Type 0
  AfterTurn c old new =
      IsOf c new × IsOutside new × KeepsNumbers old new × (made new ≡ made old)

  -- since the pass had its last turn others' entries came, and then this one, if it was accepted
  abbrev pub OneTurn : (E → ℕ) → Bool → E → Pass T E → Pass T E → Type 0
  OneTurn by accepted entry old new = (before : List E)
      × Continues (IsForeign by (pass_numbers old)) before (seen old)
      × MatchBool accepted (seen new ≡ before ++ entry ∷ []) (seen new ≡ before)
