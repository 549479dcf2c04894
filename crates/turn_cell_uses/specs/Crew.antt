-- What a worker with a pass of its own was asked for (own).
use Rattle.std.specs.Prelude.{◌≡◌, ◌⊎◌, ℕ, List, [], ◌∷◌, ◌++◌}
use Rattle.turn_cell.specs.History.{Continues, IsForeign}
use Rattle.turn_cell.specs.Passes.{pass_number, pass_numbers, seen}
use Rattle.turn_cell.specs.declared.pass.Pass.{Pass}
use Rattle.turn_cell_uses.specs.declared.log.Note.{Note}
use Rattle.turn_cell_uses.specs.Notes.{note, note_by}

-- one of two workers was asked for the note
abbrev pub IsAsked : ℕ → ℕ → Note → Type 0
IsAsked first second e = (e ≡ note 1 first) ⊎ (e ≡ note 2 second)

-- a worker's pass has this number alone, and had one turn, in which it took this note or none
pub record Noted {T : Type 0} (number what : ℕ) (old : List Note) (p : Pass T Note) : Type 0 where
  pub own : (pass_number p ≡ number) × (pass_numbers p ≡ number ∷ [])
  pub before : List Note
  pub since : Continues (IsForeign note_by (number ∷ [])) before old
  pub one : (seen p ≡ before ++ note number what ∷ []) ⊎ (seen p ≡ before)
