-- Notes of a log (own).
use Rattle.std.specs.Prelude.{◌≡◌, ℕ, List, Some, slice_get}
use Rattle.turn_cell_uses.specs.declared.log.Note.{Note}

-- what a pass of this number notes
abbrev pub note : ℕ → ℕ → Note
note number what = record { by = number; what = what }

-- the number of the pass that made it
abbrev pub note_by : Note → ℕ
note_by e = e.by

-- the note stands at this place of the history
abbrev pub NoteStandsAt : List Note → ℕ → ℕ → ℕ → Type 0
NoteStandsAt notes place number what = slice_get notes place ≡ Some (note number what)
