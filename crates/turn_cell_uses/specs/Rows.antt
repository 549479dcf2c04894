-- A desk's own rows of the book that all desks share (own).
use Rattle.std.specs.Prelude.{ℕ, ◌==◌, List, [], ◌∷◌, Bool, true, false}
use Rattle.turn_cell_uses.specs.declared.log.Note.{Note}

abbrev pub pick : Bool → Note → List Note → List Note
pick true x xs = x ∷ xs
pick false x xs = xs

-- the rows with this number
abbrev pub rows_by : ℕ → List Note → List Note
rows_by n [] = []
rows_by n (x ∷ xs) = pick (x.by == n) x (rows_by n xs)

-- what the rows say
abbrev pub whats : List Note → List ℕ
whats [] = []
whats (x ∷ xs) = x.what ∷ whats xs
