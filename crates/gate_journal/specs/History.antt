-- Entries as they are kept: the rows apart, and marks for their places (own).
use Rattle.std.specs.Prelude.{ℕ, suc, Bool, List, [], ◌∷◌}
use Rattle.gate_journal.specs.declared.row.Row.{Row}
use Rattle.gate_journal.specs.declared.mark.Mark.{Mark}
use Rattle.gate_journal.specs.declared.mark.Mark.TheVariants as marks
use Rattle.gate_journal.specs.declared.entry.Entry.{Entry}
use Rattle.gate_journal.specs.declared.entry.Entry.TheVariants.{Kept, Faulted}

pub record Entries : Type 0 where
  pub list : List Entry
  -- there is room for one entry more
  pub room : Bool

-- a disk as it stood at some entries
pub record Stood (D : Type 0) : Type 0 where
  pub list : List D
  -- there is room for one more
  pub room : Bool

-- how many marks are of rows
abbrev pub count_rows : List Mark → ℕ
count_rows [] = 0
count_rows (marks.Row ∷ more) = suc (count_rows more)
count_rows (marks.Fault asked from to ∷ more) = count_rows more

-- the entries: each mark of a row takes the next row
abbrev pub rows_woven : List Mark → List Row → List Entry
rows_woven [] rows = []
rows_woven (marks.Row ∷ more) [] = []
rows_woven (marks.Row ∷ more) (r ∷ rows) = Kept r ∷ rows_woven more rows
rows_woven (marks.Fault asked from to ∷ more) rows =
    Faulted asked.value from to ∷ rows_woven more rows
