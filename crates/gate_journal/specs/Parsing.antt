-- What is found past an open gate (own).
use Rattle.std.specs.Prelude.{◌≡◌, ℕ, List, ◌++◌, length, drop}
use Rattle.gate_journal.specs.declared.row.Row.{Row}
use Rattle.gate_journal.specs.Rows.{row_body, IsNext, IsInVersion}

-- these bytes begin with a row of this version that may stand behind the rows
pub record BeginsWithRow (version : ℕ) (rows : List Row) (past : List ℕ) (r : Row) : Type 0 where
  pub next : IsNext rows r
  pub in_version : IsInVersion version r.command
  pub bytes : past ≡ row_body r ++ drop (length (row_body r)) past

-- they begin with none
abbrev pub IsNoNext : ℕ → List Row → List ℕ → Type 0
IsNoNext version rows past =
    (r : Row) (rest : List ℕ) → IsNext rows r → IsInVersion version r.command
    → past ≡ row_body r ++ rest → ⊥
