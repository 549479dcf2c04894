-- What stands at the closing gate, in an image of the disk (own: docs/FORMATS.md, "The journal").
use Rattle.std.specs.Prelude.{ℕ, ◌+◌, List, [], ◌∷◌, ◌++◌, length}
use Rattle.disk_model.specs.Disk.{Holds}

-- the file begins with these bytes, and a closed gate stands behind them
abbrev pub IsShut : List ℕ → List ℕ → Type 0
IsShut front c = Holds c 0 (front ++ 0 ∷ [])

-- the file begins with the front; then comes a gate of which nothing is known, and this past it
pub record IsUnsure (front past c : List ℕ) : Type 0 where
  pub before : Holds c 0 front
  pub behind : Holds c (length front + 1) past
