-- What writing adds (own: docs/FORMATS.md, "Snapshot bytes").
use Rattle.std.specs.Prelude.{◌≡◌, ◌++◌, ℕ, List}

-- new is old and behind it what is printed of x, which has such bytes
pub record PutsBehind {A : Type 0} (print : A → List ℕ) (Is : A → Type 0) (x : A) (old new : List ℕ)
    : Type 0 where
  pub added : new ≡ old ++ print x
  pub good : Is x
