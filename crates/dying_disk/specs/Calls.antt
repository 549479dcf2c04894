-- What a call makes of a disk that has so many calls left (own).
use Rattle.std.specs.Prelude.{◌≡◌, ℕ, zero, suc, Bool, false}
use Rattle.disk_model.specs.DiskState.{Asked}

-- the disk makes the call where it has one left; else the call fails and nothing changes
abbrev pub MakesOrFails :
    {D : Type 0} → (D → Asked → Bool → D → Type 0) → ℕ → D → Asked → Bool → ℕ → D → Type 0
MakesOrFails makes zero old asked good left new = (good ≡ false) × (left ≡ 0) × (new ≡ old)
MakesOrFails makes (suc n) old asked good left new = (left ≡ n) × makes old asked good new
