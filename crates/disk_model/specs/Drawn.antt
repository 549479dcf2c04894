-- The image that a choice draws of those that a stop may leave (own).
use Rattle.std.specs.Prelude.{◌≡◌, ℕ, ◌+◌, ◌/◌, ◌%◌, ◌^◌, ◌<◌, ◌≤◌, ◌==◌, if◌then◌else◌}
use Rattle.std.specs.Prelude.{Bool, true, false, List, length, slice_index}
use Rattle.disk_model.specs.DiskState.{DiskState, greatest_end}

-- the choice keeps what was written at this place: one of its four bits above the lowest
abbrev pub keeps : ℕ → ℕ → Bool
keeps choice i = choice / 2 ^ (i % 4 + 1) % 2 == 1

-- of which writes it keeps: an even choice of the good ones, an odd one of those that failed too
abbrev pub written_by : ℕ → List ℕ → List ℕ → List ℕ
written_by choice seen landed = if choice % 2 == 1 then landed else seen

-- An even choice leaves the synced size, and an odd one the greatest. Where the choice keeps a
-- place, it has the byte that was written there, and else the synced one; past these it has 255.
pub record IsDrawn (p : DiskState) (landed : List ℕ) (choice : ℕ) (c : List ℕ) : Type 0 where
  pub even : choice % 2 ≡ 0 → length c ≡ length p.synced
  pub odd : choice % 2 ≡ 1 → length c ≡ greatest_end p.ranges (length p.synced)
  pub kept :
      (i : ℕ) → i < length c → keeps choice i ≡ true
      → slice_index c i ≡ slice_index (written_by choice p.seen landed) i
  pub lost :
      (i : ℕ) → i < length p.synced → keeps choice i ≡ false
      → slice_index c i ≡ slice_index p.synced i
  pub rubbish :
      (i : ℕ) → i < length c → length p.synced ≤ i → keeps choice i ≡ false
      → slice_index c i ≡ 255
