-- What a piece of work leaves of its disk: how it ran, and a triple of its images (own).
use Rattle.std.specs.Prelude.{◌≡◌, ◌⊎◌, ℕ, ◌+◌, ◌<◌, ◌≤◌, max, IsTrue, List}
use Rattle.std.specs.Prelude.{Result, IsOk, OnOk, MatchResult}
use Rattle.disk_model.specs.Disk.{CountsErrors, KeepsWords, NoneNew}
use Rattle.disk_model.specs.declared.disk.Disk.{Ghosts as DiskWords}

-- it tells as before, and has its room and its label
abbrev pub SameDisk : {D : Type 0} → DiskWords D → D → D → Type 0
SameDisk disks old new = KeepsWords disks.tells disks.room disks.label old new

-- where the disk tells: each image that a stop may leave now has P
abbrev pub EachImage : {D : Type 0} → DiskWords D → D → (List ℕ → Type 0) → Type 0
EachImage disks disk P =
    IsTrue (disks.tells disk) → (c : List ℕ) → disks.may_leave disk c → P c

-- each image of a moment since the old disk has P
pub record LeavesOnly
    {D : Type 0} (disks : DiskWords D) (old new : D) (P : List ℕ → Type 0) : Type 0 where
  pub later : disks.moment old ≤ disks.moment new
  pub each : (c : List ℕ) → disks.left_since new (disks.moment old) c → P c
  -- for a run that began earlier
  pub before : (t : ℕ) (c : List ℕ) → t ≤ disks.moment old → disks.left_since new t c
      → disks.left_since old t c ⊎ P c
  pub keeps : (t : ℕ) (c : List ℕ) → t ≤ disks.moment old → disks.left_since old t c
      → disks.left_since new t c

-- nothing was written: no image is new, now or at any moment since
pub record OnlyLooks {D : Type 0} (disks : DiskWords D) (old new : D) : Type 0 where
  pub images : IsTrue (disks.tells old) → NoneNew (disks.may_leave old) (disks.may_leave new)
  pub moments : IsTrue (disks.tells old) → LeavesOnly disks old new (disks.may_leave old)
  pub asked : disks.reach new ≡ disks.reach old
  pub same : SameDisk disks old new

-- The disk is the same, its count of faults says whether the work failed, no write was asked for
-- behind this end, and over a steady disk with so much room it doesn't fail.
pub record Ran
    {D T E : Type 0} (disks : DiskWords D) (end : ℕ) (result : Result T E)
    (old new : D) : Type 0 where
  pub same : SameDisk disks old new
  pub counts : CountsErrors result (disks.faults old) (disks.faults new)
  pub asked : disks.reach new ≤ max (disks.reach old) end
  pub steadies : IsTrue (disks.steady old) → IsTrue (disks.steady new)
  pub works : IsTrue (disks.steady old) → end ≤ disks.room old → IsOk result

-- Where each image has the first fact before the work, each has the second while it goes on, and
-- after Ok the third.
pub record Triple
    {D T E : Type 0} (disks : DiskWords D) (result : Result T E) (old new : D)
    (before during after : List ℕ → Type 0) : Type 0 where
  pub meanwhile :
      IsTrue (disks.tells old) → ((c : List ℕ) → disks.may_leave old c → before c)
      → LeavesOnly disks old new during
  pub ended :
      IsTrue (disks.tells old) → ((c : List ℕ) → disks.may_leave old c → before c)
      → OnOk result ((c : List ℕ) → disks.may_leave new c → after c)

-- The first n device calls since then were good: none of them was to fail.
pub record GoodCalls
    {D : Type 0} (disks : DiskWords D) (n : ℕ) (old new : D) : Type 0 where
  pub clock : disks.moment new ≡ disks.moment old + n
  pub unlisted : (k : ℕ) → k < n → IsTrue (disks.fails_at old (disks.moment old + k)) → ⊥
  pub list : disks.fails_at new ≡ disks.fails_at old

-- Of the device calls since then the first k were good, and the next one failed. It found no memory,
-- and isn't counted; or it was to fail, or asked for room behind this end that isn't there.
pub record FailedCall
    {D : Type 0} (disks : DiskWords D) (end k : ℕ) (old new : D) : Type 0 where
  pub unlisted : (j : ℕ) → j < k → IsTrue (disks.fails_at old (disks.moment old + j)) → ⊥
  pub failed :
      (disks.moment new ≡ disks.moment old + k) ⊎ ((disks.moment new ≡ disks.moment old + k + 1)
      × (IsTrue (disks.fails_at old (disks.moment old + k)) ⊎ (disks.room old < end)))
  pub list : disks.fails_at new ≡ disks.fails_at old

-- n device calls, one after another while they are good
abbrev pub MakesCalls :
    {D T E : Type 0} → DiskWords D → ℕ → ℕ → Result T E → D → D → Type 0
MakesCalls disks end n result old new =
    MatchResult result (λ _. GoodCalls disks n old new)
    (λ _. (k : ℕ) × (k < n) × FailedCall disks end k old new)
