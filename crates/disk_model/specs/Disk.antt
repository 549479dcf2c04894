-- What the calls of a disk do to its bytes, and what a stop may leave of them (own).
use Rattle.std.specs.Prelude.{◌≡◌, ◌⊎◌, ℕ, ◌+◌, ◌-◌, ◌^◌, ◌<◌, ◌≤◌, min, max, Bool, List}
use Rattle.std.specs.Prelude.{◌++◌, length, take, drop, replicate, slice_index, Result, MatchResult}

-- the file has these bytes at this place
pub record Holds (file : List ℕ) (at : ℕ) (bytes : List ℕ) : Type 0 where
  pub within : at + length bytes ≤ length file
  pub each : (i : ℕ) → i < length bytes → slice_index file (at + i) ≡ slice_index bytes i

-- the bytes of the file from this place on, and zeros past its end
abbrev pub ReadsFile : List ℕ → ℕ → List ℕ → Type 0
ReadsFile file at bytes = (i : ℕ) → i < length bytes
    → slice_index bytes i ≡ slice_index file (at + i)

-- the file after a write: zeros fill a gap past the old end
abbrev pub file_written : List ℕ → ℕ → List ℕ → List ℕ
file_written old at bytes =
    take at (old ++ replicate (at - length old) 0) ++ bytes ++ drop (at + length bytes) old

-- after a write of n bytes that a stop cuts short: anything in that range and past the old end, the
-- same elsewhere
pub record Torn (at n : ℕ) (old new : List ℕ) : Type 0 where
  pub no_shorter : length old ≤ length new
  pub no_longer : length new ≤ max (length old) (at + n)
  pub below : (i : ℕ) → i < length old → i < at → slice_index new i ≡ slice_index old i
  pub above : (i : ℕ) → i < length old → at + n ≤ i
      → slice_index new i ≡ slice_index old i

-- each new image is an old image after a step
abbrev pub Follows :
    (List ℕ → List ℕ → Type 0) → (List ℕ → Type 0) → (List ℕ → Type 0)
    → Type 0
Follows step old new = (c : List ℕ) → new c → (d : List ℕ) × old d × step d c

-- no image is new
abbrev pub NoneNew : (List ℕ → Type 0) → (List ℕ → Type 0) → Type 0
NoneNew old new = (c : List ℕ) → new c → old c

-- a stop leaves this and nothing else
abbrev pub Only : List ℕ → (List ℕ → Type 0) → Type 0
Only file images = (c : List ℕ) → images c → c ≡ file

-- an image from before, after a write of n bytes that a stop may cut short
abbrev pub AfterWrite : ℕ → ℕ → (List ℕ → Type 0) → List ℕ → Type 0
AfterWrite at n old c = (d : List ℕ) × old d × Torn at n d c

-- time goes on: an image of a moment since t was one before, or is one now
pub record Elapses
    (before now : ℕ)
    (past since : ℕ → List ℕ → Type 0)
    (may_leave : List ℕ → Type 0) : Type 0 where
  pub later : before ≤ now
  pub nothing_else : (t : ℕ) (c : List ℕ) → t ≤ before → since t c
      → past t c ⊎ may_leave c
  pub keeps : (t : ℕ) (c : List ℕ) → t ≤ before → past t c → since t c

-- the count rose, or stands at the end of a u64
abbrev pub Rose : ℕ → ℕ → Type 0
Rose before now = min (before + 1) (2 ^ 64 - 1) ≤ now

-- the count stays at Ok and rises at Err
abbrev pub CountsErrors : {T E : Type 0} → Result T E → ℕ → ℕ → Type 0
CountsErrors result before now =
    MatchResult result (λ _. now ≡ before) (λ _. (before ≤ now) × Rose before now)

-- a call that found no memory: it isn't counted among the calls, and leaves what the disk reads as
-- and what a stop may leave
pub record FindsNoMemory
    {D : Type 0}
    (seen : D → List ℕ)
    (may_leave : D → List ℕ → Type 0)
    (moment : D → ℕ)
    (old new : D) : Type 0 where
  pub clock : moment new ≡ moment old
  pub reads : seen new ≡ seen old
  pub images : NoneNew (may_leave old) (may_leave new)
  pub none_lost : NoneNew (may_leave new) (may_leave old)

-- what no call changes
pub record KeepsWords
    {D : Type 0} (tells : D → Bool) (room label : D → ℕ) (old new : D) : Type 0 where
  pub telling : tells new ≡ tells old
  pub size : room new ≡ room old
  pub name : label new ≡ label old
