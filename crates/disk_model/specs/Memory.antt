-- A disk in memory: what its fields say (own).
use Rattle.std.specs.Prelude.{◌≡◌, ◌⊎◌, ℕ, ◌+◌, ◌-◌, ◌^◌, min, Bool, false}
use Rattle.std.specs.Prelude.{if◌then◌else◌, List, length}
use Rattle.disk_model.specs.declared.call.Call.{Call}
use Rattle.disk_model.specs.declared.memory.MemDisk.{MemDisk}
use Rattle.disk_model.specs.DiskState.{DiskState, Asked, after_asked}
use Rattle.disk_model.specs.Calls.{state_after, landed_after}

-- what it holds, by the bytes that it began with and its calls
abbrev pub disk_state_in : MemDisk → DiskState
disk_state_in m = state_after m.start.items m.calls.items

-- what it would read as, had its failed writes since the last sync that was good landed
abbrev pub landed_in : MemDisk → List ℕ
landed_in m = landed_after m.start.items m.calls.items

-- the calls that were made of it
abbrev pub calls_in : MemDisk → List Call
calls_in m = m.calls.items

-- the numbers of the calls that are to fail
abbrev pub failing_in : MemDisk → List ℕ
failing_in m = m.failing.items

-- how often a call has failed
abbrev pub faults_in : MemDisk → ℕ
faults_in m = m.faults

-- the greatest end of any write asked of it
abbrev pub reach_in : MemDisk → ℕ
reach_in m = m.reach

-- the number by which its outside knows it
abbrev pub label_in : MemDisk → ℕ
label_in m = m.label

-- What a call makes of the disk. It is one more of its calls, and leaves the state that the rules
-- say, no other; one that found no memory failed, is none of them, and left the state as it was.
-- One that failed is one fault more, up to the end of a u64.
pub record IsMade (old : MemDisk) (asked : Asked) (good : Bool) (new : MemDisk) : Type 0 where
  pub state :
      ((disk_state_in new ≡ after_asked asked good (disk_state_in old))
      × (length (calls_in new) ≡ length (calls_in old) + 1))
      ⊎ ((good ≡ false) × (disk_state_in new ≡ disk_state_in old)
      × (calls_in new ≡ calls_in old))
  pub count :
      faults_in new
      ≡ (if good then faults_in old else min (faults_in old + 1) (2 ^ 64 - 1))
  pub failing : failing_in new ≡ failing_in old
  pub label : label_in new ≡ label_in old
