-- What a disk holds after its calls, and the images of all moments since one of them (own).
use Rattle.std.specs.Prelude.{ℕ, ◌+◌, ◌≤◌, ◌^◌, nat_le, if◌then◌else◌, List, [], ◌∷◌, length, take}
use Rattle.disk_model.specs.declared.call.Call.{Call}
use Rattle.disk_model.specs.declared.call.Call.TheVariants.{Look, Write, Sync}
use Rattle.disk_model.specs.Disk.{file_written}
use Rattle.disk_model.specs.DiskState.{DiskState, IsDiskImage, settled, after_write, after_sync}

-- after one call more
abbrev pub state_after_call : DiskState → Call → DiskState
state_after_call p Look = p
state_after_call p (Write place piece good) = after_write good place piece.items p
state_after_call p (Sync good) = after_sync good p

-- after these calls, one by one
abbrev pub after_calls : DiskState → List Call → DiskState
after_calls p [] = p
after_calls p (call ∷ calls) = after_calls (state_after_call p call) calls

-- the state of a disk that began with these bytes, all of them synced
abbrev pub state_after : List ℕ → List Call → DiskState
state_after start calls = after_calls (settled start) calls

-- an image of a moment since t, a moment being the number of calls made
abbrev pub LeftSince : List ℕ → List Call → ℕ → List ℕ → Type 0
LeftSince start calls t c =
    (k : ℕ) × (t ≤ k) × (k ≤ length calls) × IsDiskImage (state_after start (take k calls)) c

-- these bytes after a write, within the room
abbrev pub put_in : ℕ → List ℕ → List ℕ → List ℕ
put_in at piece bytes =
    if nat_le (at + length piece) (2 ^ 40) then file_written bytes at piece else bytes

-- what is read after a call
abbrev pub seen_behind : Call → List ℕ → List ℕ
seen_behind Look seen = seen
seen_behind (Write place piece good) seen =
    if good then put_in place piece.items seen else seen
seen_behind (Sync good) seen = seen

-- and what had landed by then, were a write that fails to land as well
abbrev pub landed_behind : Call → List ℕ → List ℕ → List ℕ
landed_behind Look seen landed = landed
landed_behind (Write place piece good) seen landed = put_in place piece.items landed
landed_behind (Sync good) seen landed = if good then seen else landed

abbrev pub landed_from : List ℕ → List ℕ → List Call → List ℕ
landed_from seen landed [] = landed
landed_from seen landed (call ∷ calls) =
    landed_from (seen_behind call seen) (landed_behind call seen landed) calls

-- what a disk that began with these bytes would read as, had its failed writes since the last sync
-- that was good landed
abbrev pub landed_after : List ℕ → List Call → List ℕ
landed_after start calls = landed_from start start calls
