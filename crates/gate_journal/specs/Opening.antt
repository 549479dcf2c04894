-- What an opening writes (own: docs/FORMATS.md, "The journal").
use Rattle.std.specs.Prelude.{◌≡◌, ◌≢◌, ◌⊎◌, ℕ, ◌+◌, max, if◌then◌else◌, ◌==◌, List, [], ◌∷◌}
use Rattle.std.specs.Prelude.{slice_index}
use Rattle.disk_model.specs.Disk.{Torn, file_written}
use Rattle.gate_journal.specs.Rows.{version_byte}

-- how many device calls make a byte this one: a write and a sync, or none where it stands there
abbrev pub set_calls : ℕ → ℕ → ℕ
set_calls now wanted = if now == wanted then 0 else 2

-- the file with this byte at this place
abbrev pub with_byte : List ℕ → ℕ → ℕ → List ℕ
with_byte bytes place wanted =
    if slice_index bytes place == wanted then bytes else file_written bytes place (wanted ∷ [])

-- the file meanwhile: as it was, or with anything at a place that is to have another byte
abbrev pub MayGetByte : List ℕ → ℕ → ℕ → List ℕ → Type 0
MayGetByte bytes place wanted c =
    (c ≡ bytes) ⊎ ((slice_index bytes place ≢ wanted) × Torn place 1 bytes c)

-- its closing gate, at this place, is closed first, and then it is made one of version 2
abbrev pub migrated : List ℕ → ℕ → List ℕ
migrated bytes gate = with_byte (with_byte bytes gate 0) 8 1

-- the file meanwhile
abbrev pub MayMigrate : List ℕ → ℕ → List ℕ → Type 0
MayMigrate bytes gate c = MayGetByte bytes gate 0 c ⊎ MayGetByte (with_byte bytes gate 0) 8 1 c

-- how many device calls an opening makes: a sync, a size, a read, those that close the gate, and
-- those that write the version
abbrev pub opening_calls : List ℕ → ℕ → ℕ
opening_calls bytes gate =
    3 + (set_calls (slice_index bytes gate) 0 + set_calls (version_byte bytes) 1)

-- the reach behind that: as it was where the byte stands there, else the byte's end, if that is
-- farther
abbrev pub ReachesByte : ℕ → ℕ → ℕ → ℕ → ℕ → Type 0
ReachesByte place now_there wanted before now =
    ((now_there ≡ wanted) × (now ≡ before))
    ⊎ ((now_there ≢ wanted) × (now ≡ max before (place + 1)))

-- the reach behind the writes of a gate at this end and a version byte that held these: as it was
-- where none was to be written, else the end of the first of them, if that is farther
abbrev pub ReachesWrites : ℕ → ℕ → ℕ → ℕ → ℕ → Type 0
ReachesWrites end gate version before now =
    (now ≡ before)
    ⊎ ((gate ≢ 0) × (now ≡ max before (end + 1)))
    ⊎ ((gate ≡ 0) × (version ≢ 1) × (now ≡ max before 9))
