-- A disk in a fixed room: what its fields say (own).
use Rattle.std.specs.Prelude.{ℕ, List}
use Rattle.disk_model.specs.declared.flat.FlatDisk.{FlatDisk}

-- the bytes that it holds
abbrev pub flat_bytes : FlatDisk → List ℕ
flat_bytes d = d.bytes.items

-- how many bytes it may hold
abbrev pub flat_room : FlatDisk → ℕ
flat_room d = d.room

-- the greatest end of any write asked of it
abbrev pub flat_reach : FlatDisk → ℕ
flat_reach d = d.reach

-- how often a call has failed
abbrev pub flat_faults : FlatDisk → ℕ
flat_faults d = d.faults

-- the number by which its outside knows it
abbrev pub flat_label : FlatDisk → ℕ
flat_label d = d.label
