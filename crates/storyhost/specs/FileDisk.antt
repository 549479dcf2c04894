-- A disk on a file: what its fields say (own).
use Rattle.std.specs.Prelude.{ℕ}
use Rattle.storyhost.specs.declared.edge.disk.FileDisk.{FileDisk}

-- the greatest end of any write asked of it
abbrev pub file_reach : {R : Type 0} → FileDisk R → ℕ
file_reach d = d.reach

-- how often a call has failed
abbrev pub file_faults : {R : Type 0} → FileDisk R → ℕ
file_faults d = d.faults

-- the number by which its outside knows it
abbrev pub file_label : {R : Type 0} → FileDisk R → ℕ
file_label d = d.label
