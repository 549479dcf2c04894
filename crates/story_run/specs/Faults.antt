-- The faults of a story by their numbers (own: docs/FORMATS.md, "Faults of a story").
use Rattle.std.specs.Prelude.{◌≤◌, ℕ}
use Rattle.vm_memory.specs.declared.fault.Trap.{Trap}
use Rattle.vm_memory.specs.declared.fault.Trap.TheVariants.{Fault, NoMemory}

-- the number of a fault
abbrev pub IsFaultNumber : ℕ → Type 0
IsFaultNumber n = (1 ≤ n) × (n ≤ 24)

-- a trap of a story has the number of a fault; want of memory has none
abbrev pub IsNumberedTrap : Trap → Type 0
IsNumberedTrap (Fault n) = IsFaultNumber n
IsNumberedTrap NoMemory = Unit {0}
