-- An outside in memory: what stands under a name (own).
use Rattle.std.specs.Prelude.{ℕ, List, Option, String}
use Rattle.std.specs.Option.{option_and_then}
use Rattle.std.specs.BTreeMap.{BTreeMap, get_by_text}
use Rattle.disk_model.specs.declared.memory.MemDisk.{MemDisk}
use Rattle.host_top.specs.Files.{Told, told_of_all}
use Rattle.host_top.specs.declared.loan.Loan.{Loan}
use Rattle.host_top.specs.declared.memory_outside.Shelf.{Shelf}

-- the disk that isn't lent
abbrev pub disk_in : {Y : Type 0} → BTreeMap (String Y) Shelf → List ℕ → Told MemDisk
disk_in shelves name = told_of_all (option_and_then (λ s. s.disk) (get_by_text shelves name))

-- its last loan
abbrev pub loan_in : {Y : Type 0} → BTreeMap (String Y) Shelf → List ℕ → Option Loan
loan_in shelves name = option_and_then (λ s. s.loan) (get_by_text shelves name)
