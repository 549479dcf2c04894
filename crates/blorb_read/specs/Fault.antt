-- The causes against a container by their numbers (own).
use Rattle.std.specs.Prelude.{ℕ}
use Rattle.blorb_read.specs.declared.fault.BlorbFault.{BlorbFault}
use Rattle.blorb_read.specs.declared.fault.BlorbFault.TheVariants.{NotBlorb, Cut, NoExec, NotGlulx}

abbrev pub container_fault_number : BlorbFault → ℕ
container_fault_number NotBlorb = 1
container_fault_number (Cut place) = 2
container_fault_number NoExec = 3
container_fault_number NotGlulx = 4
