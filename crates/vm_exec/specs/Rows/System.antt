-- Memory, gestalt, Glk and the rest (Glulx 3.1.3, "Memory Map" and "Miscellaneous").
use Rattle.std.specs.Prelude.{ℕ, ◌/◌, ◌==◌, ◌||◌, nat_le, if◌then◌else◌, length, Err}
use Rattle.vm_operand.specs.declared.opcode.System.{System}
use Rattle.vm_operand.specs.declared.opcode.System.TheVariants.{Nop, Gestalt, Debugtrap, Getmemsize}
use Rattle.vm_operand.specs.declared.opcode.System.TheVariants.{Setmemsize, Random, Setrandom, Glk}
use Rattle.vm_operand.specs.declared.opcode.System.TheVariants.{Accelfunc, Accelparam}
use Rattle.vm_operand.specs.declared.operand.Dest as d
use Rattle.vm_exec.specs.Rows.Heap.{resizes}
use Rattle.vm_exec.specs.Rows.Random.{draws, seeds}
use Rattle.vm_exec.specs.Rows.Work.{Work, Free, Costs}
use Rattle.vm_memory.specs.declared.faults.TheConstants.{DEBUG_TRAP}
use Rattle.vm_exec.specs.declared.machine.Machine.{Machine}
use Rattle.vm_exec.specs.Rules.{Rule, goes, puts, tells_out}
use Rattle.vm_exec.specs.declared.step.Out.TheVariants as out
use Rattle.vm_exec.specs.declared.step.Waiting.TheVariants.{Store}

-- what the machine can do: 0 its version, 1 that of this host, 2 resizing, 3 undo, 4 the I/O
-- systems, 5 Unicode, 6 block copies, 7 the heap, 12 further undo
abbrev pub gestalt : ℕ → ℕ → ℕ
gestalt selector argument =
    if selector == 0 then 0x00030103
    else (if selector == 1 then 0x00010000
    else (if selector == 4 then (if nat_le argument 2 then 1 else 0)
    else (if selector == 2 || (selector == 3 || (selector == 5
    || (selector == 6 || (selector == 7 || selector == 12))))
    then 1 else 0)))

-- 8 is where the heap starts, or 0
abbrev pub gestalt_of : Machine → ℕ → ℕ → ℕ
gestalt_of m selector argument =
    if selector == 8 then m.heap.start else gestalt selector argument

-- the store is kept for the call's result
abbrev pub calls_glk : Machine → ℕ → ℕ → d.Dest → Rule
calls_glk m selector args to = tells_out (record m { waiting = Store to }) (out.Glk selector args)

unfoldable pub system_work : System → Machine → (ℕ → ℕ) → (ℕ → d.Dest) → Work
system_work Nop m l d = Free (goes m)
system_work Gestalt m l d = Free (puts m (d 0) (gestalt_of m (l 0) (l 1)))
system_work Debugtrap m l d = Free (Err DEBUG_TRAP)
system_work Getmemsize m l d = Free (puts m (d 0) (length m.memory.bytes))
system_work Glk m l d = Free (calls_glk m (l 0) (l 1) (d 0))
system_work Accelfunc m l d = Free (goes m)
system_work Accelparam m l d = Free (goes m)
system_work Setmemsize m l d = Costs (l 0 / 256) (resizes m (l 0) (d 0))
system_work Random m l d = Free (draws m (l 0) (d 0))
system_work Setrandom m l d = Free (seeds m (l 0))
