-- Output and the I/O systems (Glulx 3.1.3, "Output").
use Rattle.std.specs.Prelude.{ℕ, ◌%◌, nat_le, false, if◌then◌else◌}
use Rattle.vm_memory.specs.Chaining.{◌>>=◌}
use Rattle.vm_operand.specs.declared.opcode.Stream.{Stream}
use Rattle.vm_operand.specs.declared.opcode.Stream.TheVariants.{Streamchar, Streamnum, Streamstr}
use Rattle.vm_operand.specs.declared.opcode.Stream.TheVariants.{Streamunichar, Getstringtbl}
use Rattle.vm_operand.specs.declared.opcode.Stream.TheVariants.{Setstringtbl, Getiosys, Setiosys}
use Rattle.vm_operand.specs.declared.operand.Dest as d
use Rattle.vm_exec.specs.Rows.Work.{Work, Free}
use Rattle.vm_exec.specs.declared.machine.Machine.{Machine}
use Rattle.vm_exec.specs.Rules.{Rule, goes, puts, stored, streams}
use Rattle.vm_exec.specs.Rows.Text.{begins_string, numbers}

abbrev pub gives_io : Machine → d.Dest → d.Dest → Rule
gives_io m mode rock = stored m mode m.mode >>= (λ n. puts n rock m.rock)

-- a system that isn't known is system 0 with rock 0
abbrev pub takes_io : Machine → ℕ → ℕ → Rule
takes_io m mode rock =
    goes (if nat_le mode 2 then record m { mode = mode; rock = rock }
    else record m { mode = 0; rock = 0 })

unfoldable pub streaming_work : Stream → Machine → (ℕ → ℕ) → (ℕ → d.Dest) → Work
streaming_work Streamchar m l d = Free (streams m (l 0 % 256))
streaming_work Streamunichar m l d = Free (streams m (l 0))
streaming_work Getstringtbl m l d = Free (puts m (d 0) m.string_table)
streaming_work Setstringtbl m l d = Free (goes (record m { string_table = l 0 }))
streaming_work Getiosys m l d = Free (gives_io m (d 0) (d 1))
streaming_work Setiosys m l d = Free (takes_io m (l 0) (l 1))
streaming_work Streamnum m l d = Free (numbers m (l 0))
streaming_work Streamstr m l d = Free (begins_string m (l 0) false)
