-- Array data (Glulx 3.1.3, "Array Data").
use Rattle.std.specs.Prelude.{ℕ, ◌+◌, ◌-◌, ◌*◌, ◌/◌, ◌%◌, ◌^◌, ◌==◌, nat_lt, if◌then◌else◌}
use Rattle.vm_memory.specs.Chaining.{◌>>=◌}
use Rattle.vm_memory.specs.Access.{read}
use Rattle.vm_memory.specs.Fault.{coded}
use Rattle.vm_operand.specs.declared.opcode.Array.{Array}
use Rattle.vm_operand.specs.declared.opcode.Array.TheVariants.{Aload, Aloads, Aloadb, Aloadbit}
use Rattle.vm_operand.specs.declared.opcode.Array.TheVariants.{Astore, Astores, Astoreb, Astorebit}
use Rattle.vm_operand.specs.declared.operand.Dest as d
use Rattle.vm_exec.specs.Rows.Work.{Work, Free}
use Rattle.vm_exec.specs.declared.machine.Machine.{Machine}
use Rattle.vm_exec.specs.Rules.{Rule, puts, reads_to, writes, wrap}

-- the element of n bytes with this index
abbrev pub element : ℕ → ℕ → ℕ → ℕ
element n from index = wrap (from + n * index)

-- the byte with the bit of this index, which is signed: floor (index / 8) bytes on
abbrev pub byte_with_bit : ℕ → ℕ → ℕ
byte_with_bit from index =
    wrap (from + (if nat_lt index 0x80000000 then index / 8 else index / 8 + 0xE0000000))

-- the k-th bit of a byte, the lowest first
abbrev pub bit : ℕ → ℕ → ℕ
bit byte k = byte / 2 ^ k % 2

-- a byte with its k-th bit set where the value isn't 0, else cleared
abbrev pub with_bit : ℕ → ℕ → ℕ → ℕ
with_bit byte k value =
    (byte - 2 ^ k * bit byte k) + (if value == 0 then 0 else 2 ^ k)

abbrev pub loads_bit : Machine → ℕ → ℕ → d.Dest → Rule
loads_bit m from index to =
    coded (read 1 m.memory (byte_with_bit from index))
    >>= (λ byte. puts m to (bit byte (index % 8)))

-- the byte is read before it is written
abbrev pub stores_bit : Machine → ℕ → ℕ → ℕ → Rule
stores_bit m from index value =
    coded (read 1 m.memory (byte_with_bit from index))
    >>= (λ byte. writes m 1 (byte_with_bit from index) (with_bit byte (index % 8) value))

unfoldable pub array_work : Array → Machine → (ℕ → ℕ) → (ℕ → d.Dest) → Work
array_work Aload m l d = Free (reads_to m (d 0) 4 (element 4 (l 0) (l 1)))
array_work Aloads m l d = Free (reads_to m (d 0) 2 (element 2 (l 0) (l 1)))
array_work Aloadb m l d = Free (reads_to m (d 0) 1 (wrap (l 0 + l 1)))
array_work Aloadbit m l d = Free (loads_bit m (l 0) (l 1) (d 0))
array_work Astore m l d = Free (writes m 4 (element 4 (l 0) (l 1)) (l 2))
array_work Astores m l d = Free (writes m 2 (element 2 (l 0) (l 1)) (l 2))
array_work Astoreb m l d = Free (writes m 1 (wrap (l 0 + l 1)) (l 2))
array_work Astorebit m l d = Free (stores_bit m (l 0) (l 1) (l 2))
