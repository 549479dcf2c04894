-- The nodes of the string-decoding table (Glulx 3.1.3, "The String-Decoding Table").
use Rattle.std.specs.Prelude.{ℕ, ◌≤◌, ◌+◌, ◌==◌, if◌then◌else◌, Result, Ok, Err}
use Rattle.vm_memory.specs.Chaining.{◌>>=◌}
use Rattle.vm_memory.specs.Access.{read}
use Rattle.vm_memory.specs.MemoryMap.{MemoryMap}
use Rattle.vm_memory.specs.declared.memory.TheConstants.{MAX_SIZE}
use Rattle.vm_string.specs.Fault.{string_read}
use Rattle.vm_string.specs.declared.node.Node.{Node}
use Rattle.vm_string.specs.declared.node.Node.TheVariants.{Fork, End, One, Bytes, Words, Refers}
use Rattle.vm_string.specs.declared.stop.StringStop.{StringStop}
use Rattle.vm_string.specs.declared.stop.StringStop.TheVariants.{BadString}

-- a word, and what is made of it
abbrev pub with_word : {A : Type 0} → MemoryMap → ℕ → (ℕ → Result A StringStop)
    → Result A StringStop
with_word m at f = string_read (read 4 m at) >>= f

-- what a node of this type has behind its first byte; 09 and 0B have the address of the address
unfoldable pub contents : MemoryMap → ℕ → ℕ → Result Node StringStop
contents m at kind =
    if kind == 0x00 then with_word m (at + 1) (λ left.
    with_word m (at + 5) (λ right. Ok (Fork left right)))
    else (if kind == 0x01 then Ok End
    else (if kind == 0x02 then string_read (read 1 m (at + 1)) >>= (λ x. Ok (One x))
    else (if kind == 0x03 then Ok (Bytes (at + 1))
    else (if kind == 0x04 then with_word m (at + 1) (λ x. Ok (One x))
    else (if kind == 0x05 then Ok (Words (at + 1))
    else (if kind == 0x08 then with_word m (at + 1) (λ x. Ok (Refers x 0 0))
    else (if kind == 0x09 then with_word m (at + 1) (λ p. with_word m p (λ x. Ok (Refers x 0 0)))
    else (if kind == 0x0A then with_word m (at + 1) (λ x.
    with_word m (at + 5) (λ n. Ok (Refers x (at + 9) n)))
    else (if kind == 0x0B then with_word m (at + 1) (λ p.
    with_word m (at + 5) (λ n. with_word m p (λ x. Ok (Refers x (at + 9) n))))
    else Err (BadString at))))))))))

-- the node at an address
unfoldable pub node_at : MemoryMap → ℕ → Result Node StringStop
node_at m at = string_read (read 1 m at) >>= contents m at

-- a node's characters begin in memory
abbrev pub BeginsInside : Node → Type 0
BeginsInside (Bytes at) = at ≤ MAX_SIZE
BeginsInside (Words at) = at ≤ MAX_SIZE
BeginsInside _ = Unit {0}
