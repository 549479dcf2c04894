-- Random numbers (Glulx 3.1.3, "Random Number Generator").
use Rattle.std.specs.Prelude.{ℕ}
use Rattle.vm_operand.specs.declared.operand.Dest as d
use Rattle.vm_exec.specs.Random.{next_word, after_word, reseeded, bounded}
use Rattle.vm_exec.specs.declared.machine.Machine.{Machine}
use Rattle.vm_exec.specs.Rules.{Rule, goes, puts}

-- the next word is stored, within the bound
abbrev pub draws : Machine → ℕ → d.Dest → Rule
draws m bound to =
    puts (record m { random = after_word m.random }) to (bounded bound (next_word m.random))

abbrev pub seeds : Machine → ℕ → Rule
seeds m v = goes (record m { random = reseeded m.random v })
