-- The least address at which a block fits (Glulx 3.1.3, "Memory Allocation Heap"; own).
use Rattle.std.specs.Prelude.{ℕ, zero, suc, ◌+◌, ◌-◌, Bool, true, ◌&&◌, ◌||◌}
use Rattle.std.specs.Prelude.{nat_le, cond, List, [], ◌∷◌}
use Rattle.vm_heap.specs.HeapMap.{block_end}
use Rattle.vm_heap.specs.declared.block.Block.{Block}
use Rattle.vm_heap.specs.declared.block.TheConstants.{MAX_SIZE}

-- whether a block of this size at the address meets none of these
abbrev pub fits : List Block → ℕ → ℕ → Bool
fits [] size at = true
fits (b ∷ bs) size at = (nat_le (at + size) b.at || nat_le (block_end b) at) && fits bs size at

-- the least number from n on, among k of them, that passes the test, or the one behind them
unfoldable pub least_from : (ℕ → Bool) → ℕ → ℕ → ℕ
least_from test n zero = n
least_from test n (suc k) = cond (test n) n (least_from test (suc n) k)

-- the least address from the start to 16,777,216 at which a block of this size fits
abbrev pub first_fit : ℕ → List Block → ℕ → ℕ
first_fit start blocks size = least_from (fits blocks size) start (MAX_SIZE + 1 - start)
