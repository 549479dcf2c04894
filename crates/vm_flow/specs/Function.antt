-- Functions and their lists of locals (Glulx 3.1.3, "Functions").
use Rattle.std.specs.Prelude.{ℕ, ◌≡◌, ◌+◌, ◌==◌, ◌&&◌, if◌then◌else◌, List, [], ◌∷◌, ◌++◌, drop}
use Rattle.std.specs.Prelude.{take, Result, Ok, Err, IsOk}
use Rattle.vm_stack.specs.Saved.{is_type}
use Rattle.vm_memory.specs.MemoryMap.{MemoryMap}
use Rattle.vm_memory.specs.Access.{read}
use Rattle.vm_memory.specs.declared.fault.MemFault.TheVariants.{BadRead}
use Rattle.vm_flow.specs.declared.stop.FlowStop.{FlowStop}
use Rattle.vm_flow.specs.declared.stop.FlowStop.TheVariants as stop

-- these bytes, and then those that are given
abbrev pub prepended : List ℕ → Result (List ℕ) FlowStop → Result (List ℕ) FlowStop
prepended xs (Ok ys) = Ok (xs ++ ys)
prepended xs (Err e) = Err e

-- the pairs of type and count of a function, up to the pair 0,0, in the bytes of memory from an
-- address on; both bytes of a pair are read before its type is looked at
abbrev pub format_in : ℕ → ℕ → List ℕ → Result (List ℕ) FlowStop
format_in function at [] = Err (stop.Memory (BadRead at))
format_in function at (size ∷ []) = Err (stop.Memory (BadRead (at + 1)))
format_in function at (size ∷ count ∷ rest) =
    if size == 0 && count == 0 then Ok (0 ∷ 0 ∷ [])
    else (if is_type size
    then prepended (size ∷ count ∷ []) (format_in function (at + 2) rest)
    else Err (stop.BadFunction function))

-- a function of this type, and with this list of locals, the pair 0,0 at its end, is at an address
pub record IsFunction (kind : ℕ) (m : MemoryMap) (at : ℕ) (format : List ℕ) : Type 0 where
  pub type : read 1 m at ≡ Ok kind
  pub list : format_in at (at + 1) (drop (at + 1) m.bytes) ≡ Ok format

-- the list of locals of a function, the pair 0,0 too, stands below RAMSTART and is well formed
abbrev pub IsInFront : MemoryMap → ℕ → Type 0
IsInFront m at = IsOk (format_in at (at + 1) (drop (at + 1) (take m.ramstart m.bytes)))
