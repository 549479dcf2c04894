-- What is written of a story's memory and state is read again (Quetzal 1.4, "Overall Structure").
use Rattle.std.specs.Prelude.{◌≡◌, ℕ, List, Ok}
use Rattle.glulx_image.specs.Header.{IsLaidOut}
use Rattle.vm_memory.specs.MemoryMap.{MemoryMap, KeepsRom}
use Rattle.vm_undo.specs.declared.saved.Saved.{Saved}
use Rattle.quetzal.specs.Save.{IsStateOf, canon, save_in}

-- below RAMSTART stand the file's bytes, as in all memory that `Memory` holds
abbrev pub HasRom : MemoryMap → Type 0
HasRom m = KeepsRom m.ramstart m.rom m.bytes

-- a state of the story is the one that its save spells
abbrev pub GivesStateBack : Type 0
GivesStateBack =
    (image : List ℕ) (s : Saved) → IsLaidOut image → IsStateOf image s → HasRom s.memory
    → save_in image (canon image s) ≡ Ok s
