-- A machine's parts are those of that machine alone (own: docs/FORMATS.md, "Snapshot bytes").
use Rattle.std.specs.Prelude.{◌≡◌, ◌≤◌, ℕ, List, length, All, Some}
use Rattle.glulx_image.specs.Header.{IsLaidOut}
use Rattle.quetzal.specs.Returns.{HasRom}
use Rattle.vm_exec.specs.Fields.{machine_of}
use Rattle.vm_exec.specs.Machine.{IsFit}
use Rattle.vm_exec.specs.Start.{IsOver}
use Rattle.vm_exec.specs.declared.fields.MachineFields.{MachineFields}
use Rattle.vm_exec.specs.declared.machine.Machine.{Machine}
use Rattle.vm_undo.specs.UndoList.{IsOfImage}
use Rattle.snap_machine.specs.Fields.{fields_with}
use Rattle.snap_machine.specs.Parts.{machine_parts, store}

-- below RAMSTART a machine's memory has the file's bytes, and so has that of each undo state
pub record HasRoms (m : Machine) : Type 0 where
  pub memory : HasRom m.memory
  pub undo : All (IsOfImage m.undo.origin) m.undo.states

-- its parts and its store are the parts of fields, and any such fields make this machine
pub record IsGivenBack (image : List ℕ) (m : Machine) : Type 0 where
  pub fields : MachineFields
  pub found : fields_with image m.random.seed (machine_parts m) (store m) ≡ Some fields
  pub same : (f : MachineFields)
      → fields_with image m.random.seed (machine_parts m) (store m) ≡ Some f
      → machine_of image f ≡ m

-- what is made of the parts of a machine that waits is the machine
abbrev pub GivesBackMachine : Type 0
GivesBackMachine =
    (image : List ℕ) (m : Machine) → IsLaidOut image → IsFit m → IsOver image m
    → length m.stack.bytes ≤ m.stack.limit → HasRoms m → IsGivenBack image m
