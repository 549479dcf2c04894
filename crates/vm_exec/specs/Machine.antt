-- The machine while its story runs (Glulx 3.1.3, "Machine State").
use Rattle.std.specs.Prelude.{ℕ, ◌≡◌, ◌≤◌, ◌%◌, length, List, [], All}
use Rattle.vm_memory.specs.MemoryMap.{Origin, origin_of}
use Rattle.vm_stack.specs.Chain.{Chain, HasFrame, IsReady}
use Rattle.vm_heap.specs.HeapMap.{HeapMap}
use Rattle.vm_undo.specs.SavedState.{IsSize, IsHeapOver, IsSavedOf}
use Rattle.vm_undo.specs.UndoList.{KeepLimits, UndoList}
use Rattle.vm_undo.specs.declared.saved.Saved.{Saved}
use Rattle.vm_exec.specs.declared.machine.Machine.{Machine}
use Rattle.vm_exec.specs.declared.step.Out.{Out}
use Rattle.vm_exec.specs.declared.step.Out.TheVariants as out
use Rattle.vm_exec.specs.declared.step.Step.{Step}
use Rattle.vm_exec.specs.declared.step.Step.TheVariants as step
use Rattle.vm_exec.specs.declared.step.Waiting.{Waiting}
use Rattle.vm_exec.specs.declared.step.Waiting.TheVariants.{Store, Stub}
use Rattle.vm_exec.specs.declared.text.Text.TheVariants.{Off}

-- memory of an image, with so many bytes, a heap and the states that undo keeps: the size is one
-- that it may have, the heap is one over it, and the states are the story's
pub record IsMapped (o : Origin) (n : ℕ) (h : HeapMap) (u : UndoList) : Type 0 where
  pub page : o.endmem % 256 ≡ 0
  pub size : IsSize o.endmem n
  pub heap : IsHeapOver o.endmem n h.start h.blocks
  pub image : u.origin ≡ o
  pub undo : All (IsSavedOf o) u.states

-- a heap that isn't active
abbrev pub no_heap : HeapMap
no_heap = record { start = 0; blocks = [] }

-- no state is kept of this image
abbrev pub no_states : Origin → UndoList
no_states o = record { origin = o; states = [] }

-- no save is waited for
abbrev pub WaitsForNoSave : Waiting → Type 0
WaitsForNoSave (Store to) = Unit {0}
WaitsForNoSave Stub = ⊥

-- memory, heap and undo are by their rules, the stack is frames, one at least, each on a stub for
-- the one below, and no save is waited for
pub record IsSoundMachine (m : Machine) : Type 0 where
  pub map : IsMapped (origin_of m.memory) (length m.memory.bytes) m.heap m.undo
  pub frames : Chain m.stack
  pub frame : HasFrame m.stack
  pub waits : WaitsForNoSave m.waiting

-- the same between two instructions, while no text is in progress
pub record IsFit (m : Machine) : Type 0 where
  pub map : IsMapped (origin_of m.memory) (length m.memory.bytes) m.heap m.undo
  pub frames : Chain m.stack
  pub frame : HasFrame m.stack
  pub waits : WaitsForNoSave m.waiting
  pub still : m.text ≡ Off

-- the same while a save is waited for: the stub that takes its result is on top
pub record IsSaving (m : Machine) : Type 0 where
  pub map : IsMapped (origin_of m.memory) (length m.memory.bytes) m.heap m.undo
  pub frames : Chain m.stack
  pub frame : HasFrame m.stack
  pub waits : m.waiting ≡ Stub
  pub ready : IsReady m.stack
  pub still : m.text ≡ Off

-- memory stays over the same image, and the stack has the same greatest size; what verify stores,
-- what a restart goes back to and the seed of the random words stay
pub record KeepsImage (old new : Machine) : Type 0 where
  pub origin : origin_of old.memory ≡ origin_of new.memory
  pub limit : old.stack.limit ≡ new.stack.limit
  pub verified : old.verified ≡ new.verified
  pub start_function : old.start_function ≡ new.start_function
  pub first_table : old.first_table ≡ new.first_table
  pub seed : old.random.seed ≡ new.random.seed

-- a saved state whose stack has at most so many bytes
abbrev pub IsHeldBy : ℕ → Saved → Type 0
IsHeldBy size s = length s.stack ≤ size

-- the I/O system is one of the three, and undo keeps states within its limits, each of which a
-- stack of this size holds
pub record IsWithin (size mode : ℕ) (states : List Saved) : Type 0 where
  pub system : mode ≤ 2
  pub limits : KeepLimits states
  pub held : All (IsHeldBy size) states

-- the machine is sound unless its story is over; no text is in progress where it waits for Glk, a
-- save or a restore, or is over
abbrev pub StaysFit : Machine → Out → Type 0
StaysFit m out.Ran = IsSoundMachine m
StaysFit m (out.Char code) = IsSoundMachine m
StaysFit m (out.Glk selector args) = IsFit m
StaysFit m (out.Save stream) = IsSaving m
StaysFit m (out.Restore stream) = IsFit m
StaysFit m out.Quit = m.text ≡ Off

abbrev pub GoesOnFit : Machine → Step → Type 0
GoesOnFit m (step.Ran cost) = IsSoundMachine m
GoesOnFit m (step.Out code cost) = IsSoundMachine m
GoesOnFit m (step.Glk selector args cost) = IsFit m
GoesOnFit m (step.Save stream cost) = IsSaving m
GoesOnFit m (step.Restore stream cost) = IsFit m
GoesOnFit m step.Quit = m.text ≡ Off
