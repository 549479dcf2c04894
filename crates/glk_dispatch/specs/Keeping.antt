-- What calls keep of a story's memory and stack (own).
use Rattle.std.specs.Prelude.{◌≡◌}
use Rattle.vm_memory.specs.MemoryMap.{MemoryMap, KeepsMap}
use Rattle.vm_stack.specs.StackState.{StackState}
use Rattle.vm_stack.specs.Chain.{Chain, HasFrame}

-- a stack of the same greatest size, in which frames stay frames, one at least
pub record KeepsFrames (old new : StackState) : Type 0 where
  pub limit : old.limit ≡ new.limit
  pub frames : Chain old → HasFrame old → Chain new × HasFrame new

-- memory of the same image and size, and such a stack
pub record KeepsStory (m : MemoryMap) (s : StackState) (n : MemoryMap) (t : StackState)
    : Type 0 where
  pub map : KeepsMap m n
  pub stack : KeepsFrames s t
