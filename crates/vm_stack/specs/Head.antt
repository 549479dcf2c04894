-- What a stack keeps of its current frame beside the bytes (own).
use Rattle.std.specs.Prelude.{ℕ, ◌≡◌, ◌≤◌, ◌+◌, List, length}
use Rattle.vm_stack.specs.StackState.{number}
use Rattle.vm_stack.specs.declared.head.Head.{Head}

-- the locals stand between these places, above the frame's two numbers and below its values, as
-- FrameLen and LocalsPos of the frame say
pub record StandsWhole (bytes : List ℕ) (frame : ℕ) (head : Head) : Type 0 where
  pub above : frame + 8 ≤ head.locals
  pub span : head.locals + head.span ≡ head.values
  pub below : head.values ≤ length bytes
  pub locals : frame + number 4 bytes (frame + 4) ≡ head.locals
  pub values : frame + number 4 bytes frame ≡ head.values

-- what is kept of the frame at a place is so, or it is nothing: no locals, and values past every
-- stack's end
pub record IsHead (bytes : List ℕ) (frame : ℕ) (head : Head) : Type 0 where
  pub whole : head.values ≤ 1048576 → StandsWhole bytes frame head
  pub spans : 1 ≤ head.span → head.values ≤ 1048576
