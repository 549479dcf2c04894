-- Good tokens (Glulx 3.1.3, "Continuations").
use Rattle.std.specs.Prelude.{ℕ, ◌≡◌, ◌⊎◌, ◌≤◌, ◌+◌, ◌-◌, ◌%◌, List, [], ◌∷◌, ◌++◌, length, take}
use Rattle.vm_stack.specs.StackState.{StackState, number}
use Rattle.vm_stack.specs.Frame.{frame_head}
use Rattle.vm_stack.specs.Chain.{Frame, bytes_of_frames}
use Rattle.vm_stack.specs.Stub.{stub_at}
use Rattle.vm_stack.specs.declared.stub.Stub.{Stub}

-- the 16 bytes below the place lie among the values of this frame, and have its start as FramePtr
pub record EndsAmong (fr : Frame) (below : List Frame) (token : ℕ) : Type 0 where
  pub low : length (bytes_of_frames below ++ frame_head fr.format ++ fr.padding ++ fr.locals) + 16
      ≤ token
  pub high : token ≤ length (bytes_of_frames (fr ∷ below))
  pub four : token % 4 ≡ 0
  pub names : number 4 (bytes_of_frames (fr ∷ below)) (token - 4) ≡ length (bytes_of_frames below)

-- they do so for one of these frames
abbrev pub IsToken : List Frame → ℕ → Type 0
IsToken [] token = ⊥
IsToken (fr ∷ below) token = EndsAmong fr below token ⊎ IsToken below token

-- what stands below the stub that ends at a token, in the frame that this stub names; and the stub
abbrev pub thrown_to : StackState → ℕ → StackState × Stub
thrown_to s token = (
  record s { bytes = take (token - 16) s.bytes; frame = number 4 s.bytes (token - 4) },
  stub_at s.bytes (token - 16),
)
