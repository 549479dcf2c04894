-- Frames one on the other (Glulx 3.1.3, "Calling and Returning Within Glulx").
use Rattle.std.specs.Prelude.{ℕ, ◌≡◌, ◌⊎◌, ◌≤◌, ◌<◌, ◌-◌, ◌*◌, List, [], ◌∷◌, ◌++◌, length}
use Rattle.vm_stack.specs.StackState.{StackState, number, value_bytes}
use Rattle.vm_stack.specs.Locals.{IsWidth}
use Rattle.vm_stack.specs.Frame.{frame_head, frame_len_of, padding_len, locals_len}

-- pairs of a type 1, 2 or 4 and a count, and then the one pair 0,0
abbrev pub IsFormat : List ℕ → Type 0
IsFormat [] = ⊥
IsFormat (size ∷ []) = ⊥
IsFormat (size ∷ count ∷ rest) =
    ((size ≡ 0) × (count ≡ 0) × (rest ≡ [])) ⊎ (IsWidth size × IsFormat rest)

-- a frame: its format, and the bytes of its padding, of its locals and of its values
pub record Frame : Type 0 where
  pub format : List ℕ
  pub padding : List ℕ
  pub locals : List ℕ
  pub values : List ℕ
  pub count : ℕ

-- its lengths are those of its format, and each of its values has four bytes; no byte of the
-- padding is looked at
pub record IsFrame (fr : Frame) : Type 0 where
  pub format : IsFormat fr.format
  pub padding : length fr.padding ≡ padding_len fr.format
  pub locals : length fr.locals ≡ locals_len fr.format
  pub values : length fr.values ≡ 4 * fr.count
  pub fits : frame_len_of fr.format < 4294967296

-- the bytes of frames, the current one first in the list and last in the bytes
abbrev pub bytes_of_frames : List Frame → List ℕ
bytes_of_frames [] = []
bytes_of_frames (fr ∷ below) =
    bytes_of_frames below ++ frame_head fr.format ++ fr.padding ++ fr.locals ++ fr.values

-- where the current frame begins
abbrev pub start : List Frame → ℕ
start [] = 0
start (fr ∷ below) = length (bytes_of_frames below)

-- the last four of these values are a stub whose FramePtr is this place
pub record EndsInStub (values : List ℕ) (at : ℕ) : Type 0 where
  pub four : 16 ≤ length values
  pub names : number 4 values (length values - 4) ≡ at

-- nothing is there, or the values of the current frame end in a stub that names that frame
abbrev pub IsBelow : List Frame → Type 0
IsBelow [] = Unit {0}
IsBelow (fr ∷ below) = EndsInStub fr.values (length (bytes_of_frames below))

-- each frame is one, and stands on a stub for the frame below it
abbrev pub IsChain : List Frame → Type 0
IsChain [] = Unit {0}
IsChain (fr ∷ below) = IsFrame fr × (IsBelow below × IsChain below)

-- the stack is such frames
pub record Chain (s : StackState) : Type 0 where
  pub frames : List Frame
  pub linked : IsChain frames
  pub bytes : s.bytes ≡ bytes_of_frames frames
  pub frame : s.frame ≡ start frames

-- a frame is there
abbrev pub HasFrame : StackState → Type 0
HasFrame s = 0 < length s.bytes

-- the value on top is the start of the current frame
abbrev pub EndsInOwnStub : StackState → Type 0
EndsInOwnStub s = number 4 s.bytes (length s.bytes - 4) ≡ s.frame

-- a new frame may be entered: nothing is there, or a stub for the current frame is on top
abbrev pub IsReady : StackState → Type 0
IsReady s = (s.bytes ≡ []) ⊎ ((16 ≤ value_bytes s) × EndsInOwnStub s)
