-- Saved stacks (Glulx 3.1.3, "Contents of the Stack").
use Rattle.std.specs.Prelude.{ℕ, ◌≡◌, ◌≤◌, ◌<◌, ◌+◌, ◌==◌, ◌||◌, Bool, if◌then◌else◌, List, [], ◌∷◌}
use Rattle.std.specs.Prelude.{◌++◌, length}
use Rattle.vm_stack.specs.Frame.{frame_head}
use Rattle.vm_stack.specs.Chain.{Frame, IsFrame, IsBelow, IsChain, bytes_of_frames}

-- the bytes are frames down to 0, with a stub on top that names the last; or there are none
pub record LinkedFrames (xs : List ℕ) : Type 0 where
  pub frames : List Frame
  pub ends : IsBelow frames
  pub linked : IsChain frames
  pub bytes : xs ≡ bytes_of_frames frames

-- the same with a frame at least
pub record SavedStack (xs : List ℕ) : Type 0 where
  pub some : 0 < length xs
  pub linked : LinkedFrames xs

-- the bytes are one frame with so many bytes of values at least
pub record OneFrame (room : ℕ) (xs : List ℕ) : Type 0 where
  pub frame : Frame
  pub is : IsFrame frame
  pub least : room ≤ length frame.values
  pub bytes : xs ≡ frame_head frame.format ++ frame.padding ++ frame.locals ++ frame.values

-- a local's type is its number of bytes
abbrev pub is_type : ℕ → Bool
is_type n = n == 1 || n == 2 || n == 4

-- how long the format is that begins the bytes, n read before them; 0 where there is none
abbrev pub format_from : ℕ → List ℕ → ℕ
format_from n [] = 0
format_from n (size ∷ []) = 0
format_from n (size ∷ count ∷ rest) =
    if size == 0
    then (if count == 0 then n + 2 else 0)
    else (if is_type size then format_from (n + 2) rest else 0)
