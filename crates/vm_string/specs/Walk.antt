-- A walk down the string-decoding table (Glulx 3.1.3, "The String-Decoding Table").
use Rattle.std.specs.Prelude.{ℕ, zero, suc, ◌<◌, ◌+◌, ◌*◌, ◌/◌, ◌%◌, ◌^◌}
use Rattle.std.specs.Prelude.{◌==◌, if◌then◌else◌, Result, Ok, Err}
use Rattle.vm_memory.specs.Chaining.{◌>>=◌}
use Rattle.vm_memory.specs.Access.{read}
use Rattle.vm_memory.specs.MemoryMap.{MemoryMap}
use Rattle.vm_string.specs.Fault.{string_read}
use Rattle.vm_string.specs.Node.{node_at}
use Rattle.vm_string.specs.declared.node.Node.{Node}
use Rattle.vm_string.specs.declared.node.Node.TheVariants as node
use Rattle.vm_string.specs.declared.piece.Cursor.{Cursor}
use Rattle.vm_string.specs.declared.piece.Piece.{Piece}
use Rattle.vm_string.specs.declared.piece.Piece.TheVariants as piece
use Rattle.vm_string.specs.declared.stop.StringStop.{StringStop}
use Rattle.vm_string.specs.declared.stop.StringStop.TheVariants.{BadString}
use Rattle.vm_string.specs.declared.walk.Branch.{Branch}
use Rattle.vm_string.specs.declared.walk.Branch.TheVariants.{Fork, NewPath}
use Rattle.vm_string.specs.declared.walk.Turn.{Turn}
use Rattle.vm_string.specs.declared.walk.Turn.TheVariants.{Gives, Branches}
use Rattle.vm_string.specs.declared.walk.Way.{Way}

-- bit p of memory: the low bit of a byte is its first
abbrev pub bit_at : MemoryMap → ℕ → Result ℕ StringStop
bit_at m p = string_read (read 1 m (p / 8)) >>= (λ byte. Ok (byte / 2 ^ (p % 8) % 2))

-- a place in an E1 string: a bit, and how many characters are taken of the node that it leads to
abbrev pub cursor_at : ℕ → ℕ → Cursor
cursor_at p taken = record { kind = 0xE1; at = p / 8; bit = p % 8 + 8 * taken }

-- a character of a node of characters, whose path stays; or its end, which counts as a branch
abbrev pub next_of_run : Way → ℕ → Turn
next_of_run w x =
    if x == 0 then Branches NewPath else Gives (piece.Char x) (cursor_at w.start (w.taken + 1))

-- what a node gives, or how it branches
unfoldable pub met : MemoryMap → Way → Node → Result Turn StringStop
met m w (node.Fork left right) = Ok (Branches (Fork left right))
met m w node.End = Ok (Gives piece.End (cursor_at w.here 0))
met m w (node.One x) = Ok (Gives (piece.Char x) (cursor_at w.here 0))
met m w (node.Bytes at) = string_read (read 1 m (at + w.taken)) >>= (λ x. Ok (next_of_run w x))
met m w (node.Words at) = string_read (read 4 m (at + 4 * w.taken)) >>= (λ x. Ok (next_of_run w x))
met m w (node.Refers at args_at args) =
    Ok (Gives (piece.Call at args_at args) (cursor_at w.here 0))

-- the way behind a branch: 0 goes left, 1 right; a new path begins at the root, from the next bit
abbrev pub branch_followed : MemoryMap → ℕ → Way → Branch → Result Way StringStop
branch_followed m root w (Fork left right) = bit_at m w.here >>= (λ bit.
    Ok (record w { node = if bit == 0 then left else right; here = w.here + 1 }))
branch_followed m root w NewPath =
    Ok (record { node = root; start = w.here; here = w.here; taken = 0 })

-- a piece, or else what a branch leads to
abbrev pub piece_or_branch : Turn → (Branch → Result (Piece × Cursor) StringStop)
    → Result (Piece × Cursor) StringStop
piece_or_branch (Gives p c) go = Ok (p, c)
piece_or_branch (Branches b) go = go b

-- the piece to which at most n branches lead: one branch more is met and not followed
unfoldable pub walk : ℕ → MemoryMap → ℕ → Way → Result (Piece × Cursor) StringStop
walk zero m root w =
    node_at m w.node >>= (λ x. met m w x >>= (λ t. piece_or_branch t (λ b. Err (BadString w.node))))
walk (suc n) m root w =
    node_at m w.node >>= (λ x. met m w x >>= (λ t. piece_or_branch t (λ b.
    branch_followed m root w b >>= (λ v. walk n m root v))))

-- a way's numbers fit
pub record IsFitWay (w : Way) : Type 0 where
  pub start : w.start < 2 ^ 35
  pub here : w.here < 2 ^ 35
  pub taken : w.taken < 2 ^ 29
