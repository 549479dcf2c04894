-- The form and its chunks (Quetzal 1.4, "Overall structure").
use Rattle.std.specs.Prelude.{ℕ, zero, suc, ◌+◌, ◌-◌, ◌%◌, Bool, true}
use Rattle.std.specs.Prelude.{false, ◌&&◌, ◌||◌, ◌==◌, nat_lt, if◌then◌else◌}
use Rattle.std.specs.Prelude.{List, length, codes, take, drop, Option, Some, None, Result, Ok, Err}
use Rattle.std.specs.Borrow.{Bor}
use Rattle.glulx_image.specs.Header.{word}
use Rattle.vm_memory.specs.Chaining.{◌>>=◌}
use Rattle.byteorder.specs.Endian.{big_number}
use Rattle.quetzal.specs.Fault.{or_else}
use Rattle.quetzal.specs.declared.fault.SaveFault.{SaveFault}
use Rattle.quetzal.specs.declared.fault.SaveFault.TheVariants.{NotSave, Cut}
use Rattle.quetzal.specs.declared.form.Parts.{Parts}

-- the word that four letters are
abbrev pub name : List ℕ → ℕ
name letters = big_number 4 letters

-- the name and the contents of the chunk at the front, and what follows it and its padding
unfoldable pub chunk_at : List ℕ → Option (ℕ × List ℕ × List ℕ)
chunk_at rest =
    if nat_lt (length rest) 8 then None
    else (if nat_lt (length (drop 8 rest)) (word rest 4) then None
    else Some (
      word rest 0,
      take (word rest 4) (drop 8 rest),
      drop (word rest 4 % 2)
          (drop (word rest 4) (drop 8 rest)),
    ))

-- chunks to the end of the bytes, at most so many
abbrev pub are_chunks_after : (List ℕ → Bool) → Option (ℕ × List ℕ × List ℕ) → Bool
are_chunks_after more None = false
are_chunks_after more (Some c) = more c.2

abbrev pub are_chunks : ℕ → List ℕ → Bool
are_chunks zero rest = true
are_chunks (suc n) rest = if length rest == 0 then true
    else are_chunks_after (are_chunks n) (chunk_at rest)

-- the contents of the first chunk of a name, among so many
abbrev pub first_after : ℕ → (List ℕ → Option (List ℕ))
    → Option (ℕ × List ℕ × List ℕ) → Option (List ℕ)
first_after name more None = None
first_after name more (Some c) = if c.0 == name then Some c.1 else more c.2

abbrev pub first_named : ℕ → ℕ → List ℕ → Option (List ℕ)
first_named name zero rest = None
first_named name (suc n) rest =
    if length rest == 0 then None else first_after name (first_named name n) (chunk_at rest)

-- what stands in the form
unfoldable pub form_body : List ℕ → Result (List ℕ) SaveFault
form_body bytes =
    if nat_lt (length bytes) 12 then Err NotSave
    else (if word bytes 0 == (name (codes "FORM")) && word bytes 8 == (name (codes "IFZS")) then
    (if nat_lt (word bytes 4) 4 || nat_lt (length bytes) (8 + word bytes 4) then Err Cut
    else Ok (take (word bytes 4 - 4) (drop 12 bytes)))
    else Err NotSave)

-- the parts without where they lie in memory
pub record Pieces : Type 0 where
  pub header : List ℕ
  pub memory : List ℕ
  pub compressed : Bool
  pub stack : List ℕ
  pub heap : Option (List ℕ)

abbrev pub now_of : Option (Bor (List ℕ)) → Option (List ℕ)
now_of None = None
now_of (Some b) = Some b.now

abbrev pub pieces_seen : Parts → Pieces
pieces_seen p = record {
  header = p.header.now;
  memory = p.memory.now;
  compressed = p.compressed;
  stack = p.stack.now;
  heap = now_of p.heap;
}

abbrev pub needed : ℕ → List ℕ → Result (List ℕ) SaveFault
needed name bytes = or_else Cut (first_named name (length bytes) bytes)

-- `CMem` where it is there, else `UMem`
abbrev pub either_of : Option (List ℕ) → Option (List ℕ)
    → Result (List ℕ × Bool) SaveFault
either_of (Some c) u = Ok (c, true)
either_of None (Some u) = Ok (u, false)
either_of None None = Err Cut

abbrev pub memory_chunk : List ℕ → Result (List ℕ × Bool) SaveFault
memory_chunk bytes = either_of (first_named (name (codes "CMem")) (length bytes) bytes)
    (first_named (name (codes "UMem")) (length bytes) bytes)

unfoldable pub parts_of : List ℕ → Result Pieces SaveFault
parts_of bytes = do
  chunks ← form_body bytes
  whole ← (if are_chunks (length chunks) chunks then Ok chunks else Err Cut)
  header ← needed (name (codes "IFhd")) chunks
  stack ← needed (name (codes "Stks")) chunks
  memory ← memory_chunk chunks
  Ok (record {
    header = header;
    memory = memory.0;
    compressed = memory.1;
    stack = stack;
    heap = first_named (name (codes "MAll")) (length chunks) chunks;
  })
