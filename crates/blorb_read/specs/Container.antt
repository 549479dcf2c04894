-- A container and the story inside it (Blorb 2.0.4, "Contents of the Resource Index Chunk").
use Rattle.std.specs.Prelude.{ℕ, zero, suc, ◌+◌, ◌*◌, Bool, ◌&&◌, ◌==◌, nat_lt}
use Rattle.std.specs.Prelude.{nat_le, if◌then◌else◌, List, length as size, drop, codes}
use Rattle.std.specs.Prelude.{Option, Some, None, Result, Ok, Err}
use Rattle.byteorder.specs.Endian.{big_number}
use Rattle.blorb_read.specs.declared.fault.BlorbFault.{BlorbFault}
use Rattle.blorb_read.specs.declared.fault.BlorbFault.TheVariants.{NotBlorb, Cut, NoExec, NotGlulx}
use Rattle.blorb_read.specs.declared.container.Span.{Span}

-- the word at a place, and the word that four letters are
abbrev pub word : List ℕ → ℕ → ℕ
word bytes at = big_number 4 (drop at bytes)

abbrev pub name : List ℕ → ℕ
name letters = big_number 4 letters

-- a form of type `IFRS` whose first chunk is the resource index
abbrev pub begins_at : List ℕ → Bool
begins_at bytes =
    word bytes 0 == name (codes "FORM")
    && (word bytes 8 == name (codes "IFRS") && word bytes 12 == name (codes "RIdx"))

-- the index ends inside the file, and its entries inside the index
abbrev pub is_indexed : List ℕ → Bool
is_indexed bytes =
    nat_le 24 (size bytes)
    && (nat_le (20 + word bytes 16) (size bytes) && nat_le (4 + 12 * word bytes 20) (word bytes 16))

-- an entry of usage `Exec` and number 0
abbrev pub is_executable : List ℕ → ℕ → Bool
is_executable bytes at = word bytes at == name (codes "Exec") && word bytes (at + 4) == 0

-- the start that the first such entry gives, of so many entries from a place on
abbrev pub story_start : ℕ → ℕ → List ℕ → Option ℕ
story_start zero at bytes = None
story_start (suc n) at bytes =
    if is_executable bytes at then Some (word bytes (at + 8)) else story_start n (at + 12) bytes

-- the contents of the Glulx chunk at a place
abbrev pub story_chunk_at : List ℕ → ℕ → Result Span BlorbFault
story_chunk_at bytes start =
    if nat_lt (size bytes) (start + 8) then Err (Cut start)
    else (if word bytes start == name (codes "GLUL") then
    (if nat_lt (size bytes) (start + 8 + word bytes (start + 4)) then Err (Cut start)
    else Ok (record { start = start + 8; length = word bytes (start + 4) }))
    else Err NotGlulx)

abbrev pub chunk_named : List ℕ → Option ℕ → Result Span BlorbFault
chunk_named bytes (Some start) = story_chunk_at bytes start
chunk_named bytes None = Err NoExec

-- where the story's bytes are, or the first cause against the container
abbrev pub story_span : List ℕ → Result Span BlorbFault
story_span bytes =
    if nat_lt (size bytes) 16 then Err NotBlorb
    else (if begins_at bytes then
    (if is_indexed bytes then chunk_named bytes (story_start (word bytes 20) 24 bytes)
    else Err (Cut 12))
    else Err NotBlorb)
