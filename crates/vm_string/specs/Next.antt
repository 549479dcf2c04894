-- The next piece of a string at a cursor (Glulx 3.1.3, "Strings").
use Rattle.std.specs.Prelude.{ℕ, ◌+◌, ◌*◌, ◌/◌, ◌%◌, ◌^◌, ◌==◌, if◌then◌else◌, Result, Ok, Err}
use Rattle.vm_memory.specs.Chaining.{◌>>=◌}
use Rattle.vm_memory.specs.Access.{read}
use Rattle.vm_memory.specs.MemoryMap.{MemoryMap}
use Rattle.vm_string.specs.Fault.{string_read}
use Rattle.vm_string.specs.Node.{with_word}
use Rattle.vm_string.specs.Walk.{walk}
use Rattle.vm_string.specs.declared.piece.Cursor.{Cursor}
use Rattle.vm_string.specs.declared.piece.Piece.{Piece}
use Rattle.vm_string.specs.declared.piece.Piece.TheVariants as piece
use Rattle.vm_string.specs.declared.stop.StringStop.{StringStop}
use Rattle.vm_string.specs.declared.stop.StringStop.TheVariants.{BadString, NoTable}
use Rattle.vm_string.specs.declared.walk.Way.{Way}

-- the walk from the root that begins at a cursor
abbrev pub way_at : ℕ → Cursor → Way
way_at root c = record {
  node = root;
  start = 8 * c.at + c.bit % 8;
  here = 8 * c.at + c.bit % 8;
  taken = c.bit / 8;
}

-- the piece of an E1 string: the root's address is the table's third word, and at most 65,536
-- branches lead to a piece
unfoldable pub coded_piece : MemoryMap → ℕ → Cursor → Result (Piece × Cursor) StringStop
coded_piece m table c =
    if table == 0 then Err NoTable
    else with_word m ((table + 8) % 2 ^ 32) (λ root. walk 65536 m root (way_at root c))

-- the piece of a string whose characters have n bytes each, 0 its end
abbrev pub plain_piece : ℕ → MemoryMap → Cursor → Result (Piece × Cursor) StringStop
plain_piece n m c = string_read (read n m c.at) >>= (λ x.
    Ok (if x == 0 then piece.End else piece.Char x, record c { at = c.at + n }))

-- a cursor before an object's first byte comes to its first piece; three bytes behind an E2 are
-- passed
unfoldable pub at_first_piece : MemoryMap → Cursor → Result Cursor StringStop
at_first_piece m c =
    if c.kind == 0 then
    string_read (read 1 m c.at) >>= (λ kind.
    if kind == 0xE0 then Ok (record { kind = 0xE0; at = c.at + 1; bit = 0 })
    else (if kind == 0xE1 then Ok (record { kind = 0xE1; at = c.at + 1; bit = 0 })
    else (if kind == 0xE2 then Ok (record { kind = 0xE2; at = c.at + 4; bit = 0 })
    else Err (BadString c.at))))
    else Ok c

unfoldable pub piece_in : MemoryMap → ℕ → Cursor → Result (Piece × Cursor) StringStop
piece_in m table c =
    if c.kind == 0xE0 then plain_piece 1 m c
    else (if c.kind == 0xE1 then coded_piece m table c
    else (if c.kind == 0xE2 then plain_piece 4 m c
    else Err (BadString c.at)))

abbrev pub piece_after : MemoryMap → ℕ → Cursor → Result (Piece × Cursor) StringStop
piece_after m table c = at_first_piece m c >>= (λ d. piece_in m table d)
