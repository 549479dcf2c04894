-- How many pages of memory a session has of its own (own). A page has 256 bytes.
use Rattle.std.specs.Prelude.{ℕ, ◌+◌, ◌*◌, ◌/◌, Bool, not, List, length, take, drop, count_by}
use Rattle.std.specs.List.{range_with_len}
use Rattle.std.specs.Str.{bytes_eq}
use Rattle.vm_memory.specs.MemoryMap.{MemoryMap, original}

-- the bytes of a page by its number
abbrev pub page_of : List ℕ → ℕ → List ℕ
page_of bytes n = take 256 (drop (n * 256) bytes)

-- whether the bytes of a page differ from those of the original list, which is zeros past its end
abbrev pub page_differs : List ℕ → List ℕ → ℕ → Bool
page_differs rom bytes n =
    not (bytes_eq (page_of bytes n) (page_of (original rom (length bytes)) n))

-- the number of pages whose bytes do
unfoldable pub own_pages : MemoryMap → ℕ
own_pages m = count_by (page_differs m.rom m.bytes) (range_with_len 0 (length m.bytes / 256 + 1))
