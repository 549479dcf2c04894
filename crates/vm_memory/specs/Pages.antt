-- Held pages over an image (own). A page has 256 bytes and is found by its number; a row has the
-- pages of 64 numbers.
use Rattle.std.specs.Prelude.{◌≡◌, ◌≤◌, ◌<◌, ℕ, zero, suc, ◌+◌, ◌-◌, ◌*◌, ◌/◌, ◌%◌, List, [], ◌∷◌}
use Rattle.std.specs.Prelude.{length, map, nat_lt, nat_le, slice_index, slice_index_or}
use Rattle.std.specs.Prelude.{if◌then◌else◌, Vec}
use Rattle.std.specs.List.{range_with_len}
use Rattle.std.specs.declared.alloc.Global.{Global}
use Rattle.vm_memory.specs.MemoryMap.{replaced}

-- the held pages by rows, and each page by its bytes
abbrev pub Rows : Type 0
Rows = List (Vec (Vec ℕ Global) Global)

-- what the vector at a place holds, and nothing past the last
abbrev pub items_at : {X : Type 0} → List (Vec X Global) → ℕ → List X
items_at [] n = []
items_at (v ∷ vs) zero = v.items
items_at (v ∷ vs) (suc n) = items_at vs n

-- what is held of a page: nothing, or its first bytes
unfoldable pub page_in : Rows → ℕ → List ℕ
page_in rows n = items_at (items_at rows (n / 64)) (n % 64)

-- the byte that held pages show at an address: the image's past what is held of its page, and 0
-- past the image
unfoldable pub shown : List ℕ → Rows → ℕ → ℕ
shown rom rows i = slice_index_or (page_in rows (i / 256)) (i % 256) (slice_index rom i)

-- the byte of memory at an address, which below RAMSTART is the image's
unfoldable pub byte_of : List ℕ → ℕ → Rows → ℕ → ℕ
byte_of rom ramstart rows i = if nat_lt i ramstart then slice_index rom i else shown rom rows i

-- the bytes of memory of a size
unfoldable pub laid : List ℕ → ℕ → Rows → ℕ → List ℕ
laid rom ramstart rows size = map (byte_of rom ramstart rows) (range_with_len 0 size)

-- a page is held whole
abbrev pub IsHeld : Rows → ℕ → Type 0
IsHeld rows n = 256 ≤ length (page_in rows n)

-- every byte is shown as before, and the held pages are held
pub record Shows (rom : List ℕ) (old new : Rows) : Type 0 where
  pub same : (i : ℕ) → shown rom new i ≡ shown rom old i
  pub held : (n : ℕ) → IsHeld old n → IsHeld new n

-- these bytes are shown at an address and every other as before, and the held pages are held
pub record PutsBytes (rom : List ℕ) (old new : Rows) (at : ℕ) (bytes : List ℕ) : Type 0 where
  pub inside : (i : ℕ) → at ≤ i → i < at + length bytes
      → shown rom new i ≡ slice_index bytes (i - at)
  pub below : (i : ℕ) → i < at → shown rom new i ≡ shown rom old i
  pub past : (i : ℕ) → at + length bytes ≤ i → shown rom new i ≡ shown rom old i
  pub held : (n : ℕ) → IsHeld old n → IsHeld new n

-- a page after a write, where so much of it is held
abbrev pub page_after_write : ℕ → List ℕ → List ℕ → List ℕ
page_after_write at new page =
    if nat_le (at + length new) (length page) then replaced page at new else page

-- a page is shown as before, and held if it was
pub record ShowsPage (rom : List ℕ) (number : ℕ) (old new : List ℕ) : Type 0 where
  pub same : (i : ℕ) → i / 256 ≡ number → slice_index_or new (i % 256) (slice_index rom i)
      ≡ slice_index_or old (i % 256) (slice_index rom i)
  pub held : 256 ≤ length old → 256 ≤ length new

-- the pages of so many bytes at an address are held
abbrev pub HoldsAll : Rows → ℕ → ℕ → Type 0
HoldsAll rows at n = (k : ℕ) → at / 256 ≤ k → k * 256 < at + n → IsHeld rows k

-- no byte is held from this address on, and below it every byte is shown as before
pub record Cuts (rom : List ℕ) (old new : Rows) (size : ℕ) : Type 0 where
  pub below : (i : ℕ) → i < size → shown rom new i ≡ shown rom old i
  pub past : (i : ℕ) → size ≤ i → shown rom new i ≡ slice_index rom i
