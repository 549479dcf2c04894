-- The nine words of the header, and what they are to keep (Glulx 3.1.3, "The Header").
use Rattle.std.specs.Prelude.{ℕ, Bool, ◌==◌, ◌%◌, ◌&&◌, nat_le, nat_lt, ◌||◌}
use Rattle.std.specs.Prelude.{List, length, drop, ◌≤◌, ◌≡◌}
use Rattle.byteorder.specs.Endian.{big_number}

-- the word at a place
abbrev pub word : List ℕ → ℕ → ℕ
word file at = big_number 4 (drop at file)

abbrev pub magic : List ℕ → ℕ
magic file = word file 0

abbrev pub version : List ℕ → ℕ
version file = word file 4

abbrev pub ramstart : List ℕ → ℕ
ramstart file = word file 8

abbrev pub extstart : List ℕ → ℕ
extstart file = word file 12

abbrev pub endmem : List ℕ → ℕ
endmem file = word file 16

abbrev pub stack_size : List ℕ → ℕ
stack_size file = word file 20

abbrev pub start_function : List ℕ → ℕ
start_function file = word file 24

abbrev pub string_table : List ℕ → ℕ
string_table file = word file 28

abbrev pub checksum : List ℕ → ℕ
checksum file = word file 32

-- a multiple of 256
abbrev pub is_page : ℕ → Bool
is_page n = n % 256 == 0

abbrev pub has_version : List ℕ → Bool
has_version file = nat_le 0x00020000 (version file) && nat_le (version file) 0x000301FF

abbrev pub has_pages : List ℕ → Bool
has_pages file =
    (is_page (ramstart file) && is_page (extstart file))
    && (is_page (endmem file) && is_page (stack_size file))

abbrev pub has_order : List ℕ → Bool
has_order file =
    nat_le 256 (ramstart file)
    && (nat_le (ramstart file) (extstart file) && nat_le (extstart file) (endmem file))

abbrev pub is_too_large : List ℕ → Bool
is_too_large file =
    nat_lt 67108864 (length file)
    || (nat_lt 16777216 (endmem file) || nat_lt 1048576 (stack_size file))

-- what the header of a good file keeps
pub record IsLaidOut (file : List ℕ) : Type 0 where
  pub header : 36 ≤ length file
  pub ram_page : ramstart file % 256 ≡ 0
  pub ext_page : extstart file % 256 ≡ 0
  pub end_page : endmem file % 256 ≡ 0
  pub stack_page : stack_size file % 256 ≡ 0
  pub ram_from : 256 ≤ ramstart file
  pub ram_below : ramstart file ≤ extstart file
  pub ext_below : extstart file ≤ endmem file
  pub end_limit : endmem file ≤ 16777216
  pub stack_limit : stack_size file ≤ 1048576
  pub ext_inside : extstart file ≤ length file
