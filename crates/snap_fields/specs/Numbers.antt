-- Numbers and lists as bytes (own: docs/FORMATS.md, "Snapshot bytes").
use Rattle.std.specs.Prelude.{ℕ, List, [], ◌∷◌, ◌++◌, ◌<◌, ◌^◌, length, Bool, true, false}
use Rattle.std.specs.Int.{w32, w64, to_be_bytes}
use Rattle.std.specs.List.{flat_map, AllByRecursion}

-- a number in one, four or eight bytes, the greatest first
abbrev pub n1 : ℕ → List ℕ
n1 n = n ∷ []

abbrev pub n4 : ℕ → List ℕ
n4 n = to_be_bytes w32 n

abbrev pub n8 : ℕ → List ℕ
n8 n = to_be_bytes w64 n

-- what one, four and eight bytes can tell
abbrev pub IsByte : ℕ → Type 0
IsByte n = n < 2 ^ 8

abbrev pub IsWord : ℕ → Type 0
IsWord n = n < 2 ^ 32

abbrev pub IsLong : ℕ → Type 0
IsLong n = n < 2 ^ 64

-- 0 for no, 1 for yes
abbrev pub flag : Bool → ℕ
flag false = 0
flag true = 1

abbrev pub flag1 : Bool → List ℕ
flag1 b = n1 (flag b)

abbrev pub flag4 : Bool → List ℕ
flag4 b = n4 (flag b)

-- each of the two has bytes
abbrev pub IsFlag : Bool → Type 0
IsFlag b = Unit {0}

-- a list is its count and its items
abbrev pub list_of : {A : Type 0} → (A → List ℕ) → List A → List ℕ
list_of print xs = n4 (length xs) ++ flat_map print xs

-- a list of bytes is its count and its bytes
abbrev pub bytes_with_count : List ℕ → List ℕ
bytes_with_count bytes = n4 (length bytes) ++ bytes

-- a text is a list of codes
abbrev pub text_codes : List ℕ → List ℕ
text_codes codes = list_of n4 codes

-- a list whose count has four bytes
abbrev pub IsCounted : {A : Type 0} → List A → Type 0
IsCounted xs = length xs < 2 ^ 32

-- such a list, each item of which is printable
abbrev pub IsListOf : {A : Type 0} → (A → Type 0) → List A → Type 0
IsListOf Is xs = (length xs < 2 ^ 32) × AllByRecursion Is xs
