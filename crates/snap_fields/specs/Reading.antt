-- Reading bytes from the left (own: docs/FORMATS.md, "Snapshot bytes").
use Rattle.std.specs.Prelude.{◌≡◌, ℕ, zero, suc, ◌==◌, nat_lt, if◌then◌else◌, Bool, true, false}
use Rattle.std.specs.Prelude.{List, [], ◌∷◌, length, take, drop, Option, Some, None}
use Rattle.std.specs.Prelude.{Result, Ok, Err}
use Rattle.std.specs.Int.{Width, w32, w64, byte_len, from_be_bytes}
use Rattle.snap_fields.specs.declared.fault.SnapFault.{SnapFault}
use Rattle.snap_fields.specs.declared.fault.SnapFault.TheVariants.{BadSnap, NoMemory}

-- a reader takes a value from the front of the bytes and hands on the rest, or reads nothing
abbrev pub Reader : Type 0 → Type 0
Reader A = List ℕ → Option (A × List ℕ)

infixl 10 ◌>>=◌
abbrev pub ◌>>=◌ : {A B : Type 0} → Option A → (A → Option B) → Option B
(Some x) >>= f = f x
None >>= f = None

-- one reader, and then one that depends on what was read
abbrev pub readers_joined : {A B : Type 0} → Reader A → (A → Reader B) → Reader (A × B)
readers_joined first second bytes =
    first bytes >>= λ x. second x.0 x.1 >>= λ y. Some ((x.0, y.0), y.1)

-- one reader, and then the other on the rest
infixr 20 ◌then◌
abbrev pub ◌then◌ : {A B : Type 0} → Reader A → Reader B → Reader (A × B)
first then second = readers_joined first (λ _. second)

-- a number, and then what it tells to read
abbrev pub led_by : {A : Type 0} → Reader ℕ → (ℕ → Reader A) → Reader A
led_by first second bytes = first bytes >>= λ n. second n.0 n.1

-- a value made of what was read
abbrev pub reader_made : {A B : Type 0} → (A → B) → Reader A → Reader B
reader_made f read bytes = read bytes >>= λ x. Some (f x.0, x.1)

-- nothing can be read
abbrev pub none_at : {A : Type 0} → Reader A
none_at bytes = None

-- this value, of no byte
abbrev pub pure_at : {A : Type 0} → A → Reader A
pure_at x bytes = Some (x, bytes)

-- ---- numbers

abbrev pub number_of_width : Width → Reader ℕ
number_of_width w bytes =
    if nat_lt (length bytes) (byte_len w) then None
    else Some (from_be_bytes w (take (byte_len w) bytes), drop (byte_len w) bytes)

unfoldable pub n1_at : Reader ℕ
n1_at [] = None
n1_at (b ∷ bs) = Some (b, bs)

unfoldable pub n4_at : Reader ℕ
n4_at bytes = number_of_width w32 bytes

unfoldable pub n8_at : Reader ℕ
n8_at bytes = number_of_width w64 bytes

-- 0 for no, 1 for yes
abbrev pub bool_at : ℕ → Reader Bool
bool_at n = if n == 0 then pure_at false else (if n == 1 then pure_at true else none_at)

unfoldable pub flag1_at : Reader Bool
flag1_at = led_by n1_at bool_at

unfoldable pub flag4_at : Reader Bool
flag4_at = led_by n4_at bool_at

-- ---- lists

-- so many values
unfoldable pub many_at : {A : Type 0} → Reader A → ℕ → Reader (List A)
many_at read zero bytes = Some ([], bytes)
many_at read (suc n) bytes =
    read bytes >>= λ x. many_at read n x.1 >>= λ xs. Some (x.0 ∷ xs.0, xs.1)

-- so many bytes
abbrev pub taken_at : ℕ → Reader (List ℕ)
taken_at n bytes = if nat_lt (length bytes) n then None else Some (take n bytes, drop n bytes)

unfoldable pub list_at : {A : Type 0} → Reader A → Reader (List A)
list_at read = led_by n4_at (many_at read)

unfoldable pub bytes_at : Reader (List ℕ)
bytes_at = led_by n4_at taken_at

-- ---- what a function returned

-- what a function that takes a value from the front of the bytes returned, and what it left
abbrev pub FailsOnFields : {A : Type 0} → SnapFault → Option A → Type 0
FailsOnFields BadSnap read = read ≡ None
FailsOnFields NoMemory read = Unit {0}

abbrev pub ReadsFront : {A : Type 0} → Reader A → List ℕ → List ℕ → Result A SnapFault → Type 0
ReadsFront read old new (Ok x) = read old ≡ Some (x, new)
ReadsFront read old new (Err e) = FailsOnFields e (read old)

-- the same of a function that returns a value with these parts
abbrev pub ReadsParts
    : {A B : Type 0} → (B → A) → Reader A → List ℕ → List ℕ → Result B SnapFault → Type 0
ReadsParts parts read old new (Ok x) = read old ≡ Some (parts x, new)
ReadsParts parts read old new (Err e) = FailsOnFields e (read old)
