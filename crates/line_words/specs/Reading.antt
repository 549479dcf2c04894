-- Readers of a line from left to right (own).
use Rattle.std.specs.Prelude.{◌≡◌, ℕ, ◌==◌, if◌then◌else◌, List, length, Option}
use Rattle.std.specs.Prelude.{Some, None, Result, Ok, Err}
use Rattle.line_words.specs.declared.fault.LineFault.{LineFault}
use Rattle.line_words.specs.declared.fault.LineFault.TheVariants.{BadLine, LongLine, NoMemory}
use Rattle.story_text.specs.declared.fault.TextFault.{TextFault}
use Rattle.story_text.specs.declared.fault.TextFault.TheVariants as text

-- a reader takes a value from the front of the bytes and hands on the rest, or reads nothing
abbrev pub Reader : Type 0 → Type 0
Reader A = List ℕ → Option (A × List ℕ)

infixl 10 ◌>>=◌
abbrev pub ◌>>=◌ : {A B : Type 0} → Option A → (A → Option B) → Option B
(Some x) >>= f = f x
None >>= f = None

-- one reader, and then the other on the rest
infixr 20 ◌then◌
abbrev pub ◌then◌ : {A B : Type 0} → Reader A → Reader B → Reader (A × B)
(first then second) bytes = first bytes >>= λ x. second x.1 >>= λ y. Some ((x.0, y.0), y.1)

-- nothing may follow
abbrev pub at_end : List ℕ → Option (Unit {0})
at_end rest = if length rest == 0 then Some tt else None

-- the value that all the bytes give
abbrev pub whole : {A : Type 0} → Reader A → List ℕ → Option A
whole read bytes = read bytes >>= λ x. at_end x.1 >>= λ _. Some x.0

-- what is made of a value that was read
abbrev pub made_if_read : {A B : Type 0} → (A → B) → Option A → Option B
made_if_read f (Some x) = Some (f x)
made_if_read f None = None

-- a text that isn't spelled makes the line one that isn't spelled
abbrev pub fault_of : TextFault → LineFault
fault_of text.BadText = BadLine
fault_of text.NoMemory = NoMemory

-- what a function returned, seen by view, is what is read, unless memory ran out
abbrev pub FailsOnLine : {Y : Type 0} → LineFault → Option Y → Type 0
FailsOnLine BadLine read = read ≡ None
FailsOnLine LongLine read = ⊥
FailsOnLine NoMemory read = Unit {0}

abbrev pub GivesLineReading : {X Y : Type 0} → (X → Y) → Result X LineFault → Option Y → Type 0
GivesLineReading view (Ok x) read = read ≡ Some (view x)
GivesLineReading view (Err e) read = FailsOnLine e read
