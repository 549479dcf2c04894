-- What ties bytes to fields (own: docs/FORMATS.md, "Snapshot bytes").
use Rattle.std.specs.Prelude.{◌≡◌, ◌++◌, ℕ, List, [], Result, Ok, Err}
use Rattle.snap_fields.specs.declared.fault.SnapFault.{SnapFault}
use Rattle.snap_fields.specs.declared.fault.SnapFault.TheVariants.{BadSnap, NoMemory}
use Rattle.snap_fields.specs.declared.fields.Fields.{Fields}
use Rattle.snap_fields.specs.Printable.{IsPrintable}
use Rattle.snap_fields.specs.Printing.{print_fields}

-- bytes that are those of these fields
pub record SpellsFields (bytes : List ℕ) (f : Fields) : Type 0 where
  pub ranges : IsPrintable f
  pub printed : bytes ≡ print_fields f

-- no fields have these bytes
abbrev pub SpellsNothing : List ℕ → Type 0
SpellsNothing bytes = (f : Fields) → SpellsFields bytes f → ⊥

-- a refusal says that the bytes spell nothing, unless it is want of memory
abbrev pub RefusesFields : List ℕ → SnapFault → Type 0
RefusesFields bytes BadSnap = SpellsNothing bytes
RefusesFields bytes NoMemory = Unit {0}

-- what reading bytes answers: the fields that they spell, or why not
abbrev pub ReadsFields : List ℕ → Result Fields SnapFault → Type 0
ReadsFields bytes (Ok f) = SpellsFields bytes f
ReadsFields bytes (Err e) = RefusesFields bytes e

-- what is printed of fields is read as these fields, or memory runs out
abbrev pub FieldsAreReadAs : Fields → Result Fields SnapFault → Type 0
FieldsAreReadAs f (Ok g) = g ≡ f
FieldsAreReadAs f (Err e) = e ≡ NoMemory

abbrev pub ReadsEachSpellingOfFields : Type 0
ReadsEachSpellingOfFields =
    (f : Fields) (result : Result Fields SnapFault) → IsPrintable f
    → ReadsFields (print_fields f) result → FieldsAreReadAs f result

-- no two fields have the same bytes
abbrev pub FieldsHaveOneSpelling : Type 0
FieldsHaveOneSpelling =
    (f g : Fields) → IsPrintable f → IsPrintable g → print_fields f ≡ print_fields g → f ≡ g

-- the bytes of fields begin no others': no front of them is a world's bytes, and none may follow
abbrev pub BeginsNoOther : Type 0
BeginsNoOther =
    (f g : Fields) (rest : List ℕ) → IsPrintable f → IsPrintable g
    → print_fields f ++ rest ≡ print_fields g → rest ≡ []
