-- The causes against a save, and what a reader answers (own).
use Rattle.std.specs.Prelude.{ℕ, ◌≡◌, Option, Some, None, Result, Ok, Err}
use Rattle.quetzal.specs.declared.fault.SaveFault.{SaveFault}
use Rattle.quetzal.specs.declared.fault.SaveFault.TheVariants.{NotSave, Cut, OtherStory, BadRuns}
use Rattle.quetzal.specs.declared.fault.SaveFault.TheVariants.{BadStack, BadHeap, NoMemory}

-- the causes by their numbers, in the order in which they are looked for
abbrev pub save_fault_number : SaveFault → ℕ
save_fault_number NotSave = 1
save_fault_number Cut = 2
save_fault_number OtherStory = 3
save_fault_number BadRuns = 4
save_fault_number BadStack = 5
save_fault_number BadHeap = 6
save_fault_number NoMemory = 0

-- what isn't there has this cause
abbrev pub or_else : {A : Type 0} → SaveFault → Option A → Result A SaveFault
or_else e None = Err e
or_else e (Some x) = Ok x

-- what a function returned, seen by view, is what reading gives
abbrev pub GivesExactly : {X Y : Type 0} → (X → Y) → Result X SaveFault → Result Y SaveFault
    → Type 0
GivesExactly view (Ok x) read = read ≡ Ok (view x)
GivesExactly view (Err e) read = read ≡ Err e

abbrev pub FailsOnSave : {Y : Type 0} → SaveFault → Result Y SaveFault → Type 0
FailsOnSave NoMemory read = Unit {0}
FailsOnSave NotSave read = read ≡ Err NotSave
FailsOnSave Cut read = read ≡ Err Cut
FailsOnSave OtherStory read = read ≡ Err OtherStory
FailsOnSave BadRuns read = read ≡ Err BadRuns
FailsOnSave BadStack read = read ≡ Err BadStack
FailsOnSave BadHeap read = read ≡ Err BadHeap

-- the same unless memory ran out
abbrev pub GivesUnlessNoMemory : {X Y : Type 0} → (X → Y) → Result X SaveFault → Result Y SaveFault
    → Type 0
GivesUnlessNoMemory view (Ok x) read = read ≡ Ok (view x)
GivesUnlessNoMemory view (Err e) read = FailsOnSave e read
