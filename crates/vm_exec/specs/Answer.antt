-- What a call that changes a machine answered and left, against what it should (own).
use Rattle.std.specs.Prelude.{◌≡◌, ℕ, List, Vec, Result, Ok, Err}
use Rattle.vm_memory.specs.declared.fault.Trap.{Trap}
use Rattle.vm_memory.specs.declared.fault.Trap.TheVariants.{Fault, NoMemory}

-- The call answered this and left new, as it should, unless memory ran out. After a fault nothing
-- is said of new.
abbrev pub Does : {S A : Type 0} → Result (S × A) ℕ → S → Result A Trap → Type 0
Does should new (Ok x) = should ≡ Ok (new, x)
Does should new (Err (Fault n)) = should ≡ Err n
Does should new (Err NoMemory) = Unit {0}

-- The same of a call that answers nothing.
abbrev pub Changes : {S A : Type 0} → Result S ℕ → S → Result A Trap → Type 0
Changes should new (Ok x) = should ≡ Ok new
Changes should new (Err (Fault n)) = should ≡ Err n
Changes should new (Err NoMemory) = Unit {0}

-- The same of a call that makes a value.
abbrev pub MakesValue : {A : Type 0} → Result A ℕ → Result A Trap → Type 0
MakesValue should (Ok x) = should ≡ Ok x
MakesValue should (Err (Fault n)) = should ≡ Err n
MakesValue should (Err NoMemory) = Unit {0}

-- The same of a call that makes a vector, which is seen as its list of items.
abbrev pub MakesList : {A Z : Type 0} → Result (List A) ℕ → Result (Vec A Z) Trap → Type 0
MakesList should (Ok v) = should ≡ Ok v.items
MakesList should (Err (Fault n)) = should ≡ Err n
MakesList should (Err NoMemory) = Unit {0}

-- The same of a call that changes two values.
abbrev pub LeavesTwoValues : {S T A : Type 0} → Result (S × T) ℕ → S → T → Result A Trap
    → Type 0
LeavesTwoValues should new also (Ok x) = should ≡ Ok (new, also)
LeavesTwoValues should new also (Err (Fault n)) = should ≡ Err n
LeavesTwoValues should new also (Err NoMemory) = Unit {0}
