-- A return to the stub below a frame.
use Rattle.std.proofs.Common.{◌≡◌, ◌≤◌, length, refl, Result, Ok, Err, Some, arith, sym, ◌∙◌, subst}
use Rattle.std.proofs.Common.{inl, inr}
use Rattle.std.proofs.lemmas.Bool.{cases_lt, lt-leb, ne_eqb}
use Rattle.vm_stack.specs.StackState.{StackState, value_bytes}
use Rattle.vm_stack.specs.Stub.{stub_taken}
use Rattle.vm_stack.specs.declared.stub.Stub.{Stub}
use Rattle.vm_stack.specs.declared.fault.StackFault.{StackFault}
use Rattle.vm_stack.specs.declared.fault.StackFault.TheVariants.{Underflow}
use Rattle.vm_flow.specs.Return.{stub_or_end}

abbrev Takes : Result (StackState × Stub) StackFault → Type 0
Takes (Ok x) = Unit {0}
Takes (Err e) = ⊥

none_taken : (s : StackState) → length s.bytes ≤ 0 → stub_taken s ≡ Err Underflow
none_taken s none = rw (lt-leb 16 (value_bytes s) (omega (arith, none))) refl

-- where a stub is taken something was left
pub taken_given : (s t : StackState) (x : Stub) → stub_taken s ≡ Ok (t, x)
    → stub_or_end s ≡ Ok (t, Some x)
taken_given s t x e = elim (cases_lt 0 (length s.bytes)) [
  | inl some ↦ rw (ne_eqb (length s.bytes) 0 (λ z. omega (arith, z, some)), e) refl
  | inr none ↦ absurd (subst Takes (sym e ∙ none_taken s none) tt)
]
