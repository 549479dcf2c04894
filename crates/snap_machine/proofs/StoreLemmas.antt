-- The store of a DestType and a DestAddr.
use Rattle.std.proofs.Common.{◌≡◌, ℕ, Bool, true, false, ◌&&◌, ◌==◌}
use Rattle.std.proofs.Common.{Option, Some, None, refl, ap, sym, ◌∙◌, arith}
use Rattle.std.proofs.lemmas.Bool.Decides.{nat_tests}
use Rattle.std.specs.Prelude.{IfNone, IfSome}
use Rattle.vm_exec.specs.Fields.{IsNoStore, store_fields}
use Rattle.vm_operand.specs.declared.operand.Dest.{Dest}
use Rattle.vm_operand.specs.declared.operand.Dest.TheVariants.{Discard, At, Local, Push}
use Rattle.vm_exec.specs.declared.step.Waiting.TheVariants as waits
use Rattle.snap_fields.specs.declared.fields.SnapStub.{SnapStub}
use Rattle.snap_machine.specs.Fields.{dest_of_store}
use Rattle.snap_machine.specs.Parts.{waiting_store}

pub dest_back : (to : Dest) → dest_of_store (waiting_store (waits.Store to)) ≡ Some to
dest_back Discard = refl
dest_back (At a) = refl
dest_back (Local o) = refl
dest_back Push = refl

same_store : (kind address : ℕ) (s : SnapStub) → kind ≡ s.kind → address ≡ s.address
    → record { kind = kind; address = address } ≡ s
same_store kind address s a b = rw (a, b) refl

unless_true : (t : Bool) → (t ≡ true → ⊥) → t ≡ false
unless_true true never = absurd (never refl)
unless_true false never = refl

no_dest : (s : SnapStub) → IsNoStore s.kind s.address → dest_of_store s ≡ None
no_dest s none =
    let discard : (s.kind == 0 && s.address == 0) ≡ false =
    unless_true _ (λ e.
    (let kind : s.kind ≡ 0 = grind (arith, nat_tests, e) in
    let address : s.address ≡ 0 = grind (arith, nat_tests, e) in
    none Discard (rw (kind, address) refl))) in
    let at : (s.kind == 1) ≡ false =
    unless_true _ (λ e.
    (let kind : s.kind ≡ 1 = grind (arith, nat_tests, e) in none (At s.address) (rw kind refl))) in
    let local : (s.kind == 2) ≡ false =
    unless_true _ (λ e.
    (let kind : s.kind ≡ 2 = grind (arith, nat_tests, e) in
    none (Local s.address) (rw kind refl))) in
    let push : (s.kind == 3 && s.address == 0) ≡ false =
    unless_true _ (λ e.
    (let kind : s.kind ≡ 3 = grind (arith, nat_tests, e) in
    let address : s.address ≡ 0 = grind (arith, nat_tests, e) in
    none Push (rw (kind, address) refl))) in
    rw (discard, at, local, push) refl

-- what the fields of a store tell of it
pub dest_told : (s : SnapStub) (r : Option Dest)
    → IfSome r (λ to. store_fields to ≡ (s.kind, s.address))
    → IfNone r (IsNoStore s.kind s.address) → r ≡ dest_of_store s
dest_told s None found only = sym (no_dest s only)
dest_told s (Some to) found only =
    sym (dest_back to)
    ∙ ap dest_of_store (same_store (store_fields to).0 (store_fields to).1 s (ap (λ p. p.0) found)
    (ap (λ p. p.1) found))
