-- Looking for a number in a table.
use Rattle.std.proofs.Common.{◌≡◌, ◌≢◌, true, false, cond, nat_eq, ℕ, Option, Some, None, refl, sym}
use Rattle.std.proofs.Common.{List, [], ◌∷◌}
use Rattle.std.specs.Prelude.{IfSome}
use Rattle.vm_operand.specs.Opcode.{op_of, opcodes, opcode_number, first_with}
use Rattle.vm_operand.specs.declared.opcode.Op.{Op}
use Rattle.vm_operand.specs.declared.opcode.Op.TheVariants as op
use Rattle.vm_operand.specs.declared.opcode.Math.TheVariants.{Add}
use Rattle.vm_operand.specs.declared.opcode.Branch.TheVariants.{Jump}
use Rattle.vm_operand.specs.declared.opcode.Flow.TheVariants.{Call}
use Rattle.vm_operand.specs.declared.opcode.Move.TheVariants.{Copy}
use Rattle.vm_operand.specs.declared.opcode.Array.TheVariants.{Aload}
use Rattle.vm_operand.specs.declared.opcode.Values.TheVariants.{Stkcount}
use Rattle.vm_operand.specs.declared.opcode.Stream.TheVariants.{Streamchar}
use Rattle.vm_operand.specs.declared.opcode.State.TheVariants.{Quit}
use Rattle.vm_operand.specs.declared.opcode.System.TheVariants.{Nop}
use Rattle.vm_operand.specs.declared.opcode.Search.TheVariants.{Linearsearch}
use Rattle.std.proofs.lemmas.Bool.{eqb-true}

-- a row of another number is passed over
pub passed : {A : Type 0} (n k : ℕ) (x : A) (rest : Option A) → n ≢ k → None ≡ rest
    → None ≡ cond (nat_eq n k) (Some x) rest
passed n k x rest other h =
    elim (nat_eq n k) as (λ b. (b ≡ true → n ≡ k)
    → None ≡ cond b (Some x) rest) [ true ↦ (λ e. absurd (other (e refl))) | false ↦ (λ e. h) ]
    (eqb-true n k)

-- the number of a row leads back to it
pub op_of-number_of : (o : Op) → op_of (opcode_number o) ≡ Some o
unfolding op_of opcodes
op_of-number_of (op.Math Add) = refl
op_of-number_of (op.Math o) = refl
op_of-number_of (op.Branch Jump) = refl
op_of-number_of (op.Branch o) = refl
op_of-number_of (op.Flow Call) = refl
op_of-number_of (op.Flow o) = refl
op_of-number_of (op.Move Copy) = refl
op_of-number_of (op.Move o) = refl
op_of-number_of (op.Array Aload) = refl
op_of-number_of (op.Array o) = refl
op_of-number_of (op.Values Stkcount) = refl
op_of-number_of (op.Values o) = refl
op_of-number_of (op.Stream Streamchar) = refl
op_of-number_of (op.Stream o) = refl
op_of-number_of (op.State Quit) = refl
op_of-number_of (op.State o) = refl
op_of-number_of (op.System Nop) = refl
op_of-number_of (op.System o) = refl
op_of-number_of (op.Search Linearsearch) = refl
op_of-number_of (op.Search o) = refl

-- a row that is found has the number
pub first_with-number : {A : Type 0} (number : A → ℕ) (xs : List A) (n : ℕ)
    → IfSome (first_with number xs n) (λ x. number x ≡ n)
first_with-number number [] n = tt
first_with-number number (x ∷ xs) n =
    elim (nat_eq n (number x)) as (λ b. (b ≡ true → n ≡ number x)
    → IfSome (cond b (Some x) (first_with number xs n)) (λ y. number y ≡ n))
    [ true ↦ (λ e. sym (e refl)) | false ↦ (λ e. first_with-number number xs n) ]
    (eqb-true n (number x))

pub number_of-op_of : (n : ℕ) → IfSome (op_of n) (λ o. opcode_number o ≡ n)
unfolding op_of
number_of-op_of n = first_with-number opcode_number opcodes n
