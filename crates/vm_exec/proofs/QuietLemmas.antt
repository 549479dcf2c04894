-- Quick instructions tell nothing, or that the story has quit.
use Rattle.std.proofs.Common.{◌==◌, ◌||◌, ℕ, ◌%◌, Bool, Result, List, Option, Some, None, nat_le}
use Rattle.vm_memory.specs.Access.{read, written}
use Rattle.vm_memory.specs.Chaining.{◌>>=◌}
use Rattle.vm_memory.specs.Fault.{coded}
use Rattle.vm_operand.specs.Branch.{holds}
use Rattle.vm_operand.specs.declared.opcode.Array.{Array}
use Rattle.vm_operand.specs.declared.opcode.Array.TheVariants.{Aload, Aloads, Aloadb, Aloadbit}
use Rattle.vm_operand.specs.declared.opcode.Array.TheVariants.{Astore, Astores, Astoreb, Astorebit}
use Rattle.vm_operand.specs.declared.opcode.Branch.{Branch}
use Rattle.vm_operand.specs.declared.opcode.Branch.TheVariants.{Jump, Jumpabs, Jz, Jnz, Jeq, Jne}
use Rattle.vm_operand.specs.declared.opcode.Branch.TheVariants.{Jlt, Jge, Jgt, Jle, Jltu, Jgeu}
use Rattle.vm_operand.specs.declared.opcode.Branch.TheVariants.{Jgtu, Jleu}
use Rattle.vm_operand.specs.declared.opcode.Flow.{Flow}
use Rattle.vm_operand.specs.declared.opcode.Flow.TheVariants as flow
use Rattle.vm_operand.specs.declared.opcode.Math.{Math}
use Rattle.vm_operand.specs.declared.opcode.Move.TheVariants.{Copy}
use Rattle.vm_operand.specs.declared.opcode.Op.TheVariants as op
use Rattle.vm_operand.specs.declared.operand.Dest as d
use Rattle.vm_stack.specs.declared.stub.Stub.{Stub}
use Rattle.vm_stack.specs.Frame.{frame_left}
use Rattle.vm_flow.specs.Call.{function_called}
use Rattle.vm_flow.specs.Return.{given_back}
use Rattle.vm_flow.specs.Throw.{thrown}
use Rattle.vm_exec.specs.Fault.{flowed}
use Rattle.vm_exec.specs.Rows.Array.{array_work, bit, byte_with_bit, with_bit}
use Rattle.vm_exec.specs.Rows.Branch.{branch_work}
use Rattle.vm_exec.specs.Rows.Function.{flow_work, tailcalls}
use Rattle.vm_exec.specs.Rows.Math.{math_work}
use Rattle.vm_exec.specs.Rows.Moving.{move_work}
use Rattle.vm_exec.specs.Rows.Work.{Work, Free, Costs}
use Rattle.vm_exec.specs.Rules.{Rule, arguments, branches, calls, enters, goes, goes_on, puts}
use Rattle.vm_exec.specs.Rules.{resumes, returns, stored, stub_dest, when, with_arguments}
use Rattle.vm_exec.specs.Rules.{with_stub, writes}
use Rattle.vm_exec.specs.Run.{IsQuickOpcode}
use Rattle.vm_exec.specs.TextStub.{text_on}
use Rattle.vm_exec.specs.declared.machine.Machine.{Machine}
use Rattle.vm_exec.specs.declared.step.Out.{Out}
use Rattle.vm_exec.specs.declared.step.Out.TheVariants.{Ran, Quit}
use Rattle.vm_exec.proofs.KeepingLemmas.{Gives, ok-done, ok-if, ok-then}

-- nothing is told, or that the story has quit
abbrev pub IsQuietOut : Out → Type 0
IsQuietOut Ran = Unit {0}
IsQuietOut Quit = Unit {0}
IsQuietOut _ = ⊥

-- a rule that tells no more where it is done
abbrev pub IsQuiet : Rule → Type 0
IsQuiet r = Gives r (λ x. IsQuietOut x.1)

-- free work by such a rule
abbrev pub IsQuietWork : Work → Type 0
IsQuietWork (Free r) = IsQuiet r
IsQuietWork (Costs n r) = ⊥

quiet_goes : (r : Result Machine ℕ) → IsQuiet (r >>= goes)
quiet_goes r = ok-then r (λ m. ok-done tt)

quiet_puts : (m : Machine) (to : d.Dest) (r : Result ℕ ℕ) → IsQuiet (r >>= puts m to)
quiet_puts m to r = ok-then r (λ x. quiet_goes (stored m to x))

quiet_writes : (m : Machine) (n at x : ℕ) → IsQuiet (writes m n at x)
quiet_writes m n at x = ok-then (coded (written n m.memory at x)) (λ r. ok-done tt)

pub math_quiet : (o : Math) (m : Machine) (l : ℕ → ℕ) (to : ℕ → d.Dest)
    → IsQuietWork (math_work o m l to)
unfolding math_work
math_quiet o m l to = quiet_puts m _ _

pub copy_quiet : (m : Machine) (l : ℕ → ℕ) (to : ℕ → d.Dest) → IsQuietWork (move_work Copy m l to)
unfolding move_work
copy_quiet m l to = quiet_goes (stored m (to 0) (l 0))

pub array_quiet : (o : Array) (m : Machine) (l : ℕ → ℕ) (to : ℕ → d.Dest)
    → IsQuietWork (array_work o m l to)
unfolding array_work
array_quiet Aload m l to = quiet_puts m _ _
array_quiet Aloads m l to = quiet_puts m _ _
array_quiet Aloadb m l to = quiet_puts m _ _
array_quiet Aloadbit m l to =
    ok-then (coded (read 1 m.memory (byte_with_bit (l 0) (l 1))))
    (λ x. quiet_goes (stored m (to 0) (bit x (l 1 % 8))))
array_quiet Astore m l to = quiet_writes m _ _ _
array_quiet Astores m l to = quiet_writes m _ _ _
array_quiet Astoreb m l to = quiet_writes m _ _ _
array_quiet Astorebit m l to =
    ok-then (coded (read 1 m.memory (byte_with_bit (l 0) (l 1))))
    (λ x. quiet_writes m 1 (byte_with_bit (l 0) (l 1)) (with_bit x (l 1 % 8) (l 2)))

resumes_quiet : (m : Machine) (s : Stub) (x : ℕ) → IsQuiet (resumes m s x)
resumes_quiet m s x =
    ok-if (nat_le s.kind 3)
    (ok-then (stub_dest s) (λ to. quiet_goes (stored (record m { pc = s.pc }) to x)))
    (quiet_goes (text_on m s))

goes_on_quiet : (m : Machine) (s : Option Stub) (x : ℕ) → IsQuiet (goes_on m s x)
goes_on_quiet m None x = ok-done tt
goes_on_quiet m (Some s) x = resumes_quiet m s x

returns_quiet : (m : Machine) (x : ℕ) → IsQuiet (returns m x)
returns_quiet m x =
    ok-then (flowed (given_back m.stack)) (λ s. goes_on_quiet (record m { stack = s.0 }) s.1 x)

branches_quiet : (m : Machine) (offset : ℕ) → IsQuiet (branches m offset)
branches_quiet m offset =
    ok-if (offset == 0 || offset == 1) (returns_quiet m offset) (ok-done tt)

when_quiet : (m : Machine) (b : Bool) (offset : ℕ) → IsQuiet (when m b offset)
when_quiet m b offset = ok-if b (branches_quiet m offset) (ok-done tt)

pub branch_quiet : (o : Branch) (m : Machine) (l : ℕ → ℕ) (to : ℕ → d.Dest)
    → IsQuietWork (branch_work o m l to)
unfolding branch_work
branch_quiet Jump m l to = branches_quiet m (l 0)
branch_quiet Jumpabs m l to = ok-done tt
branch_quiet Jz m l to = when_quiet m (holds Jz (l 0) (l 1)) (l 1)
branch_quiet Jnz m l to = when_quiet m (holds Jnz (l 0) (l 1)) (l 1)
branch_quiet Jeq m l to = when_quiet m (holds Jeq (l 0) (l 1)) (l 2)
branch_quiet Jne m l to = when_quiet m (holds Jne (l 0) (l 1)) (l 2)
branch_quiet Jlt m l to = when_quiet m (holds Jlt (l 0) (l 1)) (l 2)
branch_quiet Jge m l to = when_quiet m (holds Jge (l 0) (l 1)) (l 2)
branch_quiet Jgt m l to = when_quiet m (holds Jgt (l 0) (l 1)) (l 2)
branch_quiet Jle m l to = when_quiet m (holds Jle (l 0) (l 1)) (l 2)
branch_quiet Jltu m l to = when_quiet m (holds Jltu (l 0) (l 1)) (l 2)
branch_quiet Jgeu m l to = when_quiet m (holds Jgeu (l 0) (l 1)) (l 2)
branch_quiet Jgtu m l to = when_quiet m (holds Jgtu (l 0) (l 1)) (l 2)
branch_quiet Jleu m l to = when_quiet m (holds Jleu (l 0) (l 1)) (l 2)

enters_quiet : (m : Machine) (at : ℕ) (args : List ℕ) → IsQuiet (enters m at args)
enters_quiet m at args =
    ok-then (flowed (function_called m.memory m.stack at args)) (λ x. ok-done tt)

calls_quiet : (m : Machine) (at : ℕ) (args : List ℕ) (to : d.Dest) → IsQuiet (calls m at args to)
calls_quiet m at args to = ok-then (with_stub m to) (λ n. enters_quiet n at args)

with_arguments_quiet : (m : Machine) (n : ℕ) (f : Machine → List ℕ → Rule)
    → ((o : Machine) (args : List ℕ) → IsQuiet (f o args)) → IsQuiet (with_arguments m n f)
with_arguments_quiet m n f h =
    ok-then (arguments m.stack n) (λ q. h (record m { stack = q.0 }) q.1)

pub flow_quiet : (o : Flow) (m : Machine) (l : ℕ → ℕ) (to : ℕ → d.Dest) → IsQuickOpcode (op.Flow o)
    → IsQuietWork (flow_work o m l to)
unfolding flow_work
flow_quiet flow.Call m l to q =
    with_arguments_quiet m (l 1) _ (λ n args. calls_quiet n (l 0) args (to 0))
flow_quiet flow.Return m l to q = returns_quiet m (l 0)
flow_quiet flow.Catch m l to q = absurd q
flow_quiet flow.Throw m l to q =
    ok-then (flowed (thrown m.stack (l 1)))
    (λ s. resumes_quiet (record m { stack = s.0 }) s.1 (l 0))
flow_quiet flow.Tailcall m l to q =
    with_arguments_quiet m (l 1) (tailcalls (l 0))
    (λ n. enters_quiet (record n { stack = frame_left n.stack }) (l 0))
flow_quiet flow.Callf m l to q = calls_quiet m _ _ _
flow_quiet flow.Callfi m l to q = calls_quiet m _ _ _
flow_quiet flow.Callfii m l to q = calls_quiet m _ _ _
flow_quiet flow.Callfiii m l to q = calls_quiet m _ _ _
