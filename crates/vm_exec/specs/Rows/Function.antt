-- Calls and continuations (Glulx 3.1.3, "Functions" and "Continuations").
use Rattle.std.specs.Prelude.{ℕ, List, [], ◌∷◌, length}
use Rattle.vm_memory.specs.Chaining.{◌>>=◌}
use Rattle.vm_operand.specs.declared.opcode.Flow.{Flow}
use Rattle.vm_operand.specs.declared.opcode.Flow.TheVariants.{Call, Return, Catch, Throw, Tailcall}
use Rattle.vm_operand.specs.declared.opcode.Flow.TheVariants.{Callf, Callfi, Callfii, Callfiii}
use Rattle.vm_stack.specs.Frame.{frame_left}
use Rattle.vm_flow.specs.Throw.{thrown}
use Rattle.vm_operand.specs.declared.operand.Dest as d
use Rattle.vm_exec.specs.Rows.Work.{Work, Free}
use Rattle.vm_exec.specs.declared.machine.Machine.{Machine}
use Rattle.vm_exec.specs.Fault.{flowed}
use Rattle.vm_exec.specs.Rules.{Rule, stored, with_stub, enters, calls, resumes, returns, branches}
use Rattle.vm_exec.specs.Rules.{with_arguments}

-- a stub for the first store is pushed, the place above it is its token, which is stored; then
-- the story branches
abbrev pub catches : Machine → d.Dest → ℕ → Rule
catches m to offset =
    with_stub m to
    >>= (λ n. stored n to (length n.stack.bytes) >>= (λ o. branches o offset))

-- the stack is cut to the token, and the value is the result of the stub that ends there
abbrev pub throws : Machine → ℕ → ℕ → Rule
throws m value token =
    flowed (thrown m.stack token) >>= (λ s. resumes (record m { stack = s.0 }) s.1 value)

-- the current frame is dropped, and the function begins over the stub below it
abbrev pub tailcalls : ℕ → Machine → List ℕ → Rule
tailcalls at m args = enters (record m { stack = frame_left m.stack }) at args

unfoldable pub flow_work : Flow → Machine → (ℕ → ℕ) → (ℕ → d.Dest) → Work
flow_work Call m l d = Free (with_arguments m (l 1) (λ n args. calls n (l 0) args (d 0)))
flow_work Return m l d = Free (returns m (l 0))
flow_work Catch m l d = Free (catches m (d 0) (l 0))
flow_work Throw m l d = Free (throws m (l 0) (l 1))
flow_work Tailcall m l d = Free (with_arguments m (l 1) (tailcalls (l 0)))
flow_work Callf m l d = Free (calls m (l 0) [] (d 0))
flow_work Callfi m l d = Free (calls m (l 0) (l 1 ∷ []) (d 0))
flow_work Callfii m l d = Free (calls m (l 0) (l 1 ∷ l 2 ∷ []) (d 0))
flow_work Callfiii m l d = Free (calls m (l 0) (l 1 ∷ l 2 ∷ l 3 ∷ []) (d 0))
