-- Steps one after the other are refused by faults alone that have a number from 1 to 24.
use Rattle.std.proofs.Common.{◌≡◌, ◌+◌, ◌*◌, ◌==◌, ◌&&◌, ◌||◌, ℕ, zero, suc, nat_le, Bool}
use Rattle.std.proofs.Common.{true, false, List, [], ◌∷◌, length, take, drop, Result, Ok, Err}
use Rattle.std.proofs.Common.{IfErr, cond, refl}
use Rattle.std.proofs.lemmas.Bool.{and_parts, leb-true}
use Rattle.vm_memory.specs.Access.{read}
use Rattle.vm_memory.specs.Chaining.{◌>>=◌}
use Rattle.vm_memory.specs.Fault.{code_of, coded}
use Rattle.vm_memory.specs.MemoryMap.{MemoryMap}
use Rattle.vm_memory.specs.declared.fault.MemFault.{MemFault}
use Rattle.vm_memory.specs.declared.fault.MemFault.TheVariants.{BadRead, BadWrite}
use Rattle.vm_stack.specs.Frame.{aligned, cut_to, entered, frame_left}
use Rattle.vm_stack.specs.Locals.{local_set}
use Rattle.vm_stack.specs.Saved.{is_type}
use Rattle.vm_stack.specs.StackState.{StackState}
use Rattle.vm_stack.specs.Stub.{stub_taken}
use Rattle.vm_stack.specs.Token.{ends_stub}
use Rattle.vm_stack.specs.Values.{pushed}
use Rattle.vm_stack.specs.declared.fault.StackFault.{StackFault}
use Rattle.vm_stack.specs.declared.fault.StackFault.TheVariants.{Overflow, Underflow, BadLocal}
use Rattle.vm_flow.specs.Answer.{from_memory, from_stack}
use Rattle.vm_flow.specs.Call.{all_pushed, arguments_given, function_called, locals_set, pair_set}
use Rattle.vm_flow.specs.Function.{format_in, prepended}
use Rattle.vm_flow.specs.Return.{given_back}
use Rattle.vm_flow.specs.Throw.{thrown, thrown_in}
use Rattle.vm_flow.specs.declared.stop.FlowStop.{FlowStop}
use Rattle.vm_flow.specs.declared.stop.FlowStop.TheVariants as stop
use Rattle.vm_operand.specs.Fault.{operation_coded}
use Rattle.vm_operand.specs.declared.fault.OpFault.{OpFault}
use Rattle.vm_operand.specs.declared.fault.OpFault.TheVariants.{Read, BadOpcode, Unsupported}
use Rattle.vm_operand.specs.declared.fault.OpFault.TheVariants.{BadMode, DivideByZero}
use Rattle.vm_operand.specs.declared.fault.OpFault.TheVariants.{DivideOverflow}
use Rattle.vm_string.specs.Fault.{string_coded}
use Rattle.vm_string.specs.declared.stop.StringStop.{StringStop}
use Rattle.vm_string.specs.declared.stop.StringStop.TheVariants as string
use Rattle.vm_exec.specs.Fault.{flow_code, flowed, stack_code, stacked}
use Rattle.story_run.specs.Faults.{IsFaultNumber}

-- what is true of a result that is a refusal
pub record Fails {A E : Type 0} (r : Result A E) (P : E → Type 0) : Type 0 where
  pub holds : IfErr r P

-- it is refused by a number of a fault
abbrev pub Numbered : {A : Type 0} → Result A ℕ → Type 0
Numbered r = Fails r IsFaultNumber

pub fails-ok : {A E : Type 0} {P : E → Type 0} {x : A} → Fails {E = E} (Ok x) P
fails-ok = record { holds = tt }

pub fails-err : {A E : Type 0} {P : E → Type 0} {e : E} → P e → Fails {A = A} (Err e) P
fails-err h = record { holds = h }

pub fails-bind : {A B E : Type 0} {P : E → Type 0} {r : Result A E} {f : A → Result B E}
    → Fails r P → ((x : A) → Fails (f x) P) → Fails (r >>= f) P
fails-bind {r = Ok x} h k = k x
fails-bind {r = Err e} h k = record { holds = h.holds }

pub fails-if : {A E : Type 0} {P : E → Type 0} {x y : Result A E} (b : Bool)
    → Fails x P → Fails y P → Fails (cond b x y) P
fails-if true h k = h
fails-if false h k = k

-- ---- numbers

pub known : {n : ℕ} → nat_le 1 n && nat_le n 24 ≡ true → IsFaultNumber n
known {n = n} e =
    let b = and_parts (nat_le 1 n) (nat_le n 24) e in (leb-true 1 n b.0, leb-true n 24 b.1)

-- a fault that a rule names
pub fails-by : {A : Type 0} {n : ℕ} → nat_le 1 n && nat_le n 24 ≡ true → Numbered {A = A} (Err n)
fails-by e = fails-err (known e)

pub code-number : (f : MemFault) → IsFaultNumber (code_of f)
code-number (BadRead at) = known refl
code-number (BadWrite at) = known refl

stack-number : (f : StackFault) → IsFaultNumber (stack_code f)
stack-number Overflow = known refl
stack-number Underflow = known refl
stack-number BadLocal = known refl

pub of-memory : {A : Type 0} (r : Result A MemFault) → Numbered (coded r)
of-memory (Ok x) = fails-ok
of-memory (Err f) = fails-err (code-number f)

pub of-stack : {A : Type 0} (r : Result A StackFault) → Numbered (stacked r)
of-stack (Ok x) = fails-ok
of-stack (Err f) = fails-err (stack-number f)

pub of-operation : {A : Type 0} (r : Result A OpFault) → Numbered (operation_coded r)
of-operation (Ok x) = fails-ok
of-operation (Err (Read f)) = fails-err (code-number f)
of-operation (Err (BadOpcode n)) = fails-by refl
of-operation (Err (Unsupported n)) = fails-by refl
of-operation (Err (BadMode n)) = fails-by refl
of-operation (Err DivideByZero) = fails-by refl
of-operation (Err DivideOverflow) = fails-by refl

pub of-string : {A : Type 0} (r : Result A StringStop) → Numbered (string_coded r)
of-string (Ok x) = fails-ok
of-string (Err (string.Read f)) = fails-err (code-number f)
of-string (Err (string.BadString at)) = fails-by refl
of-string (Err string.NoTable) = fails-by refl

-- ---- calls, returns and throws

-- a stop that is no want of the host's memory
abbrev pub IsFlowFault : FlowStop → Type 0
IsFlowFault (stop.Memory f) = Unit {0}
IsFlowFault (stop.Stack f) = Unit {0}
IsFlowFault (stop.BadFunction at) = Unit {0}
IsFlowFault (stop.BadStub kind) = Unit {0}
IsFlowFault (stop.BadToken token) = Unit {0}
IsFlowFault stop.NoMemory = ⊥

flow-number : (e : FlowStop) → IsFlowFault e → IsFaultNumber (flow_code e)
flow-number (stop.Memory f) h = code-number f
flow-number (stop.Stack f) h = stack-number f
flow-number (stop.BadFunction at) h = known refl
flow-number (stop.BadStub kind) h = known refl
flow-number (stop.BadToken token) h = known refl
flow-number stop.NoMemory h = absurd h

pub of-flow : {A : Type 0} {r : Result A FlowStop} → Fails r IsFlowFault → Numbered (flowed r)
of-flow {r = Ok x} h = fails-ok
of-flow {r = Err e} h = fails-err (flow-number e h.holds)

flow-stack : {A : Type 0} (r : Result A StackFault) → Fails (from_stack r) IsFlowFault
flow-stack (Ok x) = fails-ok
flow-stack (Err f) = fails-err tt

flow-memory : {A : Type 0} (r : Result A MemFault) → Fails (from_memory r) IsFlowFault
flow-memory (Ok x) = fails-ok
flow-memory (Err f) = fails-err tt

pair-fails : (xs : List ℕ) (s : StackState) (at size : ℕ)
    → Fails (pair_set s at size xs) IsFlowFault
pair-fails [] s at size = fails-ok
pair-fails (x ∷ xs) s at size =
    fails-bind (flow-stack (local_set s at size x)) (λ t. pair-fails xs t (at + size) size)

locals-fails : (format : List ℕ) (s : StackState) (at : ℕ) (args : List ℕ)
    → Fails (locals_set s at format args) IsFlowFault
locals-fails [] s at args = fails-ok
locals-fails (size ∷ []) s at args = fails-ok
locals-fails (size ∷ count ∷ rest) s at args =
    fails-if (size == 0) fails-ok
    (fails-bind (pair-fails (take count args) s (aligned size at) size)
    (λ t. locals-fails rest t (aligned size at + size * count) (drop count args)))

pushed-fails : (xs : List ℕ) (s : StackState) → Fails (all_pushed s xs) IsFlowFault
pushed-fails [] s = fails-ok
pushed-fails (x ∷ xs) s = fails-bind (pushed-fails xs s) (λ t. flow-stack (pushed t x))

given-fails : (kind : ℕ) (s : StackState) (format args : List ℕ)
    → Fails (arguments_given kind s format args) IsFlowFault
given-fails kind s format args =
    fails-if (kind == 193) (locals-fails format s 0 args)
    (fails-bind (pushed-fails args s) (λ t. flow-stack (pushed t (length args))))

prepended-fails : (xs : List ℕ) (r : Result (List ℕ) FlowStop)
    → Fails r IsFlowFault → Fails (prepended xs r) IsFlowFault
prepended-fails xs (Ok ys) h = fails-ok
prepended-fails xs (Err e) h = fails-err h.holds

format-fails : (bytes : List ℕ) (function at : ℕ)
    → Fails (format_in function at bytes) IsFlowFault
format-fails [] function at = fails-err tt
format-fails (size ∷ []) function at = fails-err tt
format-fails (size ∷ count ∷ rest) function at =
    fails-if (size == 0 && count == 0) fails-ok
    (fails-if (is_type size)
    (prepended-fails (size ∷ count ∷ []) (format_in function (at + 2) rest)
    (format-fails rest function (at + 2)))
    (fails-err tt))

pub called-fails : (m : MemoryMap) (s : StackState) (at : ℕ) (args : List ℕ)
    → Fails (function_called m s at args) IsFlowFault
called-fails m s at args =
    fails-bind (flow-memory (read 1 m at))
    (λ kind. fails-if (kind == 192 || kind == 193)
    (fails-bind (format-fails (drop (at + 1) m.bytes) at (at + 1))
    (λ format. fails-bind (flow-stack (entered s format))
    (λ t. fails-bind (given-fails kind t format args) (λ u. fails-ok))))
    (fails-err tt))

pub given_back-fails : (s : StackState) → Fails (given_back s) IsFlowFault
given_back-fails s =
    fails-if (length (frame_left s).bytes == 0) fails-ok
    (fails-bind (flow-stack (stub_taken (frame_left s))) (λ x. fails-ok))

thrown_in-fails : (steps : ℕ) (s : StackState) (token : ℕ)
    → Fails (thrown_in steps s token) IsFlowFault
thrown_in-fails zero s token = fails-err tt
thrown_in-fails (suc steps) s token =
    fails-if (ends_stub s token)
    (fails-bind (flow-stack (cut_to s token)) (λ t. flow-stack (stub_taken t)))
    (thrown_in-fails steps (frame_left s) token)

pub thrown-fails : (s : StackState) (token : ℕ) → Fails (thrown s token) IsFlowFault
thrown-fails s token = thrown_in-fails (length s.bytes) s token
