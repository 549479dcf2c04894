-- A call of the function that stands in memory, from what its beginning gives.
use Rattle.std.proofs.Common.{◌≡◌, ◌⊎◌, inl, inr, ℕ, ◌+◌, ◌==◌, ◌||◌, cond, List, length, drop}
use Rattle.std.proofs.Common.{refl, Result, Ok, Err, ap, sym, ◌∙◌, subst}
use Rattle.vm_memory.specs.MemoryMap.{MemoryMap}
use Rattle.vm_memory.specs.Access.{read}
use Rattle.vm_memory.specs.declared.fault.MemFault.{MemFault}
use Rattle.vm_stack.specs.StackState.{StackState}
use Rattle.vm_stack.specs.Frame.{entered}
use Rattle.vm_flow.specs.Answer.{GivesOrStops, GivesWithRoom, from_memory, from_stack, and_then}
use Rattle.vm_flow.specs.Function.{format_in}
use Rattle.vm_flow.specs.Call.{function_called, arguments_given}
use Rattle.vm_flow.specs.declared.stop.FlowStop.{FlowStop}
use Rattle.vm_flow.specs.declared.stop.FlowStop.TheVariants as stop

abbrev Answered : Type 0
Answered = Result (StackState × ℕ) FlowStop

-- what a function of this type and with this list of locals gives
abbrev begun : StackState → ℕ → List ℕ → ℕ → List ℕ → Answered
begun s at args kind format =
    and_then (from_stack (entered s format)) (λ t.
    and_then (arguments_given kind t format args) (λ u. Ok (u, at + 1 + length format)))

-- what a function of this type gives
abbrev typed : MemoryMap → StackState → ℕ → List ℕ → ℕ → Answered
typed m s at args kind =
    cond (kind == 192 || kind == 193)
    (and_then (format_in at (at + 1) (drop (at + 1) m.bytes)) (begun s at args kind))
    (Err (stop.BadFunction at))

-- a function is at the address, with this type and this list of locals
pub record Stands (m : MemoryMap) (at kind : ℕ) (format : List ℕ) : Type 0 where
  pub reads : read 1 m at ≡ Ok kind
  pub kinds : (kind ≡ 192) ⊎ (kind ≡ 193)
  pub list : format_in at (at + 1) (drop (at + 1) m.bytes) ≡ Ok format

typed_is : (m : MemoryMap) (s : StackState) (at : ℕ) (args : List ℕ) (kind : ℕ)
    → (kind ≡ 192) ⊎ (kind ≡ 193)
    → typed m s at args kind ≡ and_then (format_in at (at + 1) (drop (at + 1) m.bytes))
    (begun s at args kind)
typed_is m s at args kind (inl e) = rw e refl
typed_is m s at args kind (inr e) = rw e refl

called_is : (m : MemoryMap) (s : StackState) (at : ℕ) (args : List ℕ) (kind : ℕ) (format : List ℕ)
    → Stands m at kind format → function_called m s at args ≡ begun s at args kind format
called_is m s at args kind format stands =
    ap (λ (r : Result ℕ MemFault). and_then (from_memory r) (typed m s at args)) stands.reads
    ∙ (typed_is m s at args kind stands.kinds
    ∙ ap (λ (r : Result (List ℕ) FlowStop). and_then r (begun s at args kind)) stands.list)

gives_room : (should : Answered) (new : StackState) (r : Result ℕ FlowStop)
    → GivesOrStops should new r
    → GivesWithRoom should new r
gives_room should new (Ok x) h = h
gives_room should new (Err (stop.Memory f)) h = h
gives_room should new (Err (stop.Stack f)) h = h
gives_room should new (Err (stop.BadFunction f)) h = h
gives_room should new (Err (stop.BadStub f)) h = h
gives_room should new (Err (stop.BadToken f)) h = h
gives_room should new (Err stop.NoMemory) h = tt

pub gives_called : (m : MemoryMap) (s new : StackState) (at : ℕ) (args : List ℕ) (kind : ℕ)
    (format : List ℕ) (r : Result ℕ FlowStop) → Stands m at kind format
    → GivesOrStops (begun s at args kind format) new r
    → GivesWithRoom (function_called m s at args) new r
gives_called m s new at args kind format r stands h =
    subst (λ (should : Answered). GivesWithRoom should new r)
    (sym (called_is m s at args kind format stands))
    (gives_room (begun s at args kind format) new r h)
