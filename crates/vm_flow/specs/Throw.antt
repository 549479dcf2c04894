-- Catch and throw (Glulx 3.1.3, "Continuations").
use Rattle.std.specs.Prelude.{ℕ, zero, suc, if◌then◌else◌, length, Result, Ok, Err}
use Rattle.vm_stack.specs.StackState.{StackState}
use Rattle.vm_stack.specs.Frame.{frame_left, cut_to}
use Rattle.vm_stack.specs.Stub.{stub_pushed, stub_taken}
use Rattle.vm_stack.specs.Token.{ends_stub}
use Rattle.vm_stack.specs.declared.stub.Stub.{Stub}
use Rattle.vm_flow.specs.Answer.{from_stack, and_then}
use Rattle.vm_flow.specs.declared.stop.FlowStop.{FlowStop}
use Rattle.vm_flow.specs.declared.stop.FlowStop.TheVariants as stop

-- with a stub for the current frame on top, and the token: the place where it ends
abbrev pub caught : StackState → ℕ → ℕ → ℕ → Result (StackState × ℕ) FlowStop
caught s kind at pc =
    and_then
    (from_stack (stub_pushed s (record { kind = kind; at = at; pc = pc; frame = s.frame })))
    (λ t. Ok (t, length t.bytes))

-- cut to a place, and without the stub that ends there
abbrev pub stub_taken_at : StackState → ℕ → Result (StackState × Stub) FlowStop
stub_taken_at s token =
    and_then (from_stack (cut_to s token)) (λ t. from_stack (stub_taken t))

-- the same in the current frame, or else in the first of the n - 1 below it that has the token
abbrev pub thrown_in : ℕ → StackState → ℕ → Result (StackState × Stub) FlowStop
thrown_in zero s token = Err (stop.BadToken token)
thrown_in (suc n) s token =
    if ends_stub s token then stub_taken_at s token else thrown_in n (frame_left s) token

-- the same in any frame; a stack has no more frames than bytes
abbrev pub thrown : StackState → ℕ → Result (StackState × Stub) FlowStop
thrown s token = thrown_in (length s.bytes) s token
