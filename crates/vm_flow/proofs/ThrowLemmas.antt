-- Returns and throws, step by step.
use Rattle.std.proofs.Common.{◌≡◌, ℕ, zero, suc, ◌-◌, ◌<◌, ◌≤◌, true, false, refl}
use Rattle.std.proofs.Common.{arith, Result, Ok, Err, ap, sym, subst}
use Rattle.vm_stack.specs.StackState.{StackState}
use Rattle.vm_stack.specs.Frame.{frame_left}
use Rattle.vm_stack.specs.Token.{ends_stub}
use Rattle.vm_stack.specs.declared.stub.Stub.{Stub}
use Rattle.vm_flow.specs.Answer.{GivesOrStops}
use Rattle.vm_flow.specs.Throw.{thrown_in, stub_taken_at}
use Rattle.vm_flow.specs.declared.stop.FlowStop.{FlowStop}
use Rattle.vm_flow.specs.declared.stop.FlowStop.TheVariants as stop

pub thrown_here : (n : ℕ) (s : StackState) (token : ℕ) → 0 < n → ends_stub s token ≡ true
    → thrown_in n s token ≡ stub_taken_at s token
thrown_here zero s token some e = absurd (omega (arith, some))
thrown_here (suc n) s token some e = rw e refl

pub thrown_below : (n : ℕ) (s : StackState) (token : ℕ) → 0 < n → ends_stub s token ≡ false
    → thrown_in n s token ≡ thrown_in (n - 1) (frame_left s) token
thrown_below zero s token some e = absurd (omega (arith, some))
thrown_below (suc n) s token some e =
    rw e (ap (λ (k : ℕ). thrown_in k (frame_left s) token) (omega arith))

pub thrown_none : (n : ℕ) (s : StackState) (token : ℕ) → n ≤ 0
    → thrown_in n s token ≡ Err (stop.BadToken token)
thrown_none zero s token none = refl
thrown_none (suc n) s token none = absurd (omega (arith, none))

abbrev Stops : Result (StackState × Stub) FlowStop → Type 0
Stops (Ok x) = ⊥
Stops (Err e) = Unit {0}

abbrev answered : Result (StackState × Stub) FlowStop → Result Stub FlowStop
answered (Ok x) = Ok x.1
answered (Err e) = Err e

-- a call that should stop answers that stop
pub gives_stop : (new : StackState) (r : Result Stub FlowStop) (e : FlowStop)
    → GivesOrStops (Err e) new r
    → r ≡ Err e
gives_stop new (Ok x) e h = absurd (subst Stops h tt)
gives_stop new (Err f) e h = sym (ap answered h)
