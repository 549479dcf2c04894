-- A turn ends: each step takes a tick, so more steps than ticks change nothing.
use Rattle.std.proofs.Common.{◌≡◌, ℕ, zero, suc, ◌+◌, ◌-◌, ◌<◌, ◌≤◌, Bool, true, false, nat_lt}
use Rattle.std.proofs.Common.{refl, ap, sym, ◌∙◌, arith, add-one, Result, Ok, Err, cond, subst}
use Rattle.std.proofs.Common.{IfOk, IsErrAnd, List}
use Rattle.std.specs.declared.alloc.AllocError.{AllocError}
use Rattle.std.proofs.lemmas.Bool.Decides.{nat_tests}
use Rattle.vm_exec.specs.Run.{EndsBy, RunsTo, RunsWithin}
use Rattle.vm_exec.specs.Row.{Charged, due, row, step_within, step_of}
use Rattle.vm_exec.specs.Row as exec
use Rattle.vm_exec.specs.Rows.Work.{Work, Free, Costs}
use Rattle.vm_exec.specs.declared.machine.Machine.{Machine}
use Rattle.vm_exec.specs.declared.step.Out.{Out}
use Rattle.vm_exec.specs.declared.step.Out.TheVariants as out
use Rattle.vm_exec.specs.Rules.{Rule}
use Rattle.vm_memory.specs.Chaining.{◌>>=◌}
use Rattle.vm_memory.specs.MemoryMap.{MemoryMap}
use Rattle.glk_dispatch.specs.Answer.{Reached, glk_call}
use Rattle.glk_dispatch.specs.Answer as dispatch
use Rattle.glk_dispatch.specs.Call.{selector_called}
use Rattle.glk_dispatch.specs.Output.{put_code}
use Rattle.story_run.specs.Step.{Next, Advances, faults, Runs, Rests, Running, next_step}
use Rattle.story_run.specs.Step.{running, step_followed, stepped, after_glk_call, call_charged}
use Rattle.story_run.specs.Step.{done, machine_after_call, call_stored, character_put, went_on}
use Rattle.story_run.specs.Saves.{restored, saved}
use Rattle.story_run.specs.Turn.{Proceeds, Stops, after_step, steps, rest}
use Rattle.glk_dispatch.specs.declared.called.Called.{Called}
use Rattle.glk_dispatch.specs.declared.called.Called.TheVariants as call
use Rattle.glk_dispatch.specs.declared.glk.Glk.{Glk}
use Rattle.story_run.specs.declared.stage.Stage.{Stage}
use Rattle.story_run.specs.declared.step.Progress.{Progress}
use Rattle.story_run.specs.declared.step.Progress.TheVariants as progress
use Rattle.story_run.specs.declared.stage.Stage.TheVariants as stage
use Rattle.vm_memory.specs.declared.fault.Trap.{Trap}
use Rattle.vm_memory.specs.declared.fault.Trap.TheVariants as trap

-- fewer ticks are left
abbrev pub IsBelow : ℕ → Next → Type 0
IsBelow ticks (Runs left r) = left < ticks
IsBelow ticks (Rests g s) = Unit {0}

put-below : (ticks left : ℕ) (m : Machine) (x : Reached (Glk × MemoryMap)) → left < ticks
    → IsBelow ticks (character_put left m x)
put-below ticks left m (Ok x) h = h
put-below ticks left m (Err e) h = tt

stored-below : (ticks left : ℕ) (g : Glk) (x : Result Machine ℕ) → left < ticks
    → IsBelow ticks (call_stored left g x)
stored-below ticks left g (Ok m) h = h
stored-below ticks left g (Err n) h = tt

done-below : (ticks left : ℕ) (g : Glk) (m : Machine) (x : Called) → left < ticks
    → IsBelow ticks (done left g m x)
done-below ticks left g m (call.Value value) h = stored-below ticks left g _ h
done-below ticks left g m call.Wait h = tt
done-below ticks left g m call.Prompt h = tt
done-below ticks left g m call.Exit h = tt

either-below : (ticks : ℕ) (b : Bool) (x y : Next) → IsBelow ticks x → IsBelow ticks y
    → IsBelow ticks (cond b x y)
either-below ticks true x y h k = h
either-below ticks false x y h k = k

charged-below : (ticks left chars : ℕ) (g : Glk) (m : Machine) (x : Called) → left < ticks
    → IsBelow ticks (call_charged left chars g m x)
charged-below ticks left chars g m x h =
    either-below ticks (nat_lt left chars) _ _ tt
    (done-below ticks (left - chars) g m x (omega arith))

answered-below : (ticks left : ℕ) (g : Glk) (m : Machine) (x : dispatch.CallRule Called)
    → left < ticks
    → IsBelow ticks (after_glk_call left g m x)
answered-below ticks left g m (Ok x) h =
    charged-below ticks left (x.0.glk.chars - g.chars) x.0.glk (machine_after_call m x.0) x.1 h
answered-below ticks left g m (Err e) h = tt

went_on-below : (ticks left : ℕ) (x : Reached (Glk × Machine)) → left < ticks
    → IsBelow ticks (went_on left x)
went_on-below ticks left (Ok x) h = h
went_on-below ticks left (Err e) h = tt

followed-below : (image : List ℕ) (left cost : ℕ) (g : Glk) (m : Machine) (o : Out) → 1 ≤ cost
    → cost ≤ left → IsBelow left (step_followed image left g m (step_of o cost))
followed-below image left cost g m out.Ran h k = omega arith
followed-below image left cost g m (out.Char x) h k =
    put-below left (left - cost) m (put_code g m.memory g.streams.current x) (omega arith)
followed-below image left cost g m (out.Glk selector args) h k =
    answered-below left (left - cost) g m
    (selector_called (glk_call g m.memory m.stack) selector args)
    (omega arith)
followed-below image left cost g m (out.Save stream) h k =
    went_on-below left (left - cost) (saved image g m stream) (omega arith)
followed-below image left cost g m (out.Restore stream) h k =
    went_on-below left (left - cost) (restored image g m stream) (omega arith)
followed-below image left cost g m out.Quit h k = tt

-- a step of the machine takes a tick at least
charged-some : (x : Result Work ℕ) → 1 ≤ (exec.charged x).cost
charged-some (Ok (Free r)) = omega arith
charged-some (Ok (Costs n r)) = omega arith
charged-some (Err n) = omega arith

told-cases : (image : List ℕ) (b : Bool) (left cost : ℕ) (g : Glk) (gives : Rule)
    → (b ≡ false → cost ≤ left) → 1 ≤ cost
    → IsBelow left (stepped image left g
    (cond b (Err 24) (gives >>= (λ x. Ok (x.0, step_of x.1 cost)))))
told-cases image true left cost g gives w h = tt
told-cases image false left cost g (Ok x) w h = followed-below image left cost g x.0 x.1 h (w refl)
told-cases image false left cost g (Err n) w h = tt

told-below : (image : List ℕ) (left : ℕ) (g : Glk) (c : Charged) → 1 ≤ c.cost
    → IsBelow left (stepped image left g (step_within left c))
told-below image left g c h =
    told-cases image (nat_lt left c.cost) left c.cost g c.gives (λ e. grind (arith, nat_tests)) h

pub next-below : (image : List ℕ) (left : ℕ) (r : Running) → IsBelow left (next_step image left r)
unfolding next_step
next-below image left r =
    told-below image left r.glk (row r.machine) (charged-some (due r.machine r.machine.text))

-- a step leaves fewer ticks
pub runs-below : (image : List ℕ) (left l : ℕ) (r q : Running) → next_step image left r ≡ Runs l q
    → l < left
runs-below image left l r q e = subst (IsBelow left) e (next-below image left r)

-- any number of steps above the ticks will do
pub steps-enough : (image : List ℕ) (n k left : ℕ) (r : Running) → left < n → left < k
    → steps image n left r ≡ steps image k left r
unfolding steps
steps-enough image zero k left r h i = absurd (omega arith)
steps-enough image (suc n) zero left r h i = absurd (omega arith)
steps-enough image (suc n) (suc k) left r h i =
    elim (next_step image left r) as (λ x. IsBelow left x
    → after_step (steps image n) x ≡ after_step (steps image k) x) [
      | Runs l q ↦ λ b. steps-enough image n k l q (omega arith) (omega arith)
      | Rests g s ↦ λ b. refl
    ]
    (next-below image left r)

-- one step of what is left
rest-step : (image : List ℕ) (left : ℕ) (r : Running)
    → rest image left r ≡ after_step (steps image left) (next_step image left r)
unfolding rest steps
rest-step image left r = rw add-one refl

-- after a step the rest of the turn is the turn on what is left
pub rest-runs : (image : List ℕ) (left l : ℕ) (r q : Running) → next_step image left r ≡ Runs l q
    → rest image left r ≡ rest image l q
unfolding rest
rest-runs image left l r q e =
    let h : l < left = runs-below image left l r q e in
    rest-step image left r
    ∙ (ap (after_step (steps image left)) e ∙ steps-enough image left (l + 1) l q h (omega arith))

pub rest-rests : (image : List ℕ) (left : ℕ) (r : Running) (g : Glk) (s : Stage)
    → next_step image left r ≡ Rests g s → rest image left r ≡ (g, s)
rest-rests image left r g s e = rest-step image left r ∙ ap (after_step (steps image left)) e

-- what a step of one tick comes to
next-of : (image : List ℕ) (left : ℕ) (g : Glk) (m : Machine) (r : Rule) → 0 < left
    → row m ≡ record { cost = 1; gives = r }
    → next_step image left (running g m)
    ≡ stepped image left g (r >>= (λ x. Ok (x.0, step_of x.1 1)))
unfolding next_step
next-of image left g m r some e =
    let t : nat_lt left 1 ≡ false = grind (arith, nat_tests) in
    ap (λ (c : Charged). stepped image left g (step_within left c)) e ∙ rw t refl

-- so many quick steps leave the rest of the turn as it is
pub rest-quick : (image : List ℕ) (k left : ℕ) (g : Glk) (m n : Machine) → RunsTo k m n → k ≤ left
    → rest image left (running g m) ≡ rest image (left - k) (running g n)
unfolding RunsTo
rest-quick image zero left g m n e h =
    let none : left ≡ left - 0 = omega arith in
    ap (λ (o : Machine). rest image left (running g o)) e
    ∙ ap (λ (l : ℕ). rest image l (running g n)) none
rest-quick image (suc k) left g m n (o, (runs, e)) h =
    let one : left - k - 1 ≡ left - suc k = omega (arith, h) in
    rest-quick image k left g m o runs (omega (arith, h))
    ∙ (rest-runs image (left - k) (left - k - 1) (running g o) (running g n)
    (next-of image (left - k) g o (Ok (n, out.Ran)) (omega (arith, h)) e)
    ∙ ap (λ (l : ℕ). rest image l (running g n)) one)

-- a run that ends with the story ends the turn
pub rest-quits : (image : List ℕ) (left : ℕ) (g : Glk) (m n : Machine)
    → EndsBy left m (Ok (n, out.Quit))
    → rest image left (running g m) ≡ (g, stage.Quit)
rest-quits image left g m n (k, o, (less, (runs, e))) =
    rest-quick image k left g m o runs (omega (arith, less))
    ∙ rest-rests image (left - k) (running g o) g stage.Quit
    (next-of image (left - k) g o (Ok (n, out.Quit)) (omega (arith, less)) e)

-- a run that ends with a fault ends the turn with it
pub rest-faults : (image : List ℕ) (left : ℕ) (g : Glk) (m : Machine) (f : ℕ)
    → EndsBy left m (Err f)
    → rest image left (running g m) ≡ (g, stage.Fault f)
rest-faults image left g m f (k, o, (less, (runs, e))) =
    rest-quick image k left g m o runs (omega (arith, less))
    ∙ rest-rests image (left - k) (running g o) g (stage.Fault f)
    (next-of image (left - k) g o (Err f) (omega (arith, less)) e)

-- a step behind a run comes to what the rest of the turn says
pub proceeds : (image : List ℕ) (left l : ℕ) (r q : Running) (g : Glk) (m : Machine)
    (x : Result Progress Trap)
    → rest image left r ≡ rest image l q → l ≤ left → Advances (next_step image l q) g m x
    → Proceeds image left r g m x
proceeds image left l r q g m (Ok (progress.Runs n)) e h a =
    let below : n < l = runs-below image l n q (running g m) a in (
      e ∙ rest-runs image l n q (running g m) a,
      omega (arith, below, h),
    )
proceeds image left l r q g m (Ok progress.Waits) e h a =
    e ∙ rest-rests image l q g (stage.AtSelect m) a
proceeds image left l r q g m (Ok progress.Prompts) e h a =
    e ∙ rest-rests image l q g (stage.AtPrompt m) a
proceeds image left l r q g m (Ok progress.Quits) e h a = e ∙ rest-rests image l q g stage.Quit a
proceeds image left l r q g m (Err (trap.Fault n)) e h a =
    e ∙ rest-rests image l q g (stage.Fault n) a
proceeds image left l r q g m (Err trap.NoMemory) e h a = tt

-- a run that is refused ends the turn
pub run-refused : (image : List ℕ) (left : ℕ) (g : Glk) (m n : Machine) (t : Trap)
    (x : Result Progress Trap)
    → RunsWithin left m n (Err t) → IsErrAnd x (λ f. f ≡ t)
    → Proceeds image left (running g m) g n x
run-refused image left g m n t (Ok p) runs same = absurd same
run-refused image left g m n t (Err (trap.Fault f)) runs same =
    rest-faults image left g m f (subst (λ (u : Trap). RunsWithin left m n (Err u)) (sym same) runs)
run-refused image left g m n t (Err trap.NoMemory) runs same = tt

-- what fails ends the turn with its fault
pub rest-stops : (image : List ℕ) (left : ℕ) (r : Running) (g : Glk) (m : Machine) (t : Trap)
    (x : Result Stage AllocError)
    → Proceeds image left r g m (Err t) → Stops t x → IfOk x (λ s. (g, s) ≡ rest image left r)
rest-stops image left r g m (trap.Fault n) (Ok s) a p = ap (λ (q : Stage). (g, q)) p ∙ sym a
rest-stops image left r g m (trap.Fault n) (Err e) a p = tt
rest-stops image left r g m trap.NoMemory (Ok s) a p = absurd cc
rest-stops image left r g m trap.NoMemory (Err e) a p = tt

-- the characters of a call fit in what is left
pub charged_advances : (left chars : ℕ) (g : Glk) (m new : Machine) (answer : Called)
    (r : Result Progress Trap) → chars ≤ left
    → Advances (done (left - chars) g m answer) g new r
    → Advances (call_charged left chars g m answer) g new r
charged_advances left chars g m new answer r few done_so =
    let low : nat_lt left chars ≡ false = grind (arith, nat_tests) in
    subst (λ (b : Bool). Advances (cond b (faults g 24) (done (left - chars) g m answer)) g new r)
    (sym low) done_so
