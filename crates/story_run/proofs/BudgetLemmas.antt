-- More ticks leave a turn as it is, unless it wanted them.
use Rattle.std.proofs.Common.{◌≡◌, ◌≢◌, ℕ, zero, suc, ◌+◌, ◌-◌, ◌<◌, ◌≤◌, Bool, true, false, nat_lt}
use Rattle.std.proofs.Common.{refl, ap, sym, ◌∙◌, arith, Result, Ok, Err, cond, subst, List, ◌⊎◌}
use Rattle.std.proofs.Common.{inl, inr}
use Rattle.std.proofs.lemmas.Bool.Decides.{nat_tests}
use Rattle.vm_exec.specs.Row.{row, step_of}
use Rattle.vm_exec.specs.Start.{finished}
use Rattle.vm_exec.specs.Rules.{Rule}
use Rattle.vm_exec.specs.declared.machine.Machine.{Machine}
use Rattle.vm_exec.specs.declared.step.Out.{Out}
use Rattle.vm_exec.specs.declared.step.Out.TheVariants as out
use Rattle.vm_memory.specs.Chaining.{◌>>=◌}
use Rattle.vm_memory.specs.MemoryMap.{MemoryMap}
use Rattle.glk_dispatch.specs.Answer.{Reached, glk_call}
use Rattle.glk_dispatch.specs.Answer as dispatch
use Rattle.glk_dispatch.specs.Call.{selector_called}
use Rattle.glk_dispatch.specs.Output.{put_code}
use Rattle.story_run.specs.Step.{Next, Runs, Rests, Running, next_step, running, stepped}
use Rattle.story_run.specs.Step.{step_followed, after_glk_call, call_charged, done}
use Rattle.story_run.specs.Step.{machine_after_call, call_stored, character_put, went_on}
use Rattle.story_run.specs.Saves.{restored, saved}
use Rattle.story_run.specs.Turn.{after_step, steps, rest}
use Rattle.glk_dispatch.specs.declared.called.Called.{Called}
use Rattle.glk_dispatch.specs.declared.called.Called.TheVariants as call
use Rattle.glk_dispatch.specs.declared.glk.Glk.{Glk}
use Rattle.story_run.specs.declared.stage.Stage.{Stage}
use Rattle.story_run.specs.declared.stage.Stage.TheVariants.{Fault}
use Rattle.story_run.proofs.TurnLemmas.{IsBelow, next-below, steps-enough}

-- with more ticks the second comes in place of the first
abbrev Shifts : ℕ → Next → Next → Type 0
Shifts more (Runs left r) y = y ≡ Runs (left + more) r
Shifts more (Rests g s) y = (s ≡ Fault 24) ⊎ (y ≡ Rests g s)

put-shifts : (left more : ℕ) (m : Machine) (x : Reached (Glk × MemoryMap))
    → Shifts more (character_put left m x) (character_put (left + more) m x)
put-shifts left more m (Ok x) = refl
put-shifts left more m (Err e) = inr refl

stored-shifts : (left more : ℕ) (g : Glk) (x : Result Machine ℕ)
    → Shifts more (call_stored left g x) (call_stored (left + more) g x)
stored-shifts left more g (Ok m) = refl
stored-shifts left more g (Err n) = inr refl

-- a charge that is met leaves as many ticks more
later : (left more cost : ℕ) → cost ≤ left → (left - cost) + more ≡ (left + more) - cost
later left more cost h = omega arith

kept : (left more cost : ℕ) → nat_lt left cost ≡ false → nat_lt (left + more) cost ≡ false
kept left more cost e = grind (arith, nat_tests)

met : (left cost : ℕ) → nat_lt left cost ≡ false → cost ≤ left
met left cost e = grind (arith, nat_tests)

done-shifts : (left more : ℕ) (g : Glk) (m : Machine) (x : Called)
    → Shifts more (done left g m x) (done (left + more) g m x)
done-shifts left more g m (call.Value value) = stored-shifts left more g (finished m value)
done-shifts left more g m call.Wait = inr refl
done-shifts left more g m call.Prompt = inr refl
done-shifts left more g m call.Exit = inr refl

either-shifts : (a b : Bool) (more : ℕ) (g : Glk) (x y : Next) → (a ≡ false → b ≡ false)
    → (a ≡ false → Shifts more x y)
    → Shifts more (cond a (Rests g (Fault 24)) x) (cond b (Rests g (Fault 24)) y)
either-shifts true b more g x y k h = inl refl
either-shifts false true more g x y k h = let e : true ≡ false = k refl in absurd cc
either-shifts false false more g x y k h = h refl

charged-shifts : (left more chars : ℕ) (g : Glk) (m : Machine) (x : Called)
    → Shifts more (call_charged left chars g m x) (call_charged (left + more) chars g m x)
charged-shifts left more chars g m x =
    either-shifts (nat_lt left chars) (nat_lt (left + more) chars) more g _ _
    (kept left more chars)
    (λ e. subst (λ (k : ℕ). Shifts more (done (left - chars) g m x) (done k g m x))
    (later left more chars (met left chars e))
    (done-shifts (left - chars) more g m x))

answered-shifts : (left more : ℕ) (g : Glk) (m : Machine) (x : dispatch.CallRule Called)
    → Shifts more (after_glk_call left g m x) (after_glk_call (left + more) g m x)
answered-shifts left more g m (Ok x) =
    charged-shifts left more (x.0.glk.chars - g.chars) x.0.glk (machine_after_call m x.0) x.1
answered-shifts left more g m (Err e) = inr refl

went_on-shifts : (left more : ℕ) (x : Reached (Glk × Machine))
    → Shifts more (went_on left x) (went_on (left + more) x)
went_on-shifts left more (Ok x) = refl
went_on-shifts left more (Err e) = inr refl

followed-shifts : (image : List ℕ) (left more cost : ℕ) (g : Glk) (m : Machine) (o : Out)
    → cost ≤ left
    → Shifts more (step_followed image left g m (step_of o cost))
    (step_followed image (left + more) g m (step_of o cost))
followed-shifts image left more cost g m out.Ran h =
    ap (λ (k : ℕ). Runs k (running g m)) (sym (later left more cost h))
followed-shifts image left more cost g m (out.Char x) h =
    let p = put_code g m.memory g.streams.current x in
    subst (λ (k : ℕ). Shifts more (character_put (left - cost) m p) (character_put k m p))
    (later left more cost h)
    (put-shifts (left - cost) more m p)
followed-shifts image left more cost g m (out.Glk selector args) h =
    let x = selector_called (glk_call g m.memory m.stack) selector args in
    subst (λ (k : ℕ). Shifts more (after_glk_call (left - cost) g m x) (after_glk_call k g m x))
    (later left more cost h)
    (answered-shifts (left - cost) more g m x)
followed-shifts image left more cost g m (out.Save stream) h =
    let x = saved image g m stream in
    subst (λ (k : ℕ). Shifts more (went_on (left - cost) x) (went_on k x)) (later left more cost h)
    (went_on-shifts (left - cost) more x)
followed-shifts image left more cost g m (out.Restore stream) h =
    let x = restored image g m stream in
    subst (λ (k : ℕ). Shifts more (went_on (left - cost) x) (went_on k x)) (later left more cost h)
    (went_on-shifts (left - cost) more x)
followed-shifts image left more cost g m out.Quit h = inr refl

gives-shifts : (image : List ℕ) (left more cost : ℕ) (g : Glk) (gives : Rule) → cost ≤ left
    → Shifts more
    (stepped image left g (gives >>= (λ x. Ok (x.0, step_of x.1 cost))))
    (stepped image (left + more) g (gives >>= (λ x. Ok (x.0, step_of x.1 cost))))
gives-shifts image left more cost g (Ok x) h = followed-shifts image left more cost g x.0 x.1 h
gives-shifts image left more cost g (Err n) h = inr refl

told-cases : (image : List ℕ) (a b : Bool) (left more cost : ℕ) (g : Glk) (gives : Rule)
    → (a ≡ false → b ≡ false) → (a ≡ false → cost ≤ left)
    → Shifts more
    (stepped image left g (cond a (Err 24) (gives >>= (λ x. Ok (x.0, step_of x.1 cost)))))
    (stepped image (left + more) g (cond b (Err 24) (gives >>= (λ x. Ok (x.0, step_of x.1 cost)))))
told-cases image true b left more cost g gives k h = inl refl
told-cases image false true left more cost g gives k h = let e : true ≡ false = k refl in absurd cc
told-cases image false false left more cost g gives k h =
    gives-shifts image left more cost g gives (h refl)

next-shifts : (image : List ℕ) (left more : ℕ) (r : Running)
    → Shifts more (next_step image left r) (next_step image (left + more) r)
unfolding next_step
next-shifts image left more r =
    let c = row r.machine in
    told-cases image (nat_lt left c.cost)
    (nat_lt (left + more) c.cost) left more c.cost r.glk c.gives
    (kept left more c.cost) (met left c.cost)

-- a turn that doesn't end with the budget's fault ends so with more ticks too
rests-shift : (image : List ℕ) (k more : ℕ) (g h : Glk) (s t : Stage) (y : Next)
    → (t ≡ Fault 24) ⊎ (y ≡ Rests h t)
    → ◌≡◌ {A = Glk × Stage} (h, t) (g, s) → s ≢ Fault 24 → after_step (steps image k) y ≡ (g, s)
rests-shift image k more g h s t y (inl e) p n =
    absurd (n (sym (ap (λ (x : Glk × Stage). x.1) p) ∙ e))
rests-shift image k more g h s t y (inr e) p n = ap (after_step (steps image k)) e ∙ p

steps-shift : (image : List ℕ) (n k left more : ℕ) (r : Running) (g : Glk) (s : Stage) → left < n
    → left + more < k
    → steps image n left r ≡ (g, s) → s ≢ Fault 24 → steps image k (left + more) r ≡ (g, s)
unfolding steps
steps-shift image zero k left more r g s h i p f = absurd (omega arith)
steps-shift image (suc n) zero left more r g s h i p f = absurd (omega arith)
steps-shift image (suc n) (suc k) left more r g s h i p f =
    elim (next_step image left r)
    as (λ x. IsBelow left x → Shifts more x (next_step image (left + more) r)
    → after_step (steps image n) x ≡ (g, s)
    → after_step (steps image k) (next_step image (left + more) r) ≡ (g, s)) [
      | Runs l q ↦ λ b e o. ap (after_step (steps image k)) e
          ∙ steps-shift image n k l more q g s (omega arith) (omega arith) o f
      | Rests x y ↦
          λ b e o. rests-shift image k more g x s y (next_step image (left + more) r) e o f
    ]
    (next-below image left r) (next-shifts image left more r) p

pub rest-more : (image : List ℕ) (budget more : ℕ) (r : Running) (g : Glk) (s : Stage)
    → rest image budget r ≡ (g, s) → s ≢ Fault 24
    → rest image (budget + more) r ≡ (g, s)
unfolding rest
rest-more image budget more r g s p f =
    steps-shift image (budget + 1) (budget + more + 1) budget more r g s (omega arith)
    (omega arith) p f

pub steps-rest : (image : List ℕ) (n budget : ℕ) (r : Running) → budget < n
    → steps image n budget r ≡ rest image budget r
unfolding rest
steps-rest image n budget r h = steps-enough image n (budget + 1) budget r h (omega arith)
