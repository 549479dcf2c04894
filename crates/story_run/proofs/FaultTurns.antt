-- A turn that ends with a fault ends with a number from 1 to 24.
use Rattle.std.proofs.Common.{◌≡◌, ℕ, zero, suc, ◌+◌, ◌-◌, ◌++◌, ◌&&◌, nat_lt, Bool, true, false}
use Rattle.std.proofs.Common.{List, [], ◌∷◌, Option, Some, None, Result, Ok, Err, cond, refl, IfErr}
use Rattle.std.proofs.Common.{subst}
use Rattle.vm_memory.specs.MemoryMap.{MemoryMap}
use Rattle.vm_memory.specs.declared.fault.Trap.{Trap}
use Rattle.vm_memory.specs.declared.fault.Trap.TheVariants as trap
use Rattle.vm_undo.specs.declared.saved.Saved.{Saved}
use Rattle.vm_exec.specs.Answer.{MakesValue}
use Rattle.vm_exec.specs.Row.{row, step_within}
use Rattle.vm_exec.specs.Rows.Undo.{saved_state}
use Rattle.vm_exec.specs.Start.{finished, started}
use Rattle.vm_exec.specs.declared.machine.Machine.{Machine}
use Rattle.vm_exec.specs.declared.step.Step.{Step}
use Rattle.vm_exec.specs.declared.step.Step.TheVariants as step
use Rattle.quetzal.specs.Save.{canon, save_in}
use Rattle.quetzal.specs.declared.fault.SaveFault.{SaveFault}
use Rattle.glk_input.specs.Delivery.{code_taken}
use Rattle.story_text.specs.declared.input.Input.{Input}
use Rattle.glk_dispatch.specs.Answer.{Reached, CallRule, glk_call}
use Rattle.glk_dispatch.specs.Call.{selector_called}
use Rattle.glk_dispatch.specs.Events as events
use Rattle.glk_dispatch.specs.Glk.{empty_screen}
use Rattle.glk_dispatch.specs.Output.{put_code}
use Rattle.glk_dispatch.specs.declared.called.Called as answers
use Rattle.glk_dispatch.specs.declared.called.Called.TheVariants as call
use Rattle.glk_dispatch.specs.declared.glk.Glk.{Glk}
use Rattle.story_run.specs.Faults.{IsFaultNumber, IsNumberedTrap}
use Rattle.story_run.specs.Laws.{FaultsAreNumbered}
use Rattle.story_run.specs.Saves as saves
use Rattle.story_run.specs.Solo as solo
use Rattle.story_run.specs.Step as s
use Rattle.story_run.specs.Step.{Next, Runs, Rests, Running, running}
use Rattle.story_run.specs.Turn as turn
use Rattle.story_run.specs.World.{WorldState}
use Rattle.story_run.specs.declared.setup.Setup.{Setup}
use Rattle.story_run.specs.declared.stage.Stage.{Stage}
use Rattle.story_run.specs.declared.stage.Stage.TheVariants.{AtSelect, AtPrompt, Quit, Fault}
use Rattle.story_run.proofs.FaultCalls.{answered-called, selector-called}
use Rattle.story_run.proofs.FaultLemmas.{Numbered, fails-bind, fails-err, fails-if, fails-ok, known}
use Rattle.story_run.proofs.FaultRows.{of-finished, of-resumed, of-started, of-step}
use Rattle.story_run.proofs.FaultStreams.{Called, HasNumber, in-call}
use Rattle.story_run.proofs.FaultTexts.{got-called, position-called, put-called}

-- the number of the fault with which a story ended, if it did
abbrev EndsNumbered : Stage → Type 0
EndsNumbered (AtSelect m) = Unit {0}
EndsNumbered (AtPrompt m) = Unit {0}
EndsNumbered Quit = Unit {0}
EndsNumbered (Fault n) = IsFaultNumber n

abbrev NextNumbered : Next → Type 0
NextNumbered (Runs left r) = Unit {0}
NextNumbered (Rests g stage) = EndsNumbered stage

-- ---- saves and restores

byte-called : (g : Glk) (m : MemoryMap) (n byte : ℕ) → Called (saves.put_byte g m n byte)
byte-called g m n byte =
    fails-bind (in-call g (position-called g n))
    (λ before. fails-bind (put-called g m n byte)
    (λ p. fails-bind (in-call p.0 (position-called p.0 n)) (λ behind. fails-ok)))

bytes-called : (bs : List ℕ) (g : Glk) (m : MemoryMap) (n : ℕ) (kept : Bool)
    → Called (saves.put_save_bytes g m n kept bs)
bytes-called [] g m n kept = fails-ok
bytes-called (b ∷ bs) g m n kept =
    fails-bind (byte-called g m n b) (λ p. bytes-called bs p.0 p.1 n (kept && p.2))

ended-called : (g : Glk) (m : Machine) (x : ℕ) → Called (saves.result_stored g m x)
ended-called g m x = fails-bind (in-call g (of-finished m x)) (λ k. fails-ok)

saved-called : (image : List ℕ) (g : Glk) (m : Machine) (n : ℕ) → Called (saves.saved image g m n)
saved-called image g m n =
    fails-if (saves.is_writable g n)
    (fails-bind (bytes-called (canon image (saved_state m)) g m.memory n true)
    (λ p. ended-called p.0 (record m { memory = p.1 }) (cond p.2 0 1)))
    (ended-called g m 1)

rest-called : (most : ℕ) (g : Glk) (m : MemoryMap) (n : ℕ) (bytes : List ℕ)
    → Called (saves.rest_of_stream most g m n bytes)
unfolding saves.rest_of_stream
rest-called zero g m n bytes = fails-ok
rest-called (suc most) g m n bytes =
    fails-bind (got-called g m n) (λ p. on p.1 p.0 (λ read. rest-called most p.0 m n read))
  where
    on : (o : Option ℕ) (h : Glk)
        → ((read : List ℕ) → Called (saves.rest_of_stream most h m n read))
        → Called (saves.rest_on (λ k read. saves.rest_of_stream most k m n read) h bytes o)
    on None h more = fails-ok
    on (Some code) h more = more (bytes ++ (code_taken false code ∷ []))

back-numbered : (m : Machine) (r : Result Saved SaveFault) → Numbered (saves.brought_back m r)
back-numbered m (Err cause) = of-finished m 1
back-numbered m (Ok x) = of-resumed m x

restored-called : (image : List ℕ) (g : Glk) (m : Machine) (n : ℕ)
    → Called (saves.restored image g m n)
restored-called image g m n =
    fails-if (saves.is_readable g n)
    (fails-bind (rest-called 4294967295 g m.memory n [])
    (λ p. fails-bind (in-call p.0 (back-numbered m (save_in image p.1))) (λ k. fails-ok)))
    (ended-called g m 1)

-- ---- a step

stored-next : (left : ℕ) (g : Glk) (r : Result Machine ℕ)
    → Numbered r → NextNumbered (s.call_stored left g r)
stored-next left g (Ok m) h = tt
stored-next left g (Err n) h = h.holds

done-next : (left : ℕ) (g : Glk) (m : Machine) (answer : answers.Called)
    → NextNumbered (s.done left g m answer)
done-next left g m (call.Value x) = stored-next left g (finished m x) (of-finished m x)
done-next left g m call.Wait = tt
done-next left g m call.Prompt = tt
done-next left g m call.Exit = tt

next-if : (b : Bool) (x y : Next) → NextNumbered x → NextNumbered y → NextNumbered (cond b x y)
next-if true x y h k = h
next-if false x y h k = k

answered-next : (left : ℕ) (g : Glk) (m : Machine) (r : CallRule answers.Called)
    → Called r → NextNumbered (s.after_glk_call left g m r)
answered-next left g m (Ok x) h =
    let chars = x.0.glk.chars - g.chars in
    next-if (nat_lt left chars) (s.faults x.0.glk 24)
    (s.done (left - chars) x.0.glk (s.machine_after_call m x.0) x.1) (known refl)
    (done-next (left - chars) x.0.glk (s.machine_after_call m x.0) x.1)
answered-next left g m (Err e) h = h.holds

put-next : (left : ℕ) (m : Machine) (r : Reached (Glk × MemoryMap))
    → Called r → NextNumbered (s.character_put left m r)
put-next left m (Ok x) h = tt
put-next left m (Err e) h = h.holds

went-next : (left : ℕ) (r : Reached (Glk × Machine))
    → Called r → NextNumbered (s.went_on left r)
went-next left (Ok x) h = tt
went-next left (Err e) h = h.holds

followed-next : (image : List ℕ) (left : ℕ) (g : Glk) (m : Machine) (t : Step)
    → NextNumbered (s.step_followed image left g m t)
followed-next image left g m (step.Ran cost) = tt
followed-next image left g m (step.Out code cost) =
    put-next (left - cost) m (put_code g m.memory g.streams.current code)
    (put-called g m.memory g.streams.current code)
followed-next image left g m (step.Glk selector args cost) =
    answered-next (left - cost) g m (selector_called (glk_call g m.memory m.stack) selector args)
    (selector-called (glk_call g m.memory m.stack) selector args)
followed-next image left g m (step.Save stream cost) =
    went-next (left - cost) (saves.saved image g m stream) (saved-called image g m stream)
followed-next image left g m (step.Restore stream cost) =
    went-next (left - cost) (saves.restored image g m stream) (restored-called image g m stream)
followed-next image left g m step.Quit = tt

stepped-next : (image : List ℕ) (left : ℕ) (g : Glk) (r : Result (Machine × Step) ℕ)
    → Numbered r → NextNumbered (s.stepped image left g r)
stepped-next image left g (Ok x) h = followed-next image left g x.0 x.1
stepped-next image left g (Err n) h = h.holds

-- ---- a turn

steps-numbered : (image : List ℕ) (n left : ℕ) (r : Running)
    → EndsNumbered (turn.steps image n left r).1
unfolding turn.steps s.next_step
steps-numbered image zero left r = known refl
steps-numbered image (suc n) left r =
    after (s.stepped image left r.glk (step_within left (row r.machine)))
    (stepped-next image left r.glk (step_within left (row r.machine)) (of-step left r.machine))
    (λ l q. steps-numbered image n l q)
  where
    after : (x : Next) → NextNumbered x
        → ((l : ℕ) (q : Running) → EndsNumbered (turn.steps image n l q).1)
        → EndsNumbered (turn.after_step (turn.steps image n) x).1
    after (Runs l q) h more = more l q
    after (Rests g t) h more = h

rest-numbered : (image : List ℕ) (budget : ℕ) (r : Running)
    → EndsNumbered (turn.rest image budget r).1
unfolding turn.rest
rest-numbered image budget r = steps-numbered image (budget + 1) budget r

begun-numbered : (image : List ℕ) (budget : ℕ) (g : Glk) (r : Result Machine ℕ)
    → Numbered r → EndsNumbered (turn.story_begun image budget g r).1
begun-numbered image budget g (Ok m) h = rest-numbered image budget (running g m)
begun-numbered image budget g (Err n) h = h.holds

answer-called : (m : Machine) (r : CallRule ℕ) → Called r → Called (turn.answer_stored m r)
answer-called m (Ok x) h =
    stored (finished (s.machine_after_call m x.0) x.1)
    (of-finished (s.machine_after_call m x.0) x.1)
  where
    stored : (r : Result Machine ℕ) → Numbered r → Called (turn.stored_or_fault x.0.glk r)
    stored (Ok k) h = fails-ok
    stored (Err n) h = fails-err h.holds
answer-called m (Err e) h = fails-err h.holds

delivered-called : (g : Glk) (m : Machine) (input : Input)
    → Called (turn.delivered_to_call g m input)
delivered-called g m input =
    answer-called m (events.input_answered (glk_call g m.memory m.stack) input)
    (answered-called input (glk_call g m.memory m.stack))

resumed-numbered : (image : List ℕ) (budget : ℕ) (r : Reached (Glk × Machine))
    → Called r → EndsNumbered (turn.turn_resumed image budget r).1
resumed-numbered image budget (Ok x) h = rest-numbered image budget (running x.0 x.1)
resumed-numbered image budget (Err e) h = h.holds

turn-numbered : (image : List ℕ) (budget : ℕ) (g : Glk) (m : Machine) (input : Input)
    → EndsNumbered (turn.turn_on image budget g m input).1
turn-numbered image budget g m input =
    resumed-numbered image budget (turn.delivered_to_call g m input) (delivered-called g m input)

-- ---- worlds

wanted-numbered : (w : WorldState) (stage : Stage) (input : Input)
    → solo.stage_wants stage w.glk.requests input ≡ true
    → EndsNumbered (solo.world_after_turn w stage input).stage
wanted-numbered w (AtSelect m) input e = turn-numbered w.image w.budget w.glk m input
wanted-numbered w (AtPrompt m) input e = turn-numbered w.image w.budget w.glk m input
wanted-numbered w Quit input e = absurd cc
wanted-numbered w (Fault n) input e = absurd cc

turned-numbered : (w : WorldState) (input : Input) → solo.is_wanted w input ≡ true
    → EndsNumbered (solo.world_after_input w input).stage
unfolding solo.world_after_input solo.is_wanted
turned-numbered w input e =
    picked (solo.is_wanted w input) (solo.world_after_turn w w.stage input) w e
    (wanted-numbered w w.stage input e)
  where
    picked : (b : Bool) (x y : WorldState) → b ≡ true → EndsNumbered x.stage
        → EndsNumbered (cond b x y).stage
    picked true x y e h = h
    picked false x y e h = absurd cc

opened-numbered : (image : List ℕ) (setup : Setup)
    → EndsNumbered (solo.opening image setup).stage
unfolding solo.opening
opened-numbered image setup =
    begun-numbered image setup.budget (empty_screen setup.cols setup.rows)
    (started image setup.seed) (of-started image setup.seed)

pub faults_are_numbered : FaultsAreNumbered
faults_are_numbered = record {
  rested = λ image budget r g n e.
      subst (λ (x : Glk × Stage). EndsNumbered x.1) e (rest-numbered image budget r);
  opened = λ image setup n e. subst EndsNumbered e (opened-numbered image setup);
  turned = λ w input n wanted e. subst EndsNumbered e (turned-numbered w input wanted);
}

-- ---- what the functions of turns met

-- what ends a turn, a start and a delivery
pub proceed-refused : (image : List ℕ) (left : ℕ) (r : Running) (g : Glk) (m : Machine) (t : Trap)
    → turn.Proceeds image left r g m (Err t) → IsNumberedTrap t
proceed-refused image left r g m (trap.Fault n) e =
    subst (λ (x : Glk × Stage). EndsNumbered x.1) e (rest-numbered image left r)
proceed-refused image left r g m trap.NoMemory e = tt

pub start-refused : (image : List ℕ) (seed : ℕ) (t : Trap)
    → MakesValue (started image seed) (Err t) → IsNumberedTrap t
start-refused image seed (trap.Fault n) e =
    subst (λ (x : Result Machine ℕ). IfErr x IsFaultNumber) e (of-started image seed).holds
start-refused image seed trap.NoMemory e = tt

pub delivery-refused : (g h : Glk) (m n : Machine) (input : Input) (t : Trap)
    → turn.Resumes (turn.delivered_to_call g m input) h n (Err t) → IsNumberedTrap t
delivery-refused g h m n input (trap.Fault k) e =
    subst (λ (x : Reached (Glk × Machine)). IfErr x HasNumber) e
    (delivered-called g m input).holds
delivery-refused g h m n input trap.NoMemory e = tt
