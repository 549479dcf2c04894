-- The Glk state stays valid through a turn.
use Rattle.std.proofs.Common.{◌≡◌, ℕ, zero, suc, ◌+◌, ◌-◌, ◌++◌, ◌==◌, ◌&&◌, not}
use Rattle.std.proofs.Common.{nat_lt, Bool, true, false, List, [], ◌∷◌, Option}
use Rattle.std.proofs.Common.{Some, None, Result, Ok, Err, cond, subst, refl, sym}
use Rattle.std.specs.Prelude.{IfOk}
use Rattle.std.specs.declared.alloc.AllocError.{AllocError}
use Rattle.vm_memory.specs.Chaining.{◌>>=◌}
use Rattle.vm_memory.specs.MemoryMap.{MemoryMap}
use Rattle.vm_stack.specs.StackState.{StackState}
use Rattle.vm_exec.specs.Row.{row, step_within}
use Rattle.vm_exec.specs.Rows.Undo.{saved_state}
use Rattle.vm_exec.specs.Start.{finished, started}
use Rattle.vm_exec.specs.declared.machine.Machine.{Machine}
use Rattle.vm_exec.specs.declared.step.Step.{Step}
use Rattle.vm_exec.specs.declared.step.Step.TheVariants as step
use Rattle.quetzal.specs.Save.{canon, save_in}
use Rattle.glk_input.specs.Delivery.{code_taken}
use Rattle.story_text.specs.declared.input.Input.{Input}
use Rattle.glk_dispatch.specs.Answer.{Reached, CallRule, glk_call, within}
use Rattle.glk_dispatch.specs.Call.{selector_called}
use Rattle.glk_dispatch.specs.Events as events
use Rattle.glk_dispatch.specs.Glk.{empty_screen, wait_set_back, turn_begun}
use Rattle.glk_dispatch.specs.Laws.{Reaches}
use Rattle.glk_dispatch.specs.Output.{put_code}
use Rattle.glk_dispatch.specs.Streams.{got_code, stream_position}
use Rattle.glk_dispatch.specs.Valid.{IsReadyGlk, IsValidGlk, IsValidWaiting}
use Rattle.glk_dispatch.specs.declared.called.Called.{Called}
use Rattle.glk_dispatch.specs.declared.called.Called.TheVariants as call
use Rattle.glk_dispatch.specs.declared.glk.Glk.{Glk}
use Rattle.glk_dispatch.proofs.KeptCalls as glk
use Rattle.glk_dispatch.proofs.KeptLemmas.{rested-valid}
use Rattle.story_run.specs.Laws.{GlkStaysValid}
use Rattle.story_run.specs.Saves as saves
use Rattle.story_run.specs.Solo as solo
use Rattle.story_run.specs.Step as s
use Rattle.story_run.specs.Step.{Next, Rests, Running, Runs, running}
use Rattle.story_run.specs.Turn as turn
use Rattle.story_run.specs.World.{ComesTo, StandsAt, WorldState}
use Rattle.story_run.specs.declared.setup.Setup.{Setup}
use Rattle.story_run.specs.declared.stage.Stage.{Stage}
use Rattle.story_run.specs.declared.stage.Stage.TheVariants.{AtSelect, AtPrompt, Quit, Fault}

-- what a step comes to
abbrev IsNext : Next → Type 0
IsNext (Runs left r) = IsReadyGlk r.glk
IsNext (Rests g s) = ComesTo s g

-- steps of saves and restores
abbrev first : {A : Type 0} → Glk × A → Type 0
first p = IsReadyGlk p.0

reach-bind : {A B : Type 0} (Is : A → Type 0) (Then : B → Type 0) (r : Reached A)
    (f : A → Reached B) → Reaches Is r → ((x : A) → Is x → Reaches Then (f x))
    → Reaches Then (r >>= f)
reach-bind Is Then (Ok x) f h k = k x h
reach-bind Is Then (Err e) f h k = h

reach-within : {A B : Type 0} (Then : B → Type 0) (g : Glk) (r : Result A ℕ) (f : A → Reached B)
    → IsReadyGlk g → ((x : A) → Reaches Then (f x)) → Reaches Then (within g r >>= f)
reach-within Then g (Ok x) f v k = k x
reach-within Then g (Err n) f v k = v

reach-if : {A : Type 0} (Is : A → Type 0) (b : Bool) (x y : Reached A) → Reaches Is x
    → Reaches Is y → Reaches Is (cond b x y)
reach-if Is true x y h k = h
reach-if Is false x y h k = k

no_stack : StackState
no_stack = record { bytes = []; frame = 0; limit = 0 }

code-put : (g : Glk) (m : MemoryMap) (n code : ℕ) → IsReadyGlk g
    → Reaches first (put_code g m n code)
code-put g m n code v = glk.calls_keep_valid.put (glk_call g m no_stack) n code v

code-got : (g : Glk) (m : MemoryMap) (n : ℕ) → IsReadyGlk g → Reaches first (got_code g m n)
code-got g m n v = glk.calls_keep_valid.got (glk_call g m no_stack) n v

byte-put : (g : Glk) (m : MemoryMap) (n byte : ℕ) → IsReadyGlk g
    → Reaches (λ p. IsReadyGlk p.0) (saves.put_byte g m n byte)
byte-put g m n byte v =
    reach-within (λ (p : Glk × MemoryMap × Bool). IsReadyGlk p.0) g (stream_position g n)
    (λ before. put_code g m n byte >>= (λ p.
    within p.0 (stream_position p.0 n) >>= (λ behind. Ok (p.0, p.1, not (behind == before))))) v
    (λ before. reach-bind first (λ (p : Glk × MemoryMap × Bool). IsReadyGlk p.0)
    (put_code g m n byte)
    (λ p. within p.0 (stream_position p.0 n) >>= (λ behind. Ok (p.0, p.1, not (behind == before))))
    (code-put g m n byte v)
    (λ p w.
    reach-within (λ (q : Glk × MemoryMap × Bool). IsReadyGlk q.0) p.0 (stream_position p.0 n)
    (λ behind. Ok (p.0, p.1, not (behind == before))) w (λ behind. w)))

bytes-put : (bs : List ℕ) (g : Glk) (m : MemoryMap) (n : ℕ) (kept : Bool) → IsReadyGlk g
    → Reaches (λ p. IsReadyGlk p.0) (saves.put_save_bytes g m n kept bs)
bytes-put [] g m n kept v = v
bytes-put (b ∷ bs) g m n kept v =
    reach-bind (λ (p : Glk × MemoryMap × Bool). IsReadyGlk p.0)
    (λ (p : Glk × MemoryMap × Bool). IsReadyGlk p.0) (saves.put_byte g m n b)
    (λ p. saves.put_save_bytes p.0 p.1 n (kept && p.2) bs) (byte-put g m n b v)
    (λ p w. bytes-put bs p.0 p.1 n (kept && p.2) w)

ended-ready : (g : Glk) (m : Machine) (x : ℕ)
    → IsReadyGlk g → Reaches first (saves.result_stored g m x)
ended-ready g m x v = reach-within first g (finished m x) (λ k. Ok (g, k)) v (λ k. v)

saved-ready : (image : List ℕ) (g : Glk) (m : Machine) (n : ℕ) → IsReadyGlk g
    → Reaches first (saves.saved image g m n)
saved-ready image g m n v =
    reach-if first (saves.is_writable g n) _ (saves.result_stored g m 1)
    (reach-bind (λ (p : Glk × MemoryMap × Bool). IsReadyGlk p.0) first
    (saves.put_save_bytes g m.memory n true (canon image (saved_state m)))
    (λ p. saves.result_stored p.0 (record m { memory = p.1 }) (cond p.2 0 1))
    (bytes-put (canon image (saved_state m)) g m.memory n true v)
    (λ p w. ended-ready p.0 (record m { memory = p.1 }) (cond p.2 0 1) w))
    (ended-ready g m 1 v)

rest-ready : (most : ℕ) (g : Glk) (m : MemoryMap) (n : ℕ) (bytes : List ℕ) → IsReadyGlk g
    → Reaches first (saves.rest_of_stream most g m n bytes)
unfolding saves.rest_of_stream
rest-ready zero g m n bytes v = v
rest-ready (suc most) g m n bytes v =
    reach-bind first first (got_code g m n)
    (λ p. saves.rest_on (λ h read. saves.rest_of_stream most h m n read) p.0 bytes p.1)
    (code-got g m n v) (λ p w. rest-on p.1 p.0 w (λ read. rest-ready most p.0 m n read w))
  where
    rest-on : (o : Option ℕ) (h : Glk) → IsReadyGlk h
        → ((read : List ℕ) → Reaches first (saves.rest_of_stream most h m n read))
        → Reaches first (saves.rest_on (λ k read. saves.rest_of_stream most k m n read) h bytes o)
    rest-on None h w more = w
    rest-on (Some code) h w more = more (bytes ++ (code_taken false code ∷ []))

restored-ready : (image : List ℕ) (g : Glk) (m : Machine) (n : ℕ) → IsReadyGlk g
    → Reaches first (saves.restored image g m n)
restored-ready image g m n v =
    reach-if first (saves.is_readable g n) _ (saves.result_stored g m 1)
    (reach-bind first first (saves.rest_of_stream 4294967295 g m.memory n [])
    (λ p. within p.0 (saves.brought_back m (save_in image p.1)) >>= (λ k. Ok (p.0, k)))
    (rest-ready 4294967295 g m.memory n [] v)
    (λ p w. reach-within first p.0 (saves.brought_back m (save_in image p.1))
    (λ k. Ok (p.0, k)) w (λ k. w)))
    (ended-ready g m 1 v)

-- ---- a step

stored-next : (left : ℕ) (g : Glk) (r : Result Machine ℕ) → IsReadyGlk g
    → IsNext (s.call_stored left g r)
stored-next left g (Ok m) v = v
stored-next left g (Err n) v = v.valid

done-next : (left : ℕ) (g : Glk) (m : Machine) (answer : Called) → IsValidWaiting answer g
    → IsNext (s.done left g m answer)
done-next left g m (call.Value x) v =
    stored-next left g (finished m x) (record { valid = v.valid; rests = v.waits })
done-next left g m call.Wait v = v
done-next left g m call.Prompt v = v
done-next left g m call.Exit v = v

next-if : (b : Bool) (x y : Next) → IsNext x → IsNext y → IsNext (cond b x y)
next-if true x y h k = h
next-if false x y h k = k

answered-next : (left : ℕ) (g : Glk) (m : Machine) (r : CallRule Called)
    → Reaches (λ p. IsValidWaiting p.1 p.0.glk) r → IsNext (s.after_glk_call left g m r)
answered-next left g m (Ok x) v =
    let chars = x.0.glk.chars - g.chars in
    next-if (nat_lt left chars) (s.faults x.0.glk 24)
    (s.done (left - chars) x.0.glk (s.machine_after_call m x.0) x.1) v.valid
    (done-next (left - chars) x.0.glk (s.machine_after_call m x.0) x.1 v)
answered-next left g m (Err e) v = v.valid

put-next : (left : ℕ) (m : Machine) (r : Reached (Glk × MemoryMap)) → Reaches first r
    → IsNext (s.character_put left m r)
put-next left m (Ok x) v = v
put-next left m (Err e) v = v.valid

went-next : (left : ℕ) (r : Reached (Glk × Machine)) → Reaches first r
    → IsNext (s.went_on left r)
went-next left (Ok x) v = v
went-next left (Err e) v = v.valid

followed-next : (image : List ℕ) (left : ℕ) (g : Glk) (m : Machine) (t : Step) → IsReadyGlk g
    → IsNext (s.step_followed image left g m t)
followed-next image left g m (step.Ran cost) v = v
followed-next image left g m (step.Out code cost) v =
    put-next (left - cost) m (put_code g m.memory g.streams.current code)
    (code-put g m.memory g.streams.current code v)
followed-next image left g m (step.Glk selector args cost) v =
    answered-next (left - cost) g m (selector_called (glk_call g m.memory m.stack) selector args)
    (glk.calls_keep_valid.called (glk_call g m.memory m.stack) selector args v)
followed-next image left g m (step.Save stream cost) v =
    went-next (left - cost) (saves.saved image g m stream) (saved-ready image g m stream v)
followed-next image left g m (step.Restore stream cost) v =
    went-next (left - cost) (saves.restored image g m stream) (restored-ready image g m stream v)
followed-next image left g m step.Quit v = record { valid = v.valid; waits = v.rests }

stepped-next : (image : List ℕ) (left : ℕ) (g : Glk) (r : Result (Machine × Step) ℕ)
    → IsReadyGlk g → IsNext (s.stepped image left g r)
stepped-next image left g (Ok x) v = followed-next image left g x.0 x.1 v
stepped-next image left g (Err n) v = v.valid

-- ---- a turn

abbrev Rested : Glk × Stage → Type 0
Rested x = ComesTo x.1 x.0

steps-rest : (image : List ℕ) (n left : ℕ) (r : Running) → IsReadyGlk r.glk
    → Rested (turn.steps image n left r)
unfolding turn.steps s.next_step
steps-rest image zero left r v = v.valid
steps-rest image (suc n) left r v =
    after-rest (s.stepped image left r.glk (step_within left (row r.machine)))
    (stepped-next image left r.glk (step_within left (row r.machine)) v)
    (λ l q w. steps-rest image n l q w)
  where
    after-rest : (x : Next) → IsNext x
        → ((l : ℕ) (q : Running) → IsReadyGlk q.glk → Rested (turn.steps image n l q))
        → Rested (turn.after_step (turn.steps image n) x)
    after-rest (Runs l q) w more = more l q w
    after-rest (Rests g t) w more = w

rest-rest : (image : List ℕ) (budget : ℕ) (r : Running) → IsReadyGlk r.glk
    → Rested (turn.rest image budget r)
unfolding turn.rest
rest-rest image budget r v = steps-rest image (budget + 1) budget r v

pub begun-rest : (image : List ℕ) (budget : ℕ) (g : Glk) (r : Result Machine ℕ) → IsReadyGlk g
    → Rested (turn.story_begun image budget g r)
begun-rest image budget g (Ok m) v = rest-rest image budget (running g m) v
begun-rest image budget g (Err n) v = v.valid

restarted-ready : (m : Machine) (r : CallRule ℕ) → Reaches (λ p. IsReadyGlk p.0.glk) r
    → Reaches first (turn.answer_stored m r)
restarted-ready m (Ok x) v = stored-ready (finished (s.machine_after_call m x.0) x.1)
  where
    stored-ready : (r : Result Machine ℕ) → Reaches first (turn.stored_or_fault x.0.glk r)
    stored-ready (Ok k) = v
    stored-ready (Err n) = v
restarted-ready m (Err e) v = v

resumed-rest : (image : List ℕ) (budget : ℕ) (r : Reached (Glk × Machine)) → Reaches first r
    → Rested (turn.turn_resumed image budget r)
resumed-rest image budget (Ok x) v = rest-rest image budget (running x.0 x.1) v
resumed-rest image budget (Err e) v = v.valid

pub turn-rest : (image : List ℕ) (budget : ℕ) (g : Glk) (m : Machine) (input : Input)
    → IsValidGlk g → Rested (turn.turn_on image budget g m input)
turn-rest image budget g m input v =
    resumed-rest image budget (turn.delivered_to_call g m input)
    (restarted-ready m (events.input_answered (glk_call g m.memory m.stack) input)
    (glk.calls_keep_valid.answered (glk_call g m.memory m.stack) input v))

-- ---- worlds

pub begun-stage : (stage : Stage) (g : Glk) → StandsAt stage g → StandsAt stage (turn_begun g)
begun-stage (AtSelect m) g v = record {
  valid = glk.calls_keep_valid.begun g v.valid;
  waits = v.waits;
}
begun-stage (AtPrompt m) g v = record {
  valid = glk.calls_keep_valid.begun g v.valid;
  waits = v.waits;
}
begun-stage Quit g v = record {
  valid = glk.calls_keep_valid.begun g v.valid;
  waits = record { event = v.waits.event; prompt = v.waits.prompt };
}
begun-stage (Fault n) g v = record {
  valid = glk.calls_keep_valid.begun g v.valid;
  waits = record { event = v.waits.event; prompt = v.waits.prompt };
}

-- what a story that is over waited with is set back
over-stage : (g : Glk) → IsValidGlk g → IsValidWaiting call.Exit (wait_set_back g)
over-stage g v = let ready = rested-valid g v in record { valid = ready.valid; waits = ready.rests }

pub settled-stage : (stage : Stage) (g : Glk) → ComesTo stage g
    → StandsAt stage (solo.glk_settled stage g)
settled-stage (AtSelect m) g v = v
settled-stage (AtPrompt m) g v = v
settled-stage Quit g v = over-stage g v.valid
settled-stage (Fault n) g v = over-stage g v

pub rested-stage : (image : List ℕ) (seed budget : ℕ) (x : Glk × Stage) → Rested x
    → StandsAt (solo.rested image seed budget x).stage (solo.rested image seed budget x).glk
rested-stage image seed budget x v =
    begun-stage x.1 (solo.glk_settled x.1 x.0) (settled-stage x.1 x.0 v)

answered-stage : (w : WorldState) (stage : Stage) (input : Input) → StandsAt w.stage w.glk
    → w.stage ≡ stage
    → StandsAt (solo.world_after_turn w stage input).stage (solo.world_after_turn w stage input).glk
answered-stage w (AtSelect m) input v e =
    rested-stage w.image w.seed w.budget (turn.turn_on w.image w.budget w.glk m input)
    (turn-rest w.image w.budget w.glk m input
    v.valid)
answered-stage w (AtPrompt m) input v e =
    rested-stage w.image w.seed w.budget (turn.turn_on w.image w.budget w.glk m input)
    (turn-rest w.image w.budget w.glk m input
    v.valid)
answered-stage w Quit input v e = v
answered-stage w (Fault n) input v e = v

stage-if : (b : Bool) (x y : WorldState) → StandsAt x.stage x.glk → StandsAt y.stage y.glk
    → StandsAt (cond b x y).stage (cond b x y).glk
stage-if true x y h k = h
stage-if false x y h k = k

turned-stage : (w : WorldState) (input : Input) → StandsAt w.stage w.glk
    → StandsAt (solo.world_after_input w input).stage (solo.world_after_input w input).glk
unfolding solo.world_after_input
turned-stage w input v =
    stage-if (solo.is_wanted w input) (solo.world_after_turn w w.stage input) w
    (answered-stage w w.stage input v refl) v

opened-stage : (image : List ℕ) (setup : Setup)
    → StandsAt (solo.opening image setup).stage (solo.opening image setup).glk
unfolding solo.opening
opened-stage image setup =
    rested-stage image setup.seed setup.budget
    (turn.story_begun image setup.budget (empty_screen setup.cols setup.rows)
    (started image setup.seed))
    (begun-rest image setup.budget (empty_screen setup.cols setup.rows) (started image setup.seed)
    (glk.calls_keep_valid.new setup.cols setup.rows))

pub glk_stays_valid : GlkStaysValid
glk_stays_valid = record { opened = opened-stage; turned = turned-stage }

-- ---- what the functions of turns leave

-- the story came to rest so
left-as : (x : Glk × Stage) (g : Glk) (r : Result Stage AllocError) → Rested x
    → IfOk r (λ t. (g, t) ≡ x) → IfOk r (λ t. ComesTo t g)
left-as x g (Ok t) v e = subst Rested (sym e) v
left-as x g (Err e) v h = tt

pub run-stands : (image : List ℕ) (budget : ℕ) (g h : Glk) (m : Machine)
    (r : Result Stage AllocError) → IsReadyGlk g
    → IfOk r (λ t. (h, t) ≡ turn.rest image budget (running g m)) → IfOk r (λ t. ComesTo t h)
run-stands image budget g h m r v e =
    left-as (turn.rest image budget (running g m)) h r (rest-rest image budget (running g m) v) e

pub turn-stands : (image : List ℕ) (budget : ℕ) (g h : Glk) (m : Machine) (input : Input)
    (r : Result Stage AllocError) → IsValidGlk g
    → IfOk r (λ t. (h, t) ≡ turn.turn_on image budget g m input) → IfOk r (λ t. ComesTo t h)
turn-stands image budget g h m input r v e =
    left-as (turn.turn_on image budget g m input) h r (turn-rest image budget g m input v) e
