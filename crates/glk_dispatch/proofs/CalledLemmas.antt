-- What calls answered and left keeps what the work of a call keeps.
use Rattle.std.proofs.Common.{◌≡◌, ◌⊎◌, inl, inr, refl, subst, sym, ℕ, Option, Result, Ok, Err}
use Rattle.std.proofs.Common.{List, [], slice_index}
use Rattle.std.specs.Prelude.{IfOk, OnOk}
use Rattle.vm_memory.specs.MemoryMap.{MemoryMap, KeepsMap}
use Rattle.vm_memory.specs.declared.fault.Trap.{Trap}
use Rattle.vm_memory.specs.declared.fault.Trap.TheVariants.{Fault, NoMemory}
use Rattle.vm_stack.specs.StackState.{StackState}
use Rattle.story_text.specs.declared.input.Input.{Input}
use Rattle.story_text.specs.declared.input.Input.TheVariants as input
use Rattle.glk_dispatch.specs.Answer.{AnswersOverGlk, GlkCall, DoesCall}
use Rattle.glk_dispatch.specs.Answer.{LeavesGlkAndMemory as LeavesPut, Reached}
use Rattle.glk_dispatch.specs.Answer.{CallRule, UnlessNoMemory, glk_call}
use Rattle.glk_dispatch.specs.Arguments.{call_arguments}
use Rattle.glk_dispatch.specs.Call.{call_work}
use Rattle.glk_dispatch.specs.Events as events
use Rattle.glk_dispatch.specs.FileRefs.{prompted}
use Rattle.glk_dispatch.specs.Keeping.{KeepsFrames, KeepsStory}
use Rattle.glk_dispatch.specs.Output as out
use Rattle.glk_dispatch.specs.Streams as rows
use Rattle.glk_dispatch.specs.Valid.{IsReadyGlk, IsValidGlk, LeavesValid}
use Rattle.glk_dispatch.specs.declared.called.Called.{Called}
use Rattle.glk_dispatch.specs.declared.glk.Glk.{Glk}
use Rattle.glk_dispatch.specs.declared.selector.Call as call
use Rattle.glk_dispatch.proofs.KeptLemmas.{Keeps, Kept, Leaves, Puts, begins-puts, beside, on, puts}
use Rattle.glk_dispatch.proofs.KeptLemmas.{rested-valid, row}
use Rattle.glk_dispatch.proofs.KeptStory.{at-first, ok-arguments}
use Rattle.glk_dispatch.proofs.KeptEvents.{at_rest, kept-event_answered, kept-input_echoed}
use Rattle.glk_dispatch.proofs.KeptOutput.{kept-put_code, kept-spread_all}
use Rattle.glk_dispatch.proofs.KeptLemmas.{ahead-valid}
use Rattle.glk_dispatch.proofs.KeptStreams.{kept-got_code, prompted-valid}
use Rattle.glk_dispatch.proofs.KeptCalls.{kept-taken}

-- by the value that the work should come to: memory and stack, and the Glk state
does-keep : {A : Type 0} (s : GlkCall) (Is : GlkCall × A → Type 0)
    → ((p : GlkCall × A) → Is p → KeepsStory s.memory s.stack p.0.memory p.0.stack)
    → (should : CallRule A) (g : Glk) (m : MemoryMap) (t : StackState) (r : Result A Trap)
    → Kept s Is should → DoesCall should g m t r → OnOk r (KeepsStory s.memory s.stack m t)
does-keep {A} s Is keeps should g m t (Ok x) k e =
    keeps (glk_call g m t, x) (subst (λ (y : CallRule A). Kept s Is y) e k)
does-keep s Is keeps should g m t (Err f) k e = tt

does-stand : (s : GlkCall) (should : CallRule Called) (g : Glk) (m : MemoryMap) (t : StackState)
    (r : Result Called Trap)
    → Kept s (row s) should → DoesCall should g m t r → LeavesValid s.glk g r
does-stand s should g m t (Ok x) k e =
    let h : Leaves s (glk_call g m t) x =
    subst (λ (y : CallRule Called). Kept s (row s) y) e k in
    h.parts
does-stand s should g m t (Err (Fault n)) k e =
    subst (λ (y : CallRule Called). Kept s (row s) y) e k
does-stand s should g m t (Err NoMemory) k e = tt

-- the arguments of a call were taken, and then its work was done
taken-kept : (s : GlkCall) (k : call.Call) (count : Option ℕ) (given : ℕ) (t : StackState)
    (args : List ℕ) → call_arguments s.stack count given ≡ Ok (t, args)
    → Kept s (row s) (call_work k (record s { stack = t }) (slice_index args))
taken-kept s k count given t args taken =
    let frames : KeepsFrames s.stack t =
    subst (λ (y : Result (StackState × List ℕ) ℕ). IfOk y (at-first s.stack)) taken
    (ok-arguments s.stack count given) in
    kept-taken s k t (slice_index args) frames

pub call_keeps : (s : GlkCall) (k : call.Call) (count : Option ℕ) (given : ℕ) (t : StackState)
    (args : List ℕ) (g : Glk) (m : MemoryMap) (u : StackState) (r : Result Called Trap)
    → call_arguments s.stack count given ≡ Ok (t, args)
    → DoesCall (call_work k (record s { stack = t }) (slice_index args)) g m u r
    → OnOk r (KeepsStory s.memory s.stack m u)
call_keeps s k count given t args g m u r taken does =
    does-keep s (row s) (λ p h. record { map = h.map; stack = h.stack }) _ g m u r
    (taken-kept s k count given t args taken) does

pub call_stands : (s : GlkCall) (k : call.Call) (count : Option ℕ) (given : ℕ) (t : StackState)
    (args : List ℕ) (g : Glk) (m : MemoryMap) (u : StackState) (r : Result Called Trap)
    → call_arguments s.stack count given ≡ Ok (t, args)
    → DoesCall (call_work k (record s { stack = t }) (slice_index args)) g m u r
    → LeavesValid s.glk g r
call_stands s k count given t args g m u r taken does =
    does-stand s _ g m u r (taken-kept s k count given t args taken) does

-- what holds under a condition
pub under : {A : Type 0} (Is Then : Type 0) (r : Result A Trap) → (Is → UnlessNoMemory r Then)
    → UnlessNoMemory r (Is → Then)
under Is Then (Ok x) h = h
under Is Then (Err (Fault n)) h = h
under Is Then (Err NoMemory) h = tt

does-ready : {A : Type 0} (s : GlkCall) (should : Reached (GlkCall × A)) (g : Glk) (m : MemoryMap)
    (t : StackState) (r : Result A Trap) → IsReadyGlk s.glk
    → Kept s (on s) should → DoesCall should g m t r → UnlessNoMemory r (IsReadyGlk g)
does-ready {A} s should g m t (Ok x) v k e =
    let h : Keeps s (glk_call g m t) = subst (λ (y : Reached (GlkCall × A)). Kept s (on s) y) e k in
    h.parts v
does-ready {A} s should g m t (Err (Fault n)) v k e =
    subst (λ (y : Reached (GlkCall × A)). Kept s (on s) y) e k v
does-ready s should g m t (Err NoMemory) v k e = tt

-- an input that is no file's name is answered by an event
abbrev pub IsForEvent : Input → Type 0
IsForEvent i =
    ((win : ℕ) × (text : List ℕ) × (key : ℕ) × (i ≡ input.Line win text key))
    ⊎ (((win : ℕ) × (code : ℕ) × (i ≡ input.Char win code))
    ⊎ ((cols : ℕ) × (rows : ℕ) × (i ≡ input.Size cols rows)))

by-event : (s : GlkCall) (i : Input) → IsForEvent i
    → events.event_answered s i ≡ events.input_answered s i
by-event s i (inl (win, text, key, e)) = rw e refl
by-event s i (inr (inl (win, code, e))) = rw e refl
by-event s i (inr (inr (cols, rows, e))) = rw e refl

pub event_does : (s : GlkCall) (i : Input) (g : Glk) (m : MemoryMap) (t : StackState)
    (r : Result ℕ Trap)
    → IsForEvent i → DoesCall (events.event_answered s i) g m t r
    → DoesCall (events.input_answered s i) g m t r
event_does s i g m t r is does =
    subst (λ (x : CallRule ℕ). DoesCall x g m t r) (by-event s i is) does

pub event_keeps : (s : GlkCall) (i : Input) (g : Glk) (m : MemoryMap) (t : StackState)
    (r : Result ℕ Trap)
    → DoesCall (events.event_answered s i) g m t r → OnOk r (KeepsStory s.memory s.stack m t)
event_keeps s i g m t r does =
    does-keep (at_rest s) (on (at_rest s)) (λ p h. record { map = h.map; stack = h.stack })
    (events.event_answered s i) g m t r (kept-event_answered s i) does

pub event_readies : (s : GlkCall) (i : Input) (g : Glk) (m : MemoryMap) (t : StackState)
    (r : Result ℕ Trap)
    → DoesCall (events.event_answered s i) g m t r
    → UnlessNoMemory r (IsValidGlk s.glk → IsReadyGlk g)
event_readies s i g m t r does = under (IsValidGlk s.glk) (IsReadyGlk g) r (λ v.
    does-ready (at_rest s) (events.event_answered s i) g m t r (rested-valid s.glk v)
    (kept-event_answered s i) does)

pub prompt_readies : (g h : Glk) (name : List ℕ) (n : ℕ)
    → ◌≡◌ {A = Reached (Glk × ℕ)} (Ok (prompted g name)) (Ok (h, n)) → IsValidGlk g → IsReadyGlk h
prompt_readies g h name n e v =
    subst (λ (y : Reached (Glk × ℕ)). IfOk y (λ p. IsReadyGlk p.0)) e
    (prompted-valid g name (rested-valid g v))

puts-left : (s : GlkCall) (should : Reached (Glk × MemoryMap)) (g : Glk) (m : MemoryMap)
    → Kept s (puts s s.glk.requests) should
    → should ≡ Ok (g, m) → Puts s s.glk.requests g m
puts-left s should g m k e = subst
    (λ (y : Reached (Glk × MemoryMap)). Kept s (puts s s.glk.requests) y) e k

-- a character that was put, and one that was read
pub put_keeps : (s : GlkCall) (g : Glk) (m : MemoryMap) (stream code : ℕ)
    (r : Result (Unit {0}) Trap)
    → LeavesPut (out.spread_all s.glk s.memory stream code) g m r → OnOk r (KeepsMap s.memory m)
put_keeps s g m stream code (Ok x) does =
    (puts-left s _ g m (kept-spread_all s s.glk.requests s.glk s.memory stream code
    (begins-puts s s.glk (λ v. v))) does).keeps.map
put_keeps s g m stream code (Err t) does = tt

pub put_readies : (s : GlkCall) (g : Glk) (m : MemoryMap) (stream code : ℕ)
    (r : Result (Unit {0}) Trap)
    → LeavesPut (out.put_code s.glk s.memory stream code) g m r
    → UnlessNoMemory r (IsReadyGlk s.glk → IsReadyGlk g)
put_readies s g m stream code r does = under (IsReadyGlk s.glk) (IsReadyGlk g) r (λ v.
    by-result v r does (kept-put_code s s.glk.requests s.glk s.memory stream code
    (begins-puts s s.glk (λ w. w))))
  where
    by-result : IsReadyGlk s.glk → (r : Result (Unit {0}) Trap)
        → LeavesPut (out.put_code s.glk s.memory stream code) g m r
        → Kept s (puts s s.glk.requests) (out.put_code s.glk s.memory stream code)
        → UnlessNoMemory r (IsReadyGlk g)
    by-result v (Ok x) e k = (puts-left s _ g m k e).keeps.parts v
    by-result v (Err (Fault n)) e k =
        subst (λ (y : Reached (Glk × MemoryMap)). Kept s (puts s s.glk.requests) y) e k v
    by-result v (Err NoMemory) e k = tt

pub got_readies : (g h : Glk) (m : MemoryMap) (stream : ℕ) (r : Result (Option ℕ) Trap)
    → AnswersOverGlk (rows.got_code g m stream) h r → UnlessNoMemory r (IsReadyGlk g → IsReadyGlk h)
got_readies g h m stream r does = under (IsReadyGlk g) (IsReadyGlk h) r (λ v.
    by-result v r does (kept-got_code call_on g m stream (λ w. w)))
  where
    -- no stack is at hand, and none is reached
    call_on : GlkCall
    call_on = glk_call g m (record { bytes = []; frame = 0; limit = 0 })

    by-result : IsReadyGlk g
        → (r : Result (Option ℕ) Trap)
        → AnswersOverGlk (rows.got_code g m stream) h r
        → Kept call_on (beside call_on) (rows.got_code g m stream) → UnlessNoMemory r (IsReadyGlk h)
    by-result v (Ok x) e k =
        subst (λ (y : Reached (Glk × Option ℕ)). Kept call_on (beside call_on) y) e k v
    by-result v (Err (Fault n)) e k =
        subst (λ (y : Reached (Glk × Option ℕ)). Kept call_on (beside call_on) y) e k v
    by-result v (Err NoMemory) e k = tt

pub passed_readies : (g h : Glk) (n : ℕ) → h ≡ rows.ahead_read g n → IsReadyGlk g → IsReadyGlk h
passed_readies g h n e v = subst IsReadyGlk (sym e) (ahead-valid g n v)

-- an echo leaves the requests
pub echo_asks : (s : GlkCall) (i : Input) (g : Glk) (m : MemoryMap)
    → events.input_echoed s.glk s.memory i ≡ Ok (g, m)
    → g.requests ≡ s.glk.requests
echo_asks s i g m does =
    (puts-left s _ g m (kept-input_echoed s s.glk.requests i s.glk s.memory
    (begins-puts s s.glk (λ v. v))) does).asked
