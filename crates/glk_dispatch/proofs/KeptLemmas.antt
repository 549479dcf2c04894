-- What the work of a call keeps, step by step: valid parts, the story's memory and its frames.
use Rattle.std.proofs.Common.{◌≡◌, ◌≤◌, ℕ, Bool, true, false, List, refl, Result, Ok, Err, cond}
use Rattle.std.proofs.Common.{sym, ◌∙◌, ap, subst}
use Rattle.std.specs.Prelude.{IfOk}
use Rattle.std.proofs.lemmas.Bool.{cond_both}
use Rattle.vm_memory.specs.Chaining.{◌>>=◌}
use Rattle.vm_memory.specs.Fault.{coded}
use Rattle.vm_memory.specs.MemoryMap.{MemoryMap, KeepsMap}
use Rattle.vm_memory.specs.declared.fault.MemFault.{MemFault}
use Rattle.glk_windows.specs.Areas.{HaveAreas}
use Rattle.glk_windows.specs.Laws as of_windows
use Rattle.glk_windows.specs.Valid as windows
use Rattle.glk_windows.specs.Tree.{WindowTree}
use Rattle.glk_windows.proofs.BelowLemmas.{may_key_holds}
use Rattle.glk_windows.proofs.ValidLemmas.{keeps_valid}
use Rattle.glk_streams.specs.Laws as of_streams
use Rattle.glk_streams.specs.Input.{ahead_passed}
use Rattle.glk_streams.specs.Streams.{StreamTable}
use Rattle.glk_streams.specs.declared.fault.StreamStop.{StreamStop}
use Rattle.glk_streams.proofs.ValidCalls.{keeps}
use Rattle.glk_streams.proofs.ValidLaws.{begins}
use Rattle.glk_input.specs.Laws as of_requests
use Rattle.glk_input.specs.Valid as requests
use Rattle.glk_input.specs.declared.request.WindowInput.{WindowInput}
use Rattle.glk_input.proofs.ValidLemmas.{stays_valid}
use Rattle.glk_dispatch.specs.Answer.{GlkCall, Reached, over_glk_alone, glk_call, needs, within}
use Rattle.glk_dispatch.specs.Fault.{streams_coded}
use Rattle.glk_dispatch.specs.Glk.{character_charged, characters_charged, wait_set_back}
use Rattle.glk_dispatch.specs.Streams.{ahead_read}
use Rattle.glk_dispatch.specs.Keeping.{KeepsFrames}
use Rattle.glk_dispatch.specs.Links.{links}
use Rattle.glk_dispatch.specs.Valid.{AreAsked, AreValid, IsReadyGlk, IsValidGlk, IsValidWaiting}
use Rattle.glk_dispatch.specs.Reference.{gives}
use Rattle.glk_dispatch.specs.declared.called.Called.{Called}
use Rattle.glk_dispatch.specs.declared.called.Called.TheVariants.{Value}
use Rattle.glk_dispatch.specs.declared.glk.Glk.{Glk}
use Rattle.glk_dispatch.proofs.CloseLemmas.{ends_in, links_in}
use Rattle.glk_dispatch.proofs.StreamLemmas.{LeavesAlone, LeavesMore, More, added-linked}
use Rattle.glk_dispatch.proofs.StreamLemmas.{ahead-more}
use Rattle.glk_dispatch.proofs.PartLemmas.{Alike, valid-alike}

-- what the crates of windows, streams and requests promise
pub record Parts : Type 0 where
  pub windows : of_windows.KeepsWindowsValid
  pub may_key : of_windows.MayKeyHolds
  pub streams : of_streams.StreamsStayValid
  pub begins : of_streams.BeginsValid
  pub requests : of_requests.InputsStayValid

pub laws : Parts
laws = record {
  windows = keeps_valid;
  may_key = may_key_holds;
  streams = keeps;
  begins = begins;
  requests = stays_valid;
}

-- ---- what is kept

-- a Glk state is valid, with nothing to wait with, where that of the call was
abbrev pub Valid : GlkCall → Glk → Type 0
Valid b g = IsReadyGlk b.glk → IsReadyGlk g

-- what a call keeps of what it works on
pub record Keeps (b d : GlkCall) : Type 0 where
  pub parts : Valid b d.glk
  pub map : KeepsMap b.memory d.memory
  pub stack : KeepsFrames b.stack d.stack

-- what a row leaves, with its answer
pub record Leaves (b d : GlkCall) (answer : Called) : Type 0 where
  pub parts : IsReadyGlk b.glk → IsValidWaiting answer d.glk
  pub map : KeepsMap b.memory d.memory
  pub stack : KeepsFrames b.stack d.stack

-- what a step comes to: this holds of its value, and the Glk state of a fault is valid
abbrev pub Kept : {A : Type 0} → GlkCall → (A → Type 0) → Reached A → Type 0
Kept b P (Ok x) = P x
Kept b P (Err e) = Valid b e.0

-- the values of steps: all that a call works on, or its Glk state, and an answer; the same with a
-- memory between them
abbrev pub on : {A : Type 0} → GlkCall → GlkCall × A → Type 0
on b p = Keeps b p.0

abbrev pub beside : {A : Type 0} → GlkCall → Glk × A → Type 0
beside b p = Valid b p.0

-- those of rows: all that a call works on, or its Glk state, and the call's answer
abbrev pub row : GlkCall → GlkCall × Called → Type 0
row b p = Leaves b p.0 p.1

abbrev pub told : GlkCall → Glk × Called → Type 0
told b p = IsReadyGlk b.glk → IsValidWaiting p.1 p.0

abbrev pub between : {A : Type 0} → GlkCall → Glk × MemoryMap × A → Type 0
between b p = Keeps b (glk_call p.0 p.1 b.stack)

-- a Glk state and a memory where characters were put: these requests are there yet
pub record Puts (b : GlkCall) (rs : List WindowInput) (g : Glk) (m : MemoryMap) : Type 0 where
  pub keeps : Keeps b (glk_call g m b.stack)
  pub asked : g.requests ≡ rs

abbrev pub puts : GlkCall → List WindowInput → Glk × MemoryMap → Type 0
puts b rs p = Puts b rs p.0 p.1

-- ---- steps

pub kept-bind : {A B : Type 0} (b : GlkCall) (P : A → Type 0) (Q : B → Type 0) (r : Reached A)
    (f : A
    → Reached B)
    → Kept b P r → ((x : A) → P x → Kept b Q (f x)) → Kept b Q (r >>= f)
kept-bind b P Q (Ok x) f h k = k x h
kept-bind b P Q (Err e) f h k = h

pub kept-step : {A B : Type 0} (b : GlkCall) (P : A → Type 0) (Q : B → Type 0) (g : Glk)
    (r : Result A ℕ) (f : A → Reached B)
    → Valid b g → IfOk r P → ((x : A) → P x → Kept b Q (f x)) → Kept b Q (within g r >>= f)
kept-step b P Q g (Ok x) f v h k = k x h
kept-step b P Q g (Err n) f v h k = v

pub kept-read : {A B : Type 0} (b : GlkCall) (Q : B → Type 0) (g : Glk) (r : Result A ℕ) (f : A
    → Reached B)
    → Valid b g → ((x : A) → Kept b Q (f x)) → Kept b Q (within g r >>= f)
kept-read b Q g (Ok x) f v k = k x
kept-read b Q g (Err n) f v k = v

pub kept-needs : {A : Type 0} (b : GlkCall) (Q : A → Type 0) (g : Glk) (t : Bool) (n : ℕ)
    (rest : Reached A)
    → Valid b g → (t ≡ true → Kept b Q rest) → Kept b Q (needs g t n rest)
kept-needs b Q g true n rest v k = k refl
kept-needs b Q g false n rest v k = v

pub row-needs : {A : Type 0} (s : GlkCall) (Q : A → Type 0) (t : Bool) (n : ℕ) (rest : Reached A)
    → (t ≡ true → Kept s Q rest) → Kept s Q (needs s.glk t n rest)
row-needs s Q t n rest k = kept-needs s Q s.glk t n rest (λ v. v) k

pub kept-if : {A : Type 0} (b : GlkCall) (Q : A → Type 0) (t : Bool) (x y : Reached A)
    → (t ≡ true → Kept b Q x) → (t ≡ false → Kept b Q y) → Kept b Q (cond t x y)
kept-if b Q t x y h k = cond_both t x y (Kept b Q) h k

pub ok-coded : {A : Type 0} (P : A → Type 0) (r : Result A MemFault) → IfOk r P → IfOk (coded r) P
ok-coded P (Ok x) h = h
ok-coded P (Err e) h = tt

-- ---- valid states

-- what changes neither how windows and streams name each other nor the requests
pub ready-alike : (g h : Glk) → Alike g h → h.requests ≡ g.requests → h.event ≡ g.event
    → h.prompt ≡ g.prompt → AreValid h → HaveAreas h.windows h.cols h.rows → IsReadyGlk g
    → IsReadyGlk h
ready-alike g h same asked event prompt parts areas v = record {
  valid = valid-alike g h same asked parts areas v.valid;
  rests = record { event = event ∙ v.rests.event; prompt = prompt ∙ v.rests.prompt };
}

pub parts-windows : (g : Glk) (t : WindowTree) → AreValid g → windows.IsValidTree t
    → t.next ≤ 4294967295 → AreValid (record g { windows = t })
parts-windows g t v h
    n = record { windows = h; streams = v.streams; requests = v.requests; next = n }

-- other windows that name their streams as before, and have their rectangles
pub with-windows : (g : Glk) (t : WindowTree) → IsReadyGlk g → windows.IsValidTree t
    → t.next ≤ 4294967295 → ((m : ℕ) → links (record g { windows = t }) m ≡ links g m)
    → HaveAreas t g.cols g.rows → IsReadyGlk (record g { windows = t })
with-windows g t v h n same areas =
    ready-alike g (record g { windows = t }) (record { windows = same; streams = λ m. refl })
    refl refl refl (parts-windows g t v.valid.parts h n) areas v

-- other streams: each window's stream is as it was, and no other is one
pub with-streams : (g : Glk) (t : StreamTable) → IsReadyGlk g → of_streams.AreValidStreams t
    → More g.streams t → IsReadyGlk (record g { streams = t })
with-streams g t v h more =
    let p = v.valid.parts in record {
      valid = record {
        parts =
            record { windows = p.windows; streams = h; requests = p.requests; next = p.next };
        linked = added-linked g t more v.valid.linked;
        asked = record { listed = v.valid.asked.listed; askers = v.valid.asked.askers };
        areas = v.valid.areas;
      };
      rests = record { event = v.rests.event; prompt = v.rests.prompt };
    }

pub with-requests : (g : Glk) (r : List WindowInput)
    → IsReadyGlk g → requests.are_valid_inputs r ≡ true
    → AreAsked (record g { requests = r }) → IsReadyGlk (record g { requests = r })
with-requests g r v h asked =
    let p = v.valid.parts in record {
      valid = record {
        parts = record { windows = p.windows; streams = p.streams; requests = h; next = p.next };
        linked = v.valid.linked;
        asked = asked;
        areas = v.valid.areas;
      };
      rests = record { event = v.rests.event; prompt = v.rests.prompt };
    }

-- other counts, and other words to wait with
pub same-parts : (g h : Glk) → h.windows ≡ g.windows → h.streams ≡ g.streams
    → h.requests ≡ g.requests → h.cols ≡ g.cols → h.rows ≡ g.rows → IsValidGlk g → IsValidGlk h
same-parts g h a b c cols rows v =
    valid-alike g h
    (record {
      windows = λ m. ap (λ t. links_in t.slots m) a;
      streams = λ m. ap (λ t. ends_in t m) b;
    }) c
    (record {
      windows = subst windows.IsValidTree (sym a) v.parts.windows;
      streams = subst of_streams.AreValidStreams (sym b) v.parts.streams;
      requests = ap requests.are_valid_inputs c ∙ v.parts.requests;
      next = subst (λ t. t.next ≤ 4294967295) (sym a) v.parts.next;
    })
    (subst (λ t. HaveAreas t h.cols h.rows) (sym a)
    (subst (λ n. HaveAreas g.windows n h.rows) (sym cols)
    (subst (λ n. HaveAreas g.windows g.cols n) (sym rows) v.areas))) v

pub charged-valid : (g : Glk) → IsReadyGlk g → IsReadyGlk (character_charged g)
charged-valid g v = record {
  valid = same-parts g (character_charged g) refl refl refl refl refl v.valid;
  rests = record { event = v.rests.event; prompt = v.rests.prompt };
}

all_charged-valid : (count : ℕ) (g : Glk) → IsReadyGlk g → IsReadyGlk (characters_charged count g)
all_charged-valid count g v = record {
  valid = same-parts g (characters_charged count g) refl refl refl refl refl v.valid;
  rests = record { event = v.rests.event; prompt = v.rests.prompt };
}

-- the bytes ahead of a stream read
pub ahead-valid : (g : Glk) (n : ℕ) → IsReadyGlk g → IsReadyGlk (ahead_read g n)
ahead-valid g n v =
    let p = ahead_passed g.streams n in
    all_charged-valid p.1 (record g { streams = p.0 })
    (with-streams g p.0 v ((laws.streams g.streams v.valid.parts.streams).ahead n)
    (ahead-more g.streams n))

pub rested-valid : (g : Glk) → IsValidGlk g → IsReadyGlk (wait_set_back g)
rested-valid g v = record {
  valid = same-parts g (wait_set_back g) refl refl refl refl refl v;
  rests = record { event = refl; prompt = refl };
}

-- a call that answers a value waits with nothing
pub stands : (g : Glk) (x : ℕ) → IsReadyGlk g → IsValidWaiting (Value x) g
stands g x v = record { valid = v.valid; waits = v.rests }

pub kept-made : {A : Type 0} (b : GlkCall) (g : Glk) (r : Result (StreamTable × A) StreamStop)
    → Valid b g → (AreValid g → of_streams.LeavesBeside r) → (AreValid g → LeavesMore g.streams r)
    → Kept b (beside b) (within g (streams_coded r) >>= (λ p. Ok (record g { streams = p.0 }, p.1)))
kept-made b g (Ok p) k h more =
    λ v. let w = k v in with-streams g p.0 w (h w.valid.parts) (more w.valid.parts)
kept-made b g (Err e) k h more = k

pub kept-left : (b : GlkCall) (g : Glk) (r : Result StreamTable StreamStop) → Valid b g
    → (AreValid g → of_streams.LeavesValidStreams r) → (AreValid g → LeavesAlone g.streams r)
    → Kept b (Valid b) (within g (streams_coded r) >>= (λ t. Ok (record g { streams = t })))
kept-left b g (Ok t) k h more =
    λ v. let w = k v in with-streams g t w (h w.valid.parts) (more w.valid.parts)
kept-left b g (Err e) k h more = k

-- a Glk state alone is changed
pub placed-on : (s : GlkCall) (g : Glk) → Valid s g → Keeps s (record s { glk = g })
placed-on s g v = record {
  parts = v;
  map = record { origin = refl; size = refl };
  stack = record { limit = refl; frames = λ c h. (c, h) };
}

pub self : (s : GlkCall) → Keeps s s
self s = placed-on s s.glk (λ v. v)

pub kept-alone : {A : Type 0} (s : GlkCall) (r : Reached (Glk × A)) → Kept s (beside s) r
    → Kept s (on s) (over_glk_alone s r)
kept-alone s r h = kept-bind s (beside s) (on s) r (λ p. Ok (record s { glk = p.0 }, p.1)) h
    (λ p v. placed-on s p.0 v)

-- the same of a row
pub kept-row : (s : GlkCall) (r : Reached (Glk × Called)) → Kept s (told s) r
    → Kept s (row s) (over_glk_alone s r)
kept-row s r h = kept-bind s (told s) (row s) r (λ p. Ok (record s { glk = p.0 }, p.1)) h
    (λ p v. record { parts = v; map = (self s).map; stack = (self s).stack })

-- a call that answers a value
pub answers : (b d : GlkCall) (x : ℕ) → Keeps b d → Leaves b d (Value x)
answers b d x k = record {
  parts = λ v. stands d.glk x (k.parts v);
  map = k.map;
  stack = k.stack;
}

pub kept-makes : (s : GlkCall) (r : Reached (Glk × ℕ)) → Kept s (beside s) r
    → Kept s (row s) (r >>= (λ p. gives p.1 (record s { glk = p.0 })))
kept-makes s r h = kept-bind s (beside s) (row s) r (λ p. gives p.1 (record s { glk = p.0 })) h
    (λ p v. answers s (record s { glk = p.0 }) p.1 (placed-on s p.0 v))

pub kept-leaves : (s : GlkCall) (r : Reached Glk) → Kept s (Valid s) r
    → Kept s (row s) (r >>= (λ g. gives 0 (record s { glk = g })))
kept-leaves s r h = kept-bind s (Valid s) (row s) r (λ g. gives 0 (record s { glk = g })) h
    (λ g v. answers s (record s { glk = g }) 0 (placed-on s g v))

pub kept-puts : (s : GlkCall) (rs : List WindowInput) (r : Reached (Glk × MemoryMap)) (x : ℕ)
    → Kept s (puts s rs) r
    → Kept s (row s) (r >>= (λ p. gives x (record s { glk = p.0; memory = p.1 })))
kept-puts s rs r x h = kept-bind s (puts s rs) (row s) r
    (λ p. gives x (record s { glk = p.0; memory = p.1 })) h
    (λ p k. answers s (record s { glk = p.0; memory = p.1 }) x k.keeps)

pub begins-puts : (s : GlkCall) (g : Glk) → Valid s g → Puts s g.requests g s.memory
begins-puts s g v = record { keeps = placed-on s g v; asked = refl }

-- another memory
pub keeps-map : (b : GlkCall) (g : Glk) (m n : MemoryMap) → Keeps b (glk_call g m b.stack)
    → KeepsMap b.memory n → Keeps b (glk_call g n b.stack)
keeps-map b g m n k h = record { parts = k.parts; map = h; stack = k.stack }
