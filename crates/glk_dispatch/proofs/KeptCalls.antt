-- What every call and every input keeps.
use Rattle.std.proofs.Common.{◌≡◌, ◌∙◌, ℕ, zero, suc, ◌+◌, ◌-◌, ◌%◌, ◌^◌, ◌==◌, ◌&&◌}
use Rattle.std.proofs.Common.{not, min, arith, Option, Some, None, Result, Ok, Err, List, cond}
use Rattle.std.proofs.Common.{ap, refl, slice_index}
use Rattle.std.specs.Prelude.{IfOk}
use Rattle.vm_memory.specs.Chaining.{◌>>=◌}
use Rattle.vm_memory.specs.Access.{read, written}
use Rattle.vm_memory.specs.Fault.{coded}
use Rattle.vm_memory.specs.MemoryMap.{MemoryMap, KeepsMap}
use Rattle.vm_stack.specs.StackState.{StackState}
use Rattle.glk_numbers.specs.Numbered.{found, has}
use Rattle.glk_windows.proofs.AreaLemmas.{SamePlacement, areas-alike, content-placed, placement-map}
use Rattle.glk_windows.specs.Output as output
use Rattle.glk_windows.specs.Tree as tree
use Rattle.glk_windows.specs.declared.window.Content.TheVariants as wc
use Rattle.glk_streams.specs.FileRefs as refs
use Rattle.glk_input.specs.declared.request.WindowInput.{WindowInput}
use Rattle.glk_dispatch.specs.Answer.{GlkCall, Reached, CallRule, within}
use Rattle.glk_dispatch.specs.Arguments.{call_arguments}
use Rattle.glk_dispatch.specs.Call.{selector_called, called_with, call_work}
use Rattle.glk_dispatch.specs.Case as cases
use Rattle.glk_dispatch.specs.Events as events
use Rattle.glk_dispatch.specs.Gestalt as base
use Rattle.glk_dispatch.specs.Glk.{character_charged, empty_screen}
use Rattle.glk_dispatch.specs.Glk.{is_stream, has_window, turn_begun}
use Rattle.glk_dispatch.specs.Keeping.{KeepsFrames}
use Rattle.glk_dispatch.specs.Laws as law
use Rattle.glk_dispatch.specs.Laws.{Reaches}
use Rattle.glk_dispatch.specs.Links.{stream_ends, window_link, links, next_echo}
use Rattle.glk_dispatch.specs.Output as out
use Rattle.glk_dispatch.specs.Selector.{call_of}
use Rattle.glk_dispatch.specs.Streams as rows
use Rattle.glk_dispatch.specs.Style as styles
use Rattle.glk_dispatch.specs.Valid.{IsReadyGlk, IsValidGlk, IsValidWaiting}
use Rattle.glk_dispatch.specs.declared.base.BaseCall.{BaseCall}
use Rattle.glk_dispatch.specs.declared.base.BaseCall.TheVariants as b
use Rattle.glk_dispatch.specs.declared.called.Called.{Called}
use Rattle.glk_dispatch.specs.declared.case.Case.{Case}
use Rattle.glk_dispatch.specs.declared.case.Case.TheVariants.{Lower, Upper}
use Rattle.glk_dispatch.specs.declared.case.CaseCall.{CaseCall}
use Rattle.glk_dispatch.specs.declared.case.CaseCall.TheVariants as c
use Rattle.glk_dispatch.specs.declared.glk.Glk.{Glk}
use Rattle.glk_dispatch.specs.declared.selector.Call as call
use Rattle.glk_dispatch.specs.declared.selector.Call.TheVariants.{Base, Window, Stream, FileRef}
use Rattle.glk_dispatch.specs.declared.selector.Call.TheVariants.{Output, Style, Case as InCase}
use Rattle.glk_dispatch.specs.declared.selector.Call.TheVariants.{Event, Nothing}
use Rattle.glk_dispatch.specs.declared.style.StyleCall.{StyleCall}
use Rattle.glk_dispatch.specs.declared.style.StyleCall.TheVariants as sty
use Rattle.glk_numbers.proofs.FoundLemmas.{part-map}
use Rattle.glk_dispatch.proofs.LoopLemmas.{end-go, end-stop}
use Rattle.glk_dispatch.proofs.StreamLemmas.{styled-more}
use Rattle.glk_dispatch.proofs.PartLemmas.{kind-kept, valid-alike}
use Rattle.glk_dispatch.proofs.KeptLemmas.{Keeps, Kept, Puts, Valid, ahead-valid, answers}
use Rattle.glk_dispatch.proofs.KeptLemmas.{begins-puts, beside, charged-valid, kept-bind, kept-if}
use Rattle.glk_dispatch.proofs.KeptLemmas.{kept-leaves, kept-left, kept-puts, kept-read, kept-step}
use Rattle.glk_dispatch.proofs.KeptLemmas.{laws, on, puts, rested-valid, row, row-needs, self}
use Rattle.glk_dispatch.proofs.KeptStory.{at-first, kept-array_begun, kept-told, ok-arguments}
use Rattle.glk_dispatch.proofs.KeptStory.{ok-word}
use Rattle.glk_dispatch.proofs.KeptEvents.{at_rest, kept-answered, kept-event_work}
use Rattle.glk_dispatch.proofs.KeptOutput.{kept-output_work, kept-put_code}
use Rattle.glk_dispatch.proofs.KeptStreams.{kept-fileref_work, kept-got_code, kept-stream_work}
use Rattle.glk_dispatch.proofs.KeptWindows.{kept-window_work}

kept-sets : (s : GlkCall) (n style : ℕ) → Kept s (row s) (styles.sets s n style)
kept-sets s n style =
    kept-leaves s (styles.glk_styled s.glk n style)
    (kept-if s (Valid s) (n == 0) _ _ (λ e. λ v. v)
    (λ e. kept-left s s.glk (refs.styled s.glk.streams n style) (λ v. v)
    (λ v. (laws.streams s.glk.streams v.streams).style n style)
    (λ v. styled-more s.glk.streams n style)))

kept-style_work : (k : StyleCall) (s : GlkCall) (l : ℕ → ℕ)
    → Kept s (row s) (styles.style_work k s l)
unfolding styles.style_work
kept-style_work sty.Set s l = kept-sets s s.glk.streams.current (l 0)
kept-style_work sty.SetStream s l = row-needs s (row s) (is_stream s.glk (l 0)) 21 _
    (λ e. kept-sets s (l 0) (l 1))
kept-style_work sty.HintSet s l = answers s s 0 (self s)
kept-style_work sty.HintClear s l = answers s s 0 (self s)
kept-style_work sty.Distinguish s l = row-needs s (row s) (has_window s.glk (l 0)) 21 _
    (λ e. answers s s 0 (self s))
kept-style_work sty.Measure s l = row-needs s (row s) (has_window s.glk (l 0)) 21 _
    (λ e. answers s s 0 (self s))

-- a word in another case
kept-last : (s : GlkCall) (rs : List WindowInput) (g : Glk) (r : Result MemoryMap ℕ)
    → ((n : MemoryMap) → KeepsMap s.memory n → Puts s rs g n)
    → Valid s g → IfOk r (KeepsMap s.memory) → Kept s (λ n. Puts s rs g n) (within g r)
kept-last s rs g (Ok n) h v k = h n k
kept-last s rs g (Err e) h v k = v

kept-word : (s : GlkCall) (rs : List WindowInput) (k : Case) (g : Glk) (m : MemoryMap) (at : ℕ)
    → Puts s rs g m → Kept s (puts s rs) (cases.word_cased k g m at)
kept-word s rs k g m at h =
    let v : Valid s (character_charged g) = λ w. charged-valid g (h.keeps.parts w) in
    kept-bind s (λ n. Puts s rs (character_charged g) n) (puts s rs)
    (within g (coded (read 4 m at)) >>=
    (λ x. within (character_charged g) (coded (written 4 m at (cases.in_case k x)))))
    (λ n. Ok (character_charged g, n))
    (kept-read s (λ n. Puts s rs (character_charged g) n) g (coded (read 4 m at))
    (λ x. within (character_charged g) (coded (written 4 m at (cases.in_case k x)))) h.keeps.parts
    (λ x. kept-last s rs (character_charged g) (coded (written 4 m at (cases.in_case k x)))
    (λ n w. record {
      keeps = record { parts = v; map = w; stack = h.keeps.stack };
      asked = h.asked;
    }) v
    (ok-word s.memory 4 m at (cases.in_case k x) h.keeps.map)))
    (λ n w. w)

kept-words : (s : GlkCall) (rs : List WindowInput) (count : ℕ) (k : Case) (g : Glk) (m : MemoryMap)
    (at : ℕ) → Puts s rs g m
    → Kept s (puts s rs) (cases.words_cased count k g m at)
unfolding cases.words_cased
kept-words s rs zero k g m at h = h
kept-words s rs (suc count) k g m at h =
    kept-bind s (puts s rs) (puts s rs) (cases.word_cased k g m at)
    (λ p. cases.words_cased count k p.0 p.1 ((at + 4) % 2 ^ 32))
    (kept-word s rs k g m at h) (λ p w. kept-words s rs count k p.0 p.1 ((at + 4) % 2 ^ 32) w)

kept-cases : (s : GlkCall) (len n : ℕ) (done : Reached (Glk × MemoryMap))
    → (Puts s s.glk.requests s.glk s.memory → Kept s (puts s s.glk.requests) done)
    → Kept s (row s) (cases.cases s len n done)
kept-cases s len n done h =
    kept-puts s s.glk.requests (within s.glk (cases.within_array len n) >>= (λ x. done)) n
    (kept-read s (puts s s.glk.requests) s.glk (cases.within_array len n) (λ x. done) (λ v. v)
    (λ x. h (begins-puts s s.glk (λ v. v))))

kept-case_work : (k : CaseCall) (s : GlkCall) (l : ℕ → ℕ) → Kept s (row s) (cases.case_work k s l)
unfolding cases.case_work
kept-case_work c.CharToLower s l = answers s s _ (self s)
kept-case_work c.CharToUpper s l = answers s s _ (self s)
kept-case_work c.BufferToLower s l = kept-cases s (l 1) (l 2) _
    (kept-words s s.glk.requests (l 2) Lower s.glk s.memory (l 0))
kept-case_work c.BufferToUpper s l = kept-cases s (l 1) (l 2) _
    (kept-words s s.glk.requests (l 2) Upper s.glk s.memory (l 0))
kept-case_work c.BufferToTitle s l =
    let rs = s.glk.requests in
    kept-cases s (l 1) (l 2) _ (λ k.
    kept-bind s (puts s rs) (puts s rs) (cases.words_cased (min (l 2) 1) Upper s.glk s.memory (l 0))
    (λ p. cases.words_cased (cond (not (l 3 == 0)) (l 2 - 1) 0) Lower p.0 p.1 ((l 0 + 4) % 2 ^ 32))
    (kept-words s rs (min (l 2) 1) Upper s.glk s.memory (l 0) k)
    (λ p h. kept-words s rs (cond (not (l 3 == 0)) (l 2 - 1) 0) Lower p.0 p.1
    ((l 0 + 4) % 2 ^ 32) h))

kept-base_work : (k : BaseCall) (s : GlkCall) (l : ℕ → ℕ) → Kept s (row s) (base.base_work k s l)
unfolding base.base_work
kept-base_work b.Exit s l = record {
  parts = λ v. record { valid = v.valid; waits = v.rests };
  map = (self s).map;
  stack = (self s).stack;
}
kept-base_work b.SetInterruptHandler s l = answers s s 0 (self s)
kept-base_work b.Tick s l = answers s s 0 (self s)
kept-base_work b.Gestalt s l = answers s s _ (self s)
kept-base_work b.GestaltExt s l =
    kept-told s (cond (l 0 == 3 && not (l 3 == 0)) (base.array_begun s (l 2) 1) (Ok s))
    (base.glk_gestalt (l 0) (l 1))
    (kept-if s (Keeps s) (l 0 == 3 && not (l 3 == 0)) (base.array_begun s (l 2) 1) (Ok s)
    (λ e. kept-array_begun s (l 2) 1) (λ e. self s))

kept-work : (k : call.Call) (s : GlkCall) (l : ℕ → ℕ) → Kept s (row s) (call_work k s l)
kept-work (Base k) s l = kept-base_work k s l
kept-work (Window k) s l = kept-window_work k s l
kept-work (Stream k) s l = kept-stream_work k s l
kept-work (FileRef k) s l = kept-fileref_work k s l
kept-work (Output k) s l = kept-output_work k s l
kept-work (Style k) s l = kept-style_work k s l
kept-work (InCase k) s l = kept-case_work k s l
kept-work (Event k) s l = kept-event_work k s l
kept-work Nothing s l = answers s s 0 (self s)

-- the arguments are taken from the stack first
kept-since : (s : GlkCall) (t : StackState) (r : CallRule Called) → KeepsFrames s.stack t
    → Kept (record s { stack = t }) (row (record s { stack = t })) r → Kept s (row s) r
kept-since s t (Ok p) k h = record {
  parts = h.parts;
  map = h.map;
  stack = record {
    limit = k.limit ∙ h.stack.limit;
    frames = λ c f. let x = k.frames c f in h.stack.frames x.0 x.1;
  };
}
kept-since s t (Err e) k h = h

pub kept-taken : (s : GlkCall) (k : call.Call) (t : StackState) (l : ℕ → ℕ) → KeepsFrames s.stack t
    → Kept s (row s) (call_work k (record s { stack = t }) l)
kept-taken s k t l h = kept-since s t (call_work k (record s { stack = t }) l) h
    (kept-work k (record s { stack = t }) l)

kept-called_with : (o : Option (call.Call × Option ℕ)) (s : GlkCall) (given : ℕ)
    → Kept s (row s) (called_with o s given)
kept-called_with None s given = λ v. v
kept-called_with (Some p) s given =
    kept-step s (at-first s.stack) (row s) s.glk (call_arguments s.stack p.1 given)
    (λ t. call_work p.0 (record s { stack = t.0 }) (slice_index t.1)) (λ v. v)
    (ok-arguments s.stack p.1 given) (λ t h. kept-taken s p.0 t.0 (slice_index t.1) h)

-- ---- Glk states stay valid

reaches : {A : Type 0} (s : GlkCall) (Is : A → Type 0) (Then : A → Type 0) (r : Reached A)
    → IsReadyGlk s.glk → ((x : A) → Is x → Then x) → Kept s Is r → Reaches Then r
reaches s Is Then (Ok x) v f k = f x k
reaches s Is Then (Err e) v f k = k v

-- an empty screen
new-ready : (cols rows : ℕ) → IsReadyGlk (empty_screen cols rows)
unfolding found has
new-ready cols rows = record {
  valid = record {
    parts = record {
      windows = laws.windows.new;
      streams = laws.begins;
      requests = laws.requests.none;
      next = omega arith;
    };
    linked = record {
      streams = λ win l e. absurd cc;
      windows = λ n win e. absurd cc;
      plain = λ n e f. absurd cc;
      echoes = λ win l e z. absurd cc;
      no_loop =
          λ n. end-go
          (next_echo (links (empty_screen cols rows)) (stream_ends (empty_screen cols rows)))
          n 0 refl
          (end-stop
          (next_echo (links (empty_screen cols rows)) (stream_ends (empty_screen cols rows)))
          0 refl);
    };
    asked = record { listed = λ win. refl; askers = λ win e. absurd cc };
    areas = record {
      root = λ e. absurd cc;
      first = λ n p e. absurd cc;
      second = λ n p e. absurd cc;
    };
  };
  rests = record { event = refl; prompt = refl };
}

pub fresh-ready : (g : Glk) (cols rows : ℕ) → g ≡ empty_screen cols rows → IsReadyGlk g
fresh-ready g cols rows e = rw e (new-ready cols rows)

-- a turn begins
kept-placement : SamePlacement output.content_kept
kept-placement (wc.Pair p) = (refl, refl)
kept-placement c = (refl, refl)

begun-valid : (g : Glk) → IsValidGlk g → IsValidGlk (turn_begun g)
begun-valid g v =
    valid-alike g (turn_begun g)
    (record {
      windows = λ m. part-map tree.window_number window_link
          (λ w. record w { content = output.content_kept w.content }) (λ w. refl)
          (λ w. ap (λ k. record { stream = w.stream; echo = w.echo; kind = k })
          (kind-kept w.content)) g.windows.slots m;
      streams = λ m. refl;
    }) refl
    (record {
      windows = laws.windows.begin_turn g.windows v.parts.windows;
      streams = v.parts.streams;
      requests = v.parts.requests;
      next = v.parts.next;
    })
    (areas-alike g.windows (output.begin_turn g.windows) g.cols g.rows refl
    (placement-map (λ w. record w { content = output.content_kept w.content }) (λ w. refl)
    (content-placed output.content_kept kept-placement) g.windows.slots) v.areas) v

pub calls_keep_valid : law.CallsKeepValid
calls_keep_valid = record {
  new = new-ready;
  begun = begun-valid;
  called = λ s selector given v.
      reaches s (row s) (λ p. IsValidWaiting p.1 p.0.glk) (selector_called s selector given) v
      (λ p k. k.parts v)
      (kept-called_with (call_of selector) s given);
  answered = λ s i v. let w = rested-valid s.glk v in
      reaches (at_rest s) (on (at_rest s)) (λ p. IsReadyGlk p.0.glk) (events.input_answered s i) w
      (λ p k. k.parts w) (kept-answered i s);
  put = λ s n code v.
      reaches s (puts s s.glk.requests) (λ p. IsReadyGlk p.0) (out.put_code s.glk s.memory n code) v
      (λ p k. k.keeps.parts v)
      (kept-put_code s s.glk.requests s.glk s.memory n code (begins-puts s s.glk (λ w. w)));
  got = λ s n v.
      reaches s (beside s) (λ p. IsReadyGlk p.0) (rows.got_code s.glk s.memory n) v (λ p k. k v)
      (kept-got_code s s.glk s.memory n (λ w. w));
  ahead = ahead-valid;
}
