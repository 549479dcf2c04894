-- The calls of events and input keep what the work of a call keeps.
use Rattle.std.proofs.Common.{◌≡◌, ℕ, zero, suc, ◌+◌, ◌%◌, ◌^◌, ◌==◌, ◌&&◌}
use Rattle.std.proofs.Common.{not, nat_le, Bool, true, List, [], ◌∷◌, ◌++◌, length}
use Rattle.std.proofs.Common.{length-append, refl, arith, ◌<◌, ◌≤◌, Option, Some, None, Result, Ok}
use Rattle.std.proofs.Common.{Err, cond, ◌⊎◌, ◌∙◌, inl, inr, is_some}
use Rattle.std.proofs.lemmas.Bool.{and_parts, leb-true}
use Rattle.std.specs.Prelude.{IfOk}
use Rattle.std.proofs.lemmas.Grind.{common_steps}
use Rattle.vm_memory.specs.Chaining.{◌>>=◌}
use Rattle.vm_memory.specs.Access.{read, written}
use Rattle.vm_memory.specs.Fault.{coded}
use Rattle.vm_memory.specs.MemoryMap.{MemoryMap, KeepsMap}
use Rattle.vm_memory.specs.declared.fault.MemFault.{MemFault}
use Rattle.glk_windows.specs.Tree.{window_number}
use Rattle.glk_windows.specs.Valid.{IsOrdered}
use Rattle.glk_numbers.proofs.OrderLemmas.{ascends-above, ascends-below}
use Rattle.glk_input.specs.Delivery as delivery
use Rattle.glk_input.specs.Request as request
use Rattle.glk_input.specs.Valid.{are_valid_inputs}
use Rattle.glk_input.specs.declared.event.Event.{Event}
use Rattle.story_text.specs.declared.input.Input.{Input}
use Rattle.story_text.specs.declared.input.Input.TheVariants as input
use Rattle.glk_input.specs.declared.request.Request.{Request}
use Rattle.glk_input.specs.declared.request.Request.TheVariants.{Line, Char}
use Rattle.glk_input.specs.declared.request.WindowInput.{WindowInput}
use Rattle.glk_dispatch.specs.Answer.{GlkCall, Done, Reached, glk_call}
use Rattle.glk_dispatch.specs.Events as events
use Rattle.glk_dispatch.specs.FileRefs.{prompted}
use Rattle.glk_dispatch.specs.Glk.{has_window, wait_set_back}
use Rattle.glk_dispatch.specs.Valid.{AreAsked, AreValid}
use Rattle.glk_dispatch.specs.Output.{array_code_at, echo_put}
use Rattle.glk_dispatch.specs.Reference.{refers_all}
use Rattle.glk_dispatch.specs.declared.events.EventCall.{EventCall}
use Rattle.glk_dispatch.specs.declared.events.EventCall.TheVariants as ev
use Rattle.glk_dispatch.specs.declared.events.TheConstants.{INPUT, MAX_INITIAL, NEWLINE}
use Rattle.glk_dispatch.specs.declared.glk.Glk.{Glk}
use Rattle.glk_dispatch.proofs.AskLemmas.{asked-changed, with-live}
use Rattle.glk_dispatch.proofs.KeptLemmas.{Keeps, Kept, Puts, Valid, begins-puts, between}
use Rattle.glk_dispatch.proofs.KeptLemmas.{kept-alone, kept-bind, kept-if, kept-read, kept-row}
use Rattle.glk_dispatch.proofs.KeptLemmas.{kept-step, laws, ok-coded, on, puts, row, row-needs}
use Rattle.glk_dispatch.proofs.KeptLemmas.{same-parts, self, stands, told, with-requests}
use Rattle.glk_dispatch.proofs.KeptStory.{kept-refers_all, kept-told, ok-written}
use Rattle.glk_dispatch.proofs.KeptOutput.{kept-echo_put}
use Rattle.glk_dispatch.proofs.KeptStreams.{prompted-valid}
use Rattle.glk_dispatch.proofs.ScreenLemmas.{screen-ready}

-- a live window has a number from 1 on that is below the next one
live-range : (g : Glk) (win : ℕ) → AreValid g → has_window g win ≡ true
    → (0 < win) × (win < 4294967295)
unfolding IsOrdered
live-range g win v live =
    let order = v.windows.ordered.1 in
    let above = ascends-above window_number g.windows.slots 0 g.windows.next win order live in
    let below = ascends-below window_number g.windows.slots 0 g.windows.next win order live in
    let most = v.next in
    (above, omega (arith, below, most))

-- the entry of a live window is there, or begins
begun-requests : (g : Glk) (win : ℕ) → AreValid g → has_window g win ≡ true
    → are_valid_inputs (request.with_window g.requests win) ≡ true
begun-requests g win v live =
    let r = live-range g win v live in laws.requests.begun g.requests win r.0 r.1 v.requests

words-more : (r : Result ℕ ℕ) (f : ℕ → Result (List ℕ) ℕ) (words xs : List ℕ) (n : ℕ)
    → (r >>= f) ≡ Ok xs
    → ((x : ℕ) → f x ≡ Ok xs → length xs ≡ length (words ++ x ∷ []) + n)
    → length xs ≡ length words + suc n
words-more (Ok x) f words xs n e k = let h = k x e in omega (arith, length-append {A = ℕ})
words-more (Err m) f words xs n e k = absurd cc

words-none : (words xs : List ℕ) → ◌≡◌ {A = Result (List ℕ) ℕ} (Ok words) (Ok xs)
    → length xs ≡ length words + 0
words-none words xs e = grind (arith, common_steps)

-- an array has as many words as it was read for
words-length : (n : ℕ) (m : MemoryMap) (at : ℕ) (words xs : List ℕ)
    → events.array_words n m at words ≡ Ok xs → length xs ≡ length words + n
unfolding events.array_words
words-length zero m at words xs e = words-none words xs e
words-length (suc n) m at words xs e =
    words-more (coded (read 4 m at))
    (λ x. events.array_words n m ((at + 4) % 2 ^ 32) (words ++ x ∷ [])) words xs n e
    (λ x h. words-length n m ((at + 4) % 2 ^ 32) (words ++ x ∷ []) xs h)

-- so it is for each list that is read
ok-words : (n : ℕ) (m : MemoryMap) (at : ℕ) (r : Result (List ℕ) ℕ)
    → events.array_words n m at [] ≡ r
    → IfOk r (λ xs. length xs ≡ n)
ok-words n m at (Ok xs) e = let h : length xs ≡ 0 + n = words-length n m at [] xs e in
    omega (arith, h)
ok-words n m at (Err f) e = tt

-- an input leaves valid requests
answered-valid : (i : Input) (ws : List WindowInput) → are_valid_inputs ws ≡ true
    → are_valid_inputs (delivery.requests_after_input ws i) ≡ true
answered-valid (input.Line win text key) ws e = laws.requests.over ws win e
answered-valid (input.Char win code) ws e = laws.requests.over ws win e
answered-valid (input.File name) ws e = e
answered-valid (input.Size cols rows) ws e = e

answered-asked : (i : Input) (g : Glk) → AreAsked g → AreAsked (events.request_over g i)
answered-asked (input.Line win text key) g v =
    asked-changed g request.request_ended win (λ w. refl) (λ w e. absurd cc) v
answered-asked (input.Char win code) g v =
    asked-changed g request.request_ended win (λ w. refl) (λ w e. absurd cc) v
answered-asked (input.File name) g v = v
answered-asked (input.Size cols rows) g v = v

-- ---- lines that are shown

kept-echoed : (b : GlkCall) (rs : List WindowInput) (cs : List ℕ) (g : Glk) (m : MemoryMap) (n : ℕ)
    → Puts b rs g m → Kept b (puts b rs) (events.echoed g m n cs)
kept-echoed b rs [] g m n k = k
kept-echoed b rs (x ∷ cs) g m n k =
    kept-bind b (puts b rs) (puts b rs) (echo_put g m n INPUT x) (λ p. events.echoed p.0 p.1 n cs)
    (kept-echo_put b rs g m n INPUT x k) (λ p h. kept-echoed b rs cs p.0 p.1 n h)

kept-echo_array : (b : GlkCall) (rs : List WindowInput) (count : ℕ) (u : Bool) (g : Glk)
    (m : MemoryMap) (n at : ℕ) → Puts b rs g m
    → Kept b (puts b rs) (events.echo_array count u g m n at)
unfolding events.echo_array
kept-echo_array b rs zero u g m n at k = k
kept-echo_array b rs (suc count) u g m n at k =
    kept-bind b (puts b rs) (puts b rs) (events.echo_item u g m n at)
    (λ p. events.echo_array count u p.0 p.1 n ((at + delivery.width u) % 2 ^ 32))
    (kept-read b (puts b rs) g (array_code_at u m at) (λ x. echo_put g m n INPUT x) k.keeps.parts
    (λ x. kept-echo_put b rs g m n INPUT x k))
    (λ p h. kept-echo_array b rs count u p.0 p.1 n ((at + delivery.width u) % 2 ^ 32) h)

-- a line, and a newline
kept-shown : (b : GlkCall) (rs : List WindowInput) (echo : Bool) (g : Glk) (m : MemoryMap) (n : ℕ)
    (r : Reached (Glk × MemoryMap)) → Puts b rs g m
    → Kept b (puts b rs) r
    → Kept b (puts b rs) (cond echo (r >>= (λ p. echo_put p.0 p.1 n INPUT NEWLINE)) (Ok (g, m)))
kept-shown b rs echo g m n r k h =
    kept-if b (puts b rs) echo _ _
    (λ e. kept-bind b (puts b rs) (puts b rs) r (λ p. echo_put p.0 p.1 n INPUT NEWLINE) h
    (λ p j. kept-echo_put b rs p.0 p.1 n INPUT NEWLINE j))
    (λ e. k)

kept-initial : (b : GlkCall) (rs : List WindowInput) (o : Option Request) (g : Glk) (m : MemoryMap)
    (win : ℕ) → Puts b rs g m
    → Kept b (puts b rs) (events.initial_echoed o g m win)
kept-initial b rs None g m win k = k
kept-initial b rs (Some (Char u)) g m win k = k
kept-initial b rs (Some (Line r)) g m win k =
    kept-shown b rs r.echo g m (events.own_stream g win)
    (events.echo_array r.init r.unicode g m (events.own_stream g win) r.buf) k
    (kept-echo_array b rs r.init r.unicode g m (events.own_stream g win) r.buf k)

kept-line_echoed : (b : GlkCall) (rs : List WindowInput) (o : Option Request) (g : Glk)
    (m : MemoryMap)
    (win : ℕ) (text : List ℕ) → Puts b rs g m
    → Kept b (puts b rs) (events.line_echoed o g m win text)
kept-line_echoed b rs None g m win text k = k
kept-line_echoed b rs (Some (Char u)) g m win text k = k
kept-line_echoed b rs (Some (Line r)) g m win text k =
    kept-shown b rs r.echo g m (events.own_stream g win)
    (events.echoed g m (events.own_stream g win) (delivery.taken_line r text)) k
    (kept-echoed b rs (delivery.taken_line r text) g m (events.own_stream g win) k)

pub kept-input_echoed : (b : GlkCall) (rs : List WindowInput) (i : Input) (g : Glk) (m : MemoryMap)
    → Puts b rs g m
    → Kept b (puts b rs) (events.input_echoed g m i)
kept-input_echoed b rs (input.Line win text key) g m k = kept-line_echoed b rs
    (request.window_request g.requests win) g m win text k
kept-input_echoed b rs (input.Char win code) g m k = k
kept-input_echoed b rs (input.File name) g m k = k
kept-input_echoed b rs (input.Size cols rows) g m k = k

-- ---- the rows

-- a change of the requests of a window
kept-asks : (s : GlkCall) (rs : List WindowInput) → (AreValid s.glk → are_valid_inputs rs ≡ true)
    → (AreAsked s.glk → AreAsked (record s.glk { requests = rs }))
    → Kept s (told s) (events.leaves_requests s.glk rs)
kept-asks s rs h asked =
    λ v. stands (record s.glk { requests = rs }) 0
    (with-requests s.glk rs v (h v.valid.parts) (asked v.valid.asked))

-- a live window's entry is there, and is changed
asked-live : (g : Glk) (f : WindowInput → WindowInput) (win : ℕ) → has_window g win ≡ true
    → ((w : WindowInput) → (f w).win ≡ w.win)
    → ((w : WindowInput) → is_some (f w).request ≡ true
    → (events.may_ask g win ≡ true) ⊎ (is_some w.request ≡ true))
    → AreAsked g
    → AreAsked (record g {
      requests = request.window_input_changed f (request.with_window g.requests win) win;
    })
asked-live g f win live same may v =
    rw (with-live g win v (v.listed win ∙ live)) (asked-changed g f win same may v)

some-line_ended : (o : Option Request) → is_some (request.line_ended o) ≡ true → is_some o ≡ true
some-line_ended None e = e
some-line_ended (Some r) e = refl

some-char_ended : (o : Option Request) → is_some (request.char_ended o) ≡ true → is_some o ≡ true
some-char_ended None e = e
some-char_ended (Some r) e = refl

kept-cancels_line : (s : GlkCall) (win event : ℕ)
    → Kept s (row s) (events.cancels_line s win event)
kept-cancels_line s win event =
    let asked = request.window_request s.glk.requests win in
    let rs = request.window_input_changed request.without_line s.glk.requests win in
    let g = record s.glk { requests = rs } in
    let r = events.initial_echoed asked g s.memory win in
    row-needs s (row s) (has_window s.glk win) 21 _
    (λ e. kept-told s (r >>=
    (λ p. refers_all (record s { glk = p.0; memory = p.1 }) event
    (events.event_words (request.cancelled asked win)))) 0
    (kept-bind s (puts s rs) (Keeps s) r
    (λ p. refers_all (record s { glk = p.0; memory = p.1 }) event
    (events.event_words (request.cancelled asked win)))
    (kept-initial s rs asked g s.memory win
    (begins-puts s g (λ v. with-requests s.glk rs v
    (laws.requests.line_ended s.glk.requests win v.valid.parts.requests)
    (asked-changed s.glk request.without_line win (λ w. refl)
    (λ w i. inr (some-line_ended w.request i)) v.valid.asked))))
    (λ p k. kept-refers_all s (record s { glk = p.0; memory = p.1 }) event
    (events.event_words (request.cancelled asked win)) k.keeps)))

pub kept-event_work : (k : EventCall) (s : GlkCall) (l : ℕ → ℕ)
    → Kept s (row s) (events.event_work k s l)
unfolding events.event_work
kept-event_work ev.Select s l = record {
  parts = λ v. record {
    valid = same-parts s.glk (record s.glk { event = l 0 }) refl refl refl refl refl v.valid;
    waits = v.rests.prompt;
  };
  map = (self s).map;
  stack = (self s).stack;
}
kept-event_work ev.SelectPoll s l =
    kept-told s (refers_all s (l 0) (0 ∷ 0 ∷ 0 ∷ 0 ∷ [])) 0
    (kept-refers_all s s (l 0) (0 ∷ 0 ∷ 0 ∷ 0 ∷ []) (self s))
kept-event_work (ev.RequestLine u) s l =
    kept-row s (events.line_requested u s.glk (l 0) (l 1) (l 2) (l 3))
    (row-needs s (told s) (has_window s.glk (l 0)) 21 _
    (λ e. row-needs s (told s) (events.may_ask s.glk (l 0)) 22 _
    (λ f. row-needs s (told s) (nat_le (l 3) (l 2) && nat_le (l 3) MAX_INITIAL) 22 _
    (λ h. kept-asks s _ (λ v.
    laws.requests.line (l 1) (l 2) (l 3) u
    (leb-true (l 3) (l 2) (and_parts (nat_le (l 3) (l 2)) (nat_le (l 3) MAX_INITIAL) h).0)
    (leb-true (l 3) 1024 (and_parts (nat_le (l 3) (l 2)) (nat_le (l 3) MAX_INITIAL) h).1)
    (request.with_window s.glk.requests (l 0)) (l 0) (begun-requests s.glk (l 0) v e))
    (asked-live s.glk (request.line_asked (l 1) (l 2) (l 3) u) (l 0) e (λ w. refl)
    (λ w i. inl f))))))
kept-event_work ev.CancelLine s l = kept-cancels_line s (l 0) (l 1)
kept-event_work (ev.RequestChar u) s l =
    kept-row s (events.char_requested u s.glk (l 0))
    (row-needs s (told s) (has_window s.glk (l 0)) 21 _
    (λ e. row-needs s (told s) (events.may_ask s.glk (l 0)) 22 _
    (λ f. kept-asks s _ (λ v. laws.requests.char u (request.with_window s.glk.requests (l 0)) (l 0)
    (begun-requests s.glk (l 0) v e))
    (asked-live s.glk (request.char_asked u) (l 0) e (λ w. refl) (λ w i. inl f)))))
kept-event_work ev.CancelChar s l =
    kept-row s (events.char_cancelled s.glk (l 0))
    (row-needs s (told s) (has_window s.glk (l 0)) 21 _
    (λ e. kept-asks s _ (λ v. laws.requests.char_ended s.glk.requests (l 0) v.requests)
    (asked-changed s.glk request.without_char (l 0) (λ w. refl)
    (λ w i. inr (some-char_ended w.request i)))))
kept-event_work ev.SetEcho s l =
    kept-row s (events.line_echo_set s.glk (l 0) (l 1))
    (row-needs s (told s) (has_window s.glk (l 0)) 21 _
    (λ e. kept-asks s _ (λ v. laws.requests.echo (not (l 1 == 0)) s.glk.requests (l 0) v.requests)
    (asked-changed s.glk (request.with_echo (not (l 1 == 0))) (l 0) (λ w. refl) (λ w i. inr i))))
kept-event_work ev.SetTerminators s l =
    kept-row s (events.terminators_set s.glk s.memory (l 0) (l 1) (l 2))
    (row-needs s (told s) (has_window s.glk (l 0)) 21 _
    (λ e. row-needs s (told s) (nat_le (l 2) 13) 22 _
    (λ f. kept-step s (λ xs. length xs ≡ l 2) (told s) s.glk
    (events.array_words (l 2) s.memory (l 1) []) _ (λ v. v)
    (ok-words (l 2) s.memory (l 1) _ refl)
    (λ list k. kept-asks s _ (λ v.
    (let few : l 2 ≤ 13 = leb-true (l 2) 13 f in
    laws.requests.keys list (omega (arith, k)) (request.with_window s.glk.requests (l 0)) (l 0)
    (begun-requests s.glk (l 0) v e)))
    (asked-live s.glk (request.with_keys list) (l 0) e (λ w. refl) (λ w i. inr i))))))

-- ---- an input that comes

abbrev leading : {A : Type 0} → MemoryMap → MemoryMap × A → Type 0
leading o p = KeepsMap o p.0

line-on : (o : MemoryMap) (u : Bool) (cs : List ℕ) (at : ℕ) (r : Result MemoryMap MemFault)
    → IfOk r (KeepsMap o)
    → ((n : MemoryMap) → KeepsMap o n
    → IfOk (delivery.line_written u n ((at + delivery.width u) % 2 ^ 32) cs) (KeepsMap o))
    → IfOk (◌>>=◌ r (λ n. delivery.line_written u n ((at + delivery.width u) % 2 ^ 32) cs))
    (KeepsMap o)
line-on o u cs at (Ok n) h f = f n h
line-on o u cs at (Err e) h f = tt

line-written : (o : MemoryMap) (u : Bool) (cs : List ℕ) (m : MemoryMap) (at : ℕ) → KeepsMap o m
    → IfOk (delivery.line_written u m at cs) (KeepsMap o)
line-written o u [] m at k = k
line-written o u (c ∷ cs) m at k =
    line-on o u cs at (written (delivery.width u) m at c) (ok-written o (delivery.width u) m at c k)
    (λ n h. line-written o u cs n ((at + delivery.width u) % 2 ^ 32) h)

line-event : (o : MemoryMap) (r : Result MemoryMap MemFault) (e : Event) → IfOk r (KeepsMap o)
    → IfOk (◌>>=◌ r (λ n. Ok (n, e))) (leading o)
line-event o (Ok n) e h = h
line-event o (Err f) e h = tt

line-delivered : (o : MemoryMap) (q : Option Request) (m : MemoryMap) (win : ℕ) (text : List ℕ)
    (key : ℕ) → KeepsMap o m
    → IfOk (delivery.line_delivered q m win text key) (leading o)
line-delivered o (Some (Line r)) m win text key k =
    line-event o (delivery.line_written r.unicode m r.buf (delivery.taken_line r text)) _
    (line-written o r.unicode (delivery.taken_line r text) m r.buf k)
line-delivered o (Some (Char u)) m win text key k = k
line-delivered o None m win text key k = k

ok-delivered : (o : MemoryMap) (ws : List WindowInput) (m : MemoryMap) (i : Input) → KeepsMap o m
    → IfOk (delivery.delivered ws m i) (leading o)
ok-delivered o ws m (input.Line win text key) k = line-delivered o
    (request.window_request ws win) m win text key k
ok-delivered o ws m (input.Char win code) k = k
ok-delivered o ws m (input.File name) k = k
ok-delivered o ws m (input.Size cols rows) k = k

kept-delivered : (b : GlkCall) (g : Glk) (m : MemoryMap) (i : Input)
    → Keeps b (glk_call g m b.stack)
    → Kept b (between b) (events.input_delivered g m i)
kept-delivered b g m i k =
    let over : Valid b (events.request_over g i) =
    λ v. let w = k.parts v in
    with-requests g (delivery.requests_after_input g.requests i) w
    (answered-valid i g.requests w.valid.parts.requests) (answered-asked i g w.valid.asked) in
    kept-step b (leading b.memory) (between b) (events.request_over g i)
    (coded (delivery.delivered g.requests m i)) (λ p. Ok (events.request_over g i, p.0, p.1)) over
    (ok-coded (leading b.memory) (delivery.delivered g.requests m i)
    (ok-delivered b.memory g.requests m i k.map))
    (λ p h. record { parts = over; map = h; stack = k.stack })

-- what was waited with is set back before an input comes
abbrev pub at_rest : GlkCall → GlkCall
at_rest s = record s { glk = wait_set_back s.glk }

pub kept-event_answered : (s : GlkCall) (i : Input)
    → Kept (at_rest s) (on (at_rest s)) (events.event_answered s i)
kept-event_answered s i =
    let b = at_rest s in
    let g = events.screen_after b.glk i in
    let shown = events.input_echoed g b.memory i in
    let given = shown >>= (λ p. events.input_delivered p.0 p.1 i) in
    let told_at = given >>=
    (λ p. refers_all (record b { glk = p.0; memory = p.1 }) s.glk.event (events.event_words p.2)) in
    kept-bind b (Keeps b) (on b) told_at (λ t. Ok (t, 0))
    (kept-bind b (between b) (Keeps b) given
    (λ p. refers_all (record b { glk = p.0; memory = p.1 }) s.glk.event (events.event_words p.2))
    (kept-bind b (puts b g.requests) (between b) shown (λ p. events.input_delivered p.0 p.1 i)
    (kept-input_echoed b g.requests i g b.memory (begins-puts b g (screen-ready i b.glk)))
    (λ p h. kept-delivered b p.0 p.1 i h.keeps))
    (λ p h. kept-refers_all b (record b { glk = p.0; memory = p.1 }) s.glk.event
    (events.event_words p.2) h))
    (λ t k. k)

pub kept-answered : (i : Input) (s : GlkCall)
    → Kept (at_rest s) (on (at_rest s)) (events.input_answered s i)
kept-answered (input.Line win text key) s = kept-event_answered s (input.Line win text key)
kept-answered (input.Char win code) s = kept-event_answered s (input.Char win code)
kept-answered (input.File name) s = kept-alone (at_rest s) (Done (prompted s.glk name))
    (prompted-valid s.glk name)
kept-answered (input.Size cols rows) s = kept-event_answered s (input.Size cols rows)
