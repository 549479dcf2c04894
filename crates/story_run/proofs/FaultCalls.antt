-- Every call of Glk is refused by numbers of faults, and so is an input that comes.
use Rattle.std.proofs.Common.{ℕ, zero, suc, ◌+◌, ◌-◌, ◌%◌, ◌^◌, ◌==◌, ◌||◌, ◌&&◌, not, min, nat_le}
use Rattle.std.proofs.Common.{Bool, List, [], ◌∷◌, ◌++◌, Option, Some, None, Ok, cond, refl}
use Rattle.std.proofs.Common.{slice_index}
use Rattle.vm_memory.specs.Access.{read, written}
use Rattle.vm_memory.specs.Chaining.{◌>>=◌}
use Rattle.vm_memory.specs.MemoryMap.{MemoryMap}
use Rattle.glk_windows.specs.Arranging as arranging
use Rattle.glk_windows.specs.Tree as tree
use Rattle.glk_input.specs.Delivery as delivery
use Rattle.glk_input.specs.Request as request
use Rattle.story_text.specs.declared.input.Input.{Input}
use Rattle.story_text.specs.declared.input.Input.TheVariants as input
use Rattle.glk_input.specs.declared.request.Request.{Request}
use Rattle.glk_input.specs.declared.request.Request.TheVariants.{Line, Char}
use Rattle.glk_dispatch.specs.Answer.{GlkCall, Reached}
use Rattle.glk_dispatch.specs.Call.{call_work, called_with, selector_called}
use Rattle.glk_dispatch.specs.Case as cases
use Rattle.glk_dispatch.specs.Events as events
use Rattle.glk_dispatch.specs.Gestalt as base
use Rattle.glk_dispatch.specs.Glk.{character_charged, has_window, is_stream, written_to}
use Rattle.glk_dispatch.specs.Output as out
use Rattle.glk_dispatch.specs.Selector.{call_of}
use Rattle.glk_dispatch.specs.Style as styles
use Rattle.glk_dispatch.specs.Windows as windows
use Rattle.glk_dispatch.specs.declared.base.BaseCall.{BaseCall}
use Rattle.glk_dispatch.specs.declared.base.BaseCall.TheVariants as b
use Rattle.glk_dispatch.specs.declared.case.CaseCall.{CaseCall}
use Rattle.glk_dispatch.specs.declared.case.CaseCall.TheVariants as c
use Rattle.glk_dispatch.specs.declared.events.EventCall.{EventCall}
use Rattle.glk_dispatch.specs.declared.events.EventCall.TheVariants as ev
use Rattle.glk_dispatch.specs.declared.glk.Glk.{Glk}
use Rattle.glk_dispatch.specs.declared.selector.Call as call
use Rattle.glk_dispatch.specs.declared.selector.Call.TheVariants.{Base, Window, Stream, FileRef}
use Rattle.glk_dispatch.specs.declared.selector.Call.TheVariants.{Output, Style, Case as InCase}
use Rattle.glk_dispatch.specs.declared.selector.Call.TheVariants.{Event, Nothing}
use Rattle.glk_dispatch.specs.declared.style.StyleCall.{StyleCall}
use Rattle.glk_dispatch.specs.declared.style.StyleCall.TheVariants as sty
use Rattle.glk_dispatch.specs.declared.windows.WindowCall.{WindowCall}
use Rattle.glk_dispatch.specs.declared.windows.WindowCall.TheVariants as to
use Rattle.story_run.proofs.FaultLemmas.{Numbered, fails-bind, fails-by, fails-err, fails-if}
use Rattle.story_run.proofs.FaultLemmas.{fails-ok, known, of-memory}
use Rattle.story_run.proofs.FaultStreams.{Called, current-fails, glk-alone, in-call, needs-live}
use Rattle.story_run.proofs.FaultStreams.{of-arguments, of-streams, refers, refers-all}
use Rattle.story_run.proofs.FaultStreams.{streams-left, styled-fails, takes-value, told}
use Rattle.story_run.proofs.FaultTexts.{echo_put-called, fileref-called, output-called}
use Rattle.story_run.proofs.FaultTexts.{stream-called}

-- ---- styles, case and capabilities

sets-called : (s : GlkCall) (n style : ℕ) → Called (styles.sets s n style)
sets-called s n style =
    fails-bind {r = styles.glk_styled s.glk n style}
    (fails-if (n == 0) fails-ok (streams-left s.glk (styled-fails s.glk.streams n style)))
    (λ g. fails-ok)

style-called : (k : StyleCall) (s : GlkCall) (l : ℕ → ℕ) → Called (styles.style_work k s l)
unfolding styles.style_work
style-called sty.Set s l = sets-called s s.glk.streams.current (l 0)
style-called sty.SetStream s l =
    needs-live s.glk (is_stream s.glk (l 0)) (sets-called s (l 0) (l 1))
style-called sty.HintSet s l = fails-ok
style-called sty.HintClear s l = fails-ok
style-called sty.Distinguish s l = needs-live s.glk (has_window s.glk (l 0)) fails-ok
style-called sty.Measure s l = needs-live s.glk (has_window s.glk (l 0)) fails-ok

word-called : (k : _) (g : Glk) (m : MemoryMap) (at : ℕ) → Called (cases.word_cased k g m at)
word-called k g m at =
    fails-bind (fails-bind (in-call g (of-memory (read 4 m at)))
    (λ x. in-call (character_charged g) (of-memory (written 4 m at (cases.in_case k x)))))
    (λ n. fails-ok)

words-called : (count : ℕ) (k : _) (g : Glk) (m : MemoryMap) (at : ℕ)
    → Called (cases.words_cased count k g m at)
unfolding cases.words_cased
words-called zero k g m at = fails-ok
words-called (suc count) k g m at =
    fails-bind (word-called k g m at) (λ p. words-called count k p.0 p.1 ((at + 4) % 2 ^ 32))

cases-called : {r : Reached (Glk × MemoryMap)} (s : GlkCall) (len n : ℕ)
    → Called r → Called (cases.cases s len n r)
cases-called s len n h =
    fails-bind (fails-bind (in-call {r = cases.within_array len n} s.glk
    (fails-if (nat_le n len) fails-ok (fails-by refl))) (λ x. h))
    (λ p. fails-ok)

case-called : (k : CaseCall) (s : GlkCall) (l : ℕ → ℕ) → Called (cases.case_work k s l)
unfolding cases.case_work
case-called c.CharToLower s l = fails-ok
case-called c.CharToUpper s l = fails-ok
case-called c.BufferToLower s l =
    cases-called s (l 1) (l 2) (words-called (l 2) _ s.glk s.memory (l 0))
case-called c.BufferToUpper s l =
    cases-called s (l 1) (l 2) (words-called (l 2) _ s.glk s.memory (l 0))
case-called c.BufferToTitle s l =
    cases-called s (l 1) (l 2)
    (fails-bind (words-called (min (l 2) 1) _ s.glk s.memory (l 0))
    (λ p. words-called (cond (not (l 3 == 0)) (l 2 - 1) 0) _ p.0 p.1 ((l 0 + 4) % 2 ^ 32)))

base-called : (k : BaseCall) (s : GlkCall) (l : ℕ → ℕ) → Called (base.base_work k s l)
unfolding base.base_work
base-called b.Exit s l = fails-ok
base-called b.SetInterruptHandler s l = fails-ok
base-called b.Tick s l = fails-ok
base-called b.Gestalt s l = fails-ok
base-called b.GestaltExt s l =
    told _
    (fails-if (l 0 == 3 && not (l 3 == 0))
    (fails-if (l 2 == 0) fails-ok
    (fails-bind (in-call s.glk (of-memory (written 4 s.memory (l 2) 1))) (λ m. fails-ok)))
    fails-ok)

-- ---- windows

of-window : (g : Glk) (win value : ℕ) → Numbered (windows.told_of_window g win value)
of-window g win value = fails-if (has_window g win) fails-ok (fails-by refl)

tells-called : (s : GlkCall) (win value : ℕ) → Called (windows.tells_of_window s win value)
tells-called s win value =
    fails-bind (in-call s.glk (of-window s.glk win value)) (λ x. fails-ok)

window-called : (k : WindowCall) (s : GlkCall) (l : ℕ → ℕ) → Called (windows.window_work k s l)
unfolding windows.window_work
window-called to.Iterate s l =
    needs-live s.glk (l 0 == 0 || has_window s.glk (l 0)) (told _ (refers s (l 1) _))
window-called to.GetRock s l = tells-called s (l 0) _
window-called to.GetRoot s l = fails-ok
window-called to.Open s l =
    fails-bind (glk-alone s (needs-live s.glk (l 0 == 0 || has_window s.glk (l 0))
    (fails-if (l 0 == 0) fails-ok (takes-value s.glk (arranging.is_method (l 1)) fails-ok))))
    (λ p. fails-ok)
window-called to.Close s l =
    needs-live s.glk (has_window s.glk (l 0))
    (told 0 (refers-all (record s { glk = windows.glk_without_window s.glk (l 0) }) (l 1)
    (0 ∷ written_to s.glk (tree.stream_of (windows.slots s) (l 0)) ∷ [])))
window-called to.GetSize s l =
    needs-live s.glk (has_window s.glk (l 0))
    (told 0 (fails-bind (refers s (l 1) _) (λ t. refers t (l 2) _)))
window-called to.SetArrangement s l =
    glk-alone s (needs-live s.glk (has_window s.glk (l 0))
    (takes-value s.glk (windows.is_pair s.glk (l 0))
    (takes-value s.glk _ (needs-live s.glk (l 3 == 0 || has_window s.glk (l 3))
    (takes-value s.glk _ fails-ok)))))
window-called to.GetArrangement s l =
    needs-live s.glk (has_window s.glk (l 0)) (takes-value s.glk (windows.is_pair s.glk (l 0))
    (told 0 (fails-bind (fails-bind (refers s (l 1) _) (λ t. refers t (l 2) _))
    (λ t. refers t (l 3) _))))
window-called to.GetType s l = tells-called s (l 0) _
window-called to.GetParent s l = tells-called s (l 0) _
window-called to.GetSibling s l = tells-called s (l 0) _
window-called to.Clear s l = glk-alone s (needs-live s.glk (has_window s.glk (l 0)) fails-ok)
window-called to.MoveCursor s l =
    glk-alone s (needs-live s.glk (has_window s.glk (l 0))
    (takes-value s.glk (windows.is_grid s.glk (l 0)) fails-ok))
window-called to.GetStream s l = tells-called s (l 0) _
window-called to.SetEchoStream s l =
    glk-alone s (needs-live s.glk (has_window s.glk (l 0))
    (needs-live s.glk (l 1 == 0 || is_stream s.glk (l 1))
    (takes-value s.glk (not (windows.is_loop s.glk (l 0) (l 1))) fails-ok)))
window-called to.GetEchoStream s l = tells-called s (l 0) _
window-called to.SetWindow s l =
    glk-alone s (needs-live s.glk (l 0 == 0 || has_window s.glk (l 0))
    (fails-bind (in-call s.glk (of-streams
    (current-fails s.glk.streams (tree.stream_of s.glk.windows.slots (l 0)))))
    (λ t. fails-ok)))

-- ---- events and input

echoed-called : (cs : List ℕ) (g : Glk) (m : MemoryMap) (n : ℕ) → Called (events.echoed g m n cs)
echoed-called [] g m n = fails-ok
echoed-called (x ∷ cs) g m n =
    fails-bind (echo_put-called g m n _ x) (λ p. echoed-called cs p.0 p.1 n)

echo_array-called : (count : ℕ) (u : Bool) (g : Glk) (m : MemoryMap) (n at : ℕ)
    → Called (events.echo_array count u g m n at)
unfolding events.echo_array
echo_array-called zero u g m n at = fails-ok
echo_array-called (suc count) u g m n at =
    fails-bind {r = events.echo_item u g m n at}
    (fails-bind (in-call g (of-memory (read (delivery.width u) m at)))
    (λ x. echo_put-called g m n _ x))
    (λ p. echo_array-called count u p.0 p.1 n ((at + delivery.width u) % 2 ^ 32))

-- a line, and a newline in this style
shown-called : {r : Reached (Glk × MemoryMap)} (echo : Bool) (g : Glk) (m : MemoryMap)
    (n style newline : ℕ) → Called r
    → Called (cond echo (r >>= (λ p. out.echo_put p.0 p.1 n style newline)) (Ok (g, m)))
shown-called echo g m n style newline h =
    fails-if echo (fails-bind h (λ p. echo_put-called p.0 p.1 n style newline)) fails-ok

initial-called : (o : Option Request) (g : Glk) (m : MemoryMap) (win : ℕ)
    → Called (events.initial_echoed o g m win)
initial-called None g m win = fails-ok
initial-called (Some (Char u)) g m win = fails-ok
initial-called (Some (Line r)) g m win =
    shown-called r.echo g m (events.own_stream g win) _ _
    (echo_array-called r.init r.unicode g m (events.own_stream g win) r.buf)

line-called : (o : Option Request) (g : Glk) (m : MemoryMap) (win : ℕ) (text : List ℕ)
    → Called (events.line_echoed o g m win text)
line-called None g m win text = fails-ok
line-called (Some (Char u)) g m win text = fails-ok
line-called (Some (Line r)) g m win text =
    shown-called r.echo g m (events.own_stream g win) _ _
    (echoed-called (delivery.taken_line r text) g m (events.own_stream g win))

input-called : (i : Input) (g : Glk) (m : MemoryMap) → Called (events.input_echoed g m i)
input-called (input.Line win text key) g m =
    line-called (request.window_request g.requests win) g m win text
input-called (input.Char win code) g m = fails-ok
input-called (input.File name) g m = fails-ok
input-called (input.Size cols rows) g m = fails-ok

of-array : (count : ℕ) (m : MemoryMap) (at : ℕ) (words : List ℕ)
    → Numbered (events.array_words count m at words)
unfolding events.array_words
of-array zero m at words = fails-ok
of-array (suc count) m at words =
    fails-bind (of-memory (read 4 m at))
    (λ x. of-array count m ((at + 4) % 2 ^ 32) (words ++ x ∷ []))

event-called : (k : EventCall) (s : GlkCall) (l : ℕ → ℕ) → Called (events.event_work k s l)
unfolding events.event_work
event-called ev.Select s l = fails-ok
event-called ev.SelectPoll s l = told 0 (refers-all s (l 0) (0 ∷ 0 ∷ 0 ∷ 0 ∷ []))
event-called (ev.RequestLine u) s l =
    glk-alone s (needs-live s.glk (has_window s.glk (l 0))
    (takes-value s.glk (events.may_ask s.glk (l 0))
    (takes-value s.glk _ fails-ok)))
event-called ev.CancelLine s l =
    needs-live s.glk (has_window s.glk (l 0))
    (told 0 (fails-bind (initial-called (request.window_request s.glk.requests (l 0)) _ _ (l 0))
    (λ p. refers-all (record s { glk = p.0; memory = p.1 }) (l 1)
    (events.event_words (request.cancelled (request.window_request s.glk.requests (l 0)) (l 0))))))
event-called (ev.RequestChar u) s l =
    glk-alone s (needs-live s.glk (has_window s.glk (l 0))
    (takes-value s.glk (events.may_ask s.glk (l 0)) fails-ok))
event-called ev.CancelChar s l = glk-alone s (needs-live s.glk (has_window s.glk (l 0)) fails-ok)
event-called ev.SetEcho s l = glk-alone s (needs-live s.glk (has_window s.glk (l 0)) fails-ok)
event-called ev.SetTerminators s l =
    glk-alone s (needs-live s.glk (has_window s.glk (l 0))
    (takes-value s.glk (nat_le (l 2) 13)
    (fails-bind (in-call s.glk (of-array (l 2) s.memory (l 1) [])) (λ xs. fails-ok))))

-- ---- every call

work-called : (k : call.Call) (s : GlkCall) (l : ℕ → ℕ) → Called (call_work k s l)
work-called (Base k) s l = base-called k s l
work-called (Window k) s l = window-called k s l
work-called (Stream k) s l = stream-called k s l
work-called (FileRef k) s l = fileref-called k s l
work-called (Output k) s l = output-called k s l
work-called (Style k) s l = style-called k s l
work-called (InCase k) s l = case-called k s l
work-called (Event k) s l = event-called k s l
work-called Nothing s l = fails-ok

with-called : (o : Option (call.Call × Option ℕ)) (s : GlkCall) (given : ℕ)
    → Called (called_with o s given)
with-called None s given = fails-err (known refl)
with-called (Some p) s given =
    fails-bind (in-call s.glk (of-arguments s.stack p.1 given))
    (λ t. work-called p.0 (record s { stack = t.0 }) (slice_index t.1))

pub selector-called : (s : GlkCall) (selector given : ℕ)
    → Called (selector_called s selector given)
selector-called s selector given = with-called (call_of selector) s given

-- ---- every input

event_answered-called : (s : GlkCall) (i : Input) → Called (events.event_answered s i)
event_answered-called s i =
    fails-bind (fails-bind (fails-bind
    (input-called i _ s.memory)
    (λ p. fails-bind (in-call (events.request_over p.0 i)
    (of-memory (delivery.delivered p.0.requests p.1 i)))
    (λ q. fails-ok)))
    (λ p. refers-all _ s.glk.event (events.event_words p.2)))
    (λ t. fails-ok)

pub answered-called : (i : Input) (s : GlkCall) → Called (events.input_answered s i)
answered-called (input.Line win text key) s = event_answered-called s (input.Line win text key)
answered-called (input.Char win code) s = event_answered-called s (input.Char win code)
answered-called (input.File name) s = fails-ok
answered-called (input.Size cols rows) s = event_answered-called s (input.Size cols rows)
