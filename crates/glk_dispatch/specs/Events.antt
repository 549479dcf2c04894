-- Events and input (Glk 0.7.5, "Events", "Line Input Events", "Character Input Events", "Window
-- Arrangement Events").
use Rattle.std.specs.Prelude.{ℕ, zero, suc, ◌+◌, ◌%◌, ◌^◌, ◌==◌, ◌||◌, ◌&&◌, not, nat_le, Bool}
use Rattle.std.specs.Prelude.{true, if◌then◌else◌, List, [], ◌∷◌, ◌++◌, Option, Some, None, Result}
use Rattle.std.specs.Prelude.{Ok}
use Rattle.vm_memory.specs.Chaining.{◌>>=◌}
use Rattle.vm_memory.specs.MemoryMap.{MemoryMap}
use Rattle.vm_memory.specs.Access.{read}
use Rattle.vm_memory.specs.Fault.{coded}
use Rattle.glk_windows.specs.Reading as reading
use Rattle.glk_windows.specs.Tree.{stream_of}
use Rattle.glk_input.specs.Request as request
use Rattle.glk_input.specs.Delivery as delivery
use Rattle.glk_input.specs.declared.event.Event.{Event}
use Rattle.story_text.specs.declared.input.Input.{Input}
use Rattle.story_text.specs.declared.input.Input.TheVariants as input
use Rattle.glk_input.specs.declared.request.LineRequest.{LineRequest}
use Rattle.glk_input.specs.declared.request.Request.{Request}
use Rattle.glk_input.specs.declared.request.WindowInput.{WindowInput}
use Rattle.glk_input.specs.declared.request.Request.TheVariants.{Line, Char}
use Rattle.glk_dispatch.specs.Answer.{GlkCall, Done, Reached, CallRule, over_glk_alone, within}
use Rattle.glk_dispatch.specs.FileRefs.{prompted}
use Rattle.glk_dispatch.specs.Glk.{screen_sized, wait_set_back, takes, window}
use Rattle.glk_dispatch.specs.Output.{array_code_at, echo_put}
use Rattle.glk_dispatch.specs.Reference.{gives, refers_all}
use Rattle.glk_dispatch.specs.declared.called.Called.{Called}
use Rattle.glk_dispatch.specs.declared.called.Called.TheVariants.{Value, Wait}
use Rattle.glk_dispatch.specs.declared.glk.Glk.{Glk}
use Rattle.glk_dispatch.specs.declared.events.EventCall.{EventCall}
use Rattle.glk_dispatch.specs.declared.events.EventCall.TheVariants.{Select, SelectPoll}
use Rattle.glk_dispatch.specs.declared.events.EventCall.TheVariants.{RequestLine, CancelLine}
use Rattle.glk_dispatch.specs.declared.events.EventCall.TheVariants.{RequestChar, CancelChar}
use Rattle.glk_dispatch.specs.declared.events.EventCall.TheVariants.{SetEcho, SetTerminators}
use Rattle.glk_dispatch.specs.declared.events.TheConstants.{INPUT, MAX_INITIAL, NEWLINE}

-- the words of an event: type, window, val1, val2
abbrev pub event_words : Event → List ℕ
event_words e = e.kind ∷ e.win ∷ e.val1 ∷ e.val2 ∷ []

-- the call leaves these requests and answers 0
abbrev pub leaves_requests : Glk → List WindowInput → Reached (Glk × Called)
leaves_requests g requests = Ok (record g { requests = requests }, Value 0)

-- glk_select &event: the turn ends, and the event comes with the next input
abbrev pub selects : GlkCall → ℕ → CallRule Called
selects s event = Ok (record s { glk = record s.glk { event = event } }, Wait)

-- a buffer or a grid
abbrev pub may_ask : Glk → ℕ → Bool
may_ask g win =
    reading.window_kind g.windows.slots win == 3 || reading.window_kind g.windows.slots win == 4

-- glk_request_line_event win, buf, max, init: ignored where a request is there
abbrev pub line_requested : Bool → Glk → ℕ → ℕ → ℕ → ℕ → Reached (Glk × Called)
line_requested unicode g win buf max init =
    window g win (takes g (may_ask g win) (takes g (nat_le init max && nat_le init MAX_INITIAL)
    (leaves_requests g (request.window_input_changed (request.line_asked buf max init unicode)
    (request.with_window g.requests win) win))))

-- glk_request_char_event win
abbrev pub char_requested : Bool → Glk → ℕ → Reached (Glk × Called)
char_requested unicode g win =
    window g win (takes g (may_ask g win)
    (leaves_requests g (request.window_input_changed (request.char_asked unicode)
    (request.with_window g.requests win) win)))

-- glk_cancel_char_event win
abbrev pub char_cancelled : Glk → ℕ → Reached (Glk × Called)
char_cancelled g win =
    window g win
    (leaves_requests g (request.window_input_changed request.without_char g.requests win))

-- glk_set_echo_line_event win, val
abbrev pub line_echo_set : Glk → ℕ → ℕ → Reached (Glk × Called)
line_echo_set g win val =
    window g win (leaves_requests g
    (request.window_input_changed (request.with_echo (not (val == 0))) g.requests win))

-- a window shows characters in the style of input
abbrev pub echoed : Glk → MemoryMap → ℕ → List ℕ → Reached (Glk × MemoryMap)
echoed g m n [] = Ok (g, m)
echoed g m n (c ∷ cs) = echo_put g m n INPUT c >>= (λ p. echoed p.0 p.1 n cs)

-- the same of characters of an array
abbrev pub echo_item : Bool → Glk → MemoryMap → ℕ → ℕ → Reached (Glk × MemoryMap)
echo_item unicode g m n at =
    within g (array_code_at unicode m at) >>= (λ c. echo_put g m n INPUT c)

unfoldable pub echo_array : ℕ → Bool → Glk → MemoryMap → ℕ → ℕ
    → Reached (Glk × MemoryMap)
echo_array zero unicode g m n at = Ok (g, m)
echo_array (suc count) unicode g m n at =
    echo_item unicode g m n at
    >>= (λ p. echo_array count unicode p.0 p.1 n ((at + delivery.width unicode) % 2 ^ 32))

-- the window's own stream
abbrev pub own_stream : Glk → ℕ → ℕ
own_stream g win = stream_of g.windows.slots win

-- a window shows what a line began with, and a newline, unless the request has no echo
abbrev pub line_begun : LineRequest → Glk → MemoryMap → ℕ → Reached (Glk × MemoryMap)
line_begun r g m win =
    if r.echo
    then echo_array r.init r.unicode g m (own_stream g win) r.buf
    >>= (λ p. echo_put p.0 p.1 (own_stream g win) INPUT NEWLINE)
    else Ok (g, m)

-- the same of a line that is cancelled
abbrev pub initial_echoed : Option Request → Glk → MemoryMap → ℕ
    → Reached (Glk × MemoryMap)
initial_echoed None g m win = Ok (g, m)
initial_echoed (Some (Char unicode)) g m win = Ok (g, m)
initial_echoed (Some (Line r)) g m win = line_begun r g m win

-- glk_cancel_line_event win, &event
abbrev pub cancels_line : GlkCall → ℕ → ℕ → CallRule Called
cancels_line s win event =
    let asked = request.window_request s.glk.requests win in
    let g =
    record s.glk {
      requests = request.window_input_changed request.without_line s.glk.requests
          win;
    } in
    window s.glk win (initial_echoed asked g s.memory win
    >>= (λ p. refers_all (record s { glk = p.0; memory = p.1 }) event
    (event_words (request.cancelled asked win)))
    >>= gives 0)

-- the words of an array
unfoldable pub array_words : ℕ → MemoryMap → ℕ → List ℕ → Result (List ℕ) ℕ
array_words zero m at words = Ok words
array_words (suc count) m at words =
    coded (read 4 m at) >>= (λ x. array_words count m ((at + 4) % 2 ^ 32) (words ++ x ∷ []))

-- glk_set_terminators_line_event win, keys, count: at most 13
abbrev pub terminators_set : Glk → MemoryMap → ℕ → ℕ → ℕ → Reached (Glk × Called)
terminators_set g m win keys count =
    window g win (takes g (nat_le count 13)
    (within g (array_words count m keys [])
    >>= (λ list. leaves_requests g (request.window_input_changed (request.with_keys list)
    (request.with_window g.requests win) win))))

unfoldable pub event_work : EventCall → GlkCall → (ℕ → ℕ) → CallRule Called
event_work Select s l = selects s (l 0)
event_work SelectPoll s l = refers_all s (l 0) (0 ∷ 0 ∷ 0 ∷ 0 ∷ []) >>= gives 0
event_work (RequestLine unicode) s l =
    over_glk_alone s (line_requested unicode s.glk (l 0) (l 1) (l 2) (l 3))
event_work CancelLine s l = cancels_line s (l 0) (l 1)
event_work (RequestChar unicode) s l = over_glk_alone s (char_requested unicode s.glk (l 0))
event_work CancelChar s l = over_glk_alone s (char_cancelled s.glk (l 0))
event_work SetEcho s l = over_glk_alone s (line_echo_set s.glk (l 0) (l 1))
event_work SetTerminators s l = over_glk_alone s (terminators_set s.glk s.memory (l 0) (l 1) (l 2))

-- a line that comes: the window shows it and a newline, unless the request has no echo
abbrev pub line_shown : LineRequest → Glk → MemoryMap → ℕ → List ℕ
    → Reached (Glk × MemoryMap)
line_shown r g m win text =
    if r.echo
    then echoed g m (own_stream g win) (delivery.taken_line r text)
    >>= (λ p. echo_put p.0 p.1 (own_stream g win) INPUT NEWLINE)
    else Ok (g, m)

abbrev pub line_echoed : Option Request → Glk → MemoryMap → ℕ → List ℕ
    → Reached (Glk × MemoryMap)
line_echoed None g m win text = Ok (g, m)
line_echoed (Some (Char unicode)) g m win text = Ok (g, m)
line_echoed (Some (Line r)) g m win text = line_shown r g m win text

-- the screen has the size that an input tells
abbrev pub screen_after : Glk → Input → Glk
screen_after g (input.Line win text key) = g
screen_after g (input.Char win code) = g
screen_after g (input.File name) = g
screen_after g (input.Size cols rows) = screen_sized g cols rows

abbrev pub input_echoed : Glk → MemoryMap → Input → Reached (Glk × MemoryMap)
input_echoed g m (input.Line win text key) =
    line_echoed (request.window_request g.requests win) g m win text
input_echoed g m (input.Char win code) = Ok (g, m)
input_echoed g m (input.File name) = Ok (g, m)
input_echoed g m (input.Size cols rows) = Ok (g, m)

-- an input that a call may wait for: what a window asks for, the name of a file, or a size of the
-- screen
abbrev pub is_awaited : List WindowInput → Input → Bool
is_awaited ws (input.Line win text key) = delivery.wants ws (input.Line win text key)
is_awaited ws (input.Char win code) = delivery.wants ws (input.Char win code)
is_awaited ws (input.File name) = true
is_awaited ws (input.Size cols rows) = delivery.wants ws (input.Size cols rows)

-- the input goes to its request
abbrev pub request_over : Glk → Input → Glk
request_over g i = record g { requests = delivery.requests_after_input g.requests i }

abbrev pub input_delivered : Glk → MemoryMap → Input → Reached (Glk × MemoryMap × Event)
input_delivered g m i =
    within (request_over g i) (coded (delivery.delivered g.requests m i))
    >>= (λ p. Ok (request_over g i, p.0, p.1))

-- what was waited with is set back first; the screen has the size that the input tells; the input
-- is shown, delivered, and its event told where glk_select waited for it; that call answers 0
abbrev pub event_answered : GlkCall → Input → CallRule ℕ
event_answered s i =
    input_echoed (screen_after (wait_set_back s.glk) i) s.memory i
    >>= (λ p. input_delivered p.0 p.1 i)
    >>= (λ p. refers_all (record s { glk = p.0; memory = p.1 }) s.glk.event (event_words p.2))
    >>= (λ t. Ok (t, 0))

-- what an input that is waited for does, and the answer of the call that waited
abbrev pub input_answered : GlkCall → Input → CallRule ℕ
input_answered s (input.Line win text key) = event_answered s (input.Line win text key)
input_answered s (input.Char win code) = event_answered s (input.Char win code)
input_answered s (input.File name) = over_glk_alone s (Done (prompted s.glk name))
input_answered s (input.Size cols rows) = event_answered s (input.Size cols rows)
