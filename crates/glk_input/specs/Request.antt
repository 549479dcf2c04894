-- What windows ask for (Glk 0.7.5, "Line Input Events", "Character Input Events").
use Rattle.std.specs.Prelude.{ℕ, ◌+◌, ◌==◌, ◌&&◌, nat_lt, Bool, true, if◌then◌else◌, is_some, List}
use Rattle.std.specs.Prelude.{[], ◌∷◌, filter, not, Option, Some, None}
use Rattle.std.specs.List.{insert}
use Rattle.glk_numbers.specs.Numbered.{changed_at, has}
use Rattle.glk_input.specs.declared.event.Event.{Event}
use Rattle.glk_input.specs.declared.requests.Change.{Change}
use Rattle.glk_input.specs.declared.requests.Change.TheVariants.{AskLine, AskChar, EndLine}
use Rattle.glk_input.specs.declared.requests.Change.TheVariants.{EndChar, End, Echo, Terminators}
use Rattle.glk_input.specs.declared.request.Request.{Request}
use Rattle.glk_input.specs.declared.request.Request.TheVariants.{Line, Char}
use Rattle.glk_input.specs.declared.request.WindowInput.{WindowInput}

-- a window without a request: lines will echo, and end by the return key alone
abbrev pub window_without_request : ℕ → WindowInput
window_without_request win = record { win = win; echo = true; keys = []; request = None }

abbrev pub input_window_number : WindowInput → ℕ
input_window_number w = w.win

-- how many windows at the front have lower numbers
unfoldable pub count_below : List WindowInput → ℕ → ℕ
count_below [] win = 0
count_below (w ∷ ws) win = if nat_lt w.win win then count_below ws win + 1 else 0

-- with this window, which has its place behind those of lower numbers
abbrev pub with_window : List WindowInput → ℕ → List WindowInput
with_window ws win =
    if has input_window_number ws win then ws
    else insert ws (count_below ws win) (window_without_request win)

abbrev pub without_window : List WindowInput → ℕ → List WindowInput
without_window ws win = filter (λ w. not (w.win == win)) ws

-- this window changed, where it is there
abbrev pub window_input_changed : (WindowInput → WindowInput) → List WindowInput → ℕ
    → List WindowInput
window_input_changed f ws win = changed_at input_window_number f ws win

-- what the window asks for
abbrev pub window_request : List WindowInput → ℕ → Option Request
window_request [] win = None
window_request (w ∷ ws) win = if w.win == win then w.request else window_request ws win

-- a request beside one that is there is ignored
abbrev pub asked : Option Request → Request → Option Request
asked (Some there) new = Some there
asked None new = Some new

-- a line: the window's echo and terminators of now are the request's
abbrev pub line_asked : ℕ → ℕ → ℕ → Bool → WindowInput → WindowInput
line_asked buf max init unicode w = record w {
  request = asked w.request (Line (record {
    buf = buf;
    max = max;
    init = init;
    unicode = unicode;
    echo = w.echo;
    keys = w.keys;
  }));
}

-- a character
abbrev pub char_asked : Bool → WindowInput → WindowInput
char_asked unicode w = record w { request = asked w.request (Char unicode) }

abbrev pub with_echo : Bool → WindowInput → WindowInput
with_echo on w = record w { echo = on }

abbrev pub with_keys : List ℕ → WindowInput → WindowInput
with_keys keys w = record w { keys = keys }

abbrev pub request_ended : WindowInput → WindowInput
request_ended w = record w { request = None }

-- without a request for a line, or for a character
abbrev pub line_ended : Option Request → Option Request
line_ended (Some (Line r)) = None
line_ended (Some (Char unicode)) = Some (Char unicode)
line_ended None = None

abbrev pub char_ended : Option Request → Option Request
char_ended (Some (Line r)) = Some (Line r)
char_ended (Some (Char unicode)) = None
char_ended None = None

abbrev pub without_line : WindowInput → WindowInput
without_line w = record w { request = line_ended w.request }

abbrev pub without_char : WindowInput → WindowInput
without_char w = record w { request = char_ended w.request }

-- what each change does
abbrev pub changed_by : Change → WindowInput → WindowInput
changed_by (AskLine buf max init unicode) w = line_asked buf max init unicode w
changed_by (AskChar unicode) w = char_asked unicode w
changed_by EndLine w = without_line w
changed_by EndChar w = without_char w
changed_by End w = request_ended w
changed_by (Echo on) w = with_echo on w
changed_by (Terminators keys) w = with_keys keys w

-- nothing happened
abbrev pub no_event : Event
no_event = record { kind = 0; win = 0; val1 = 0; val2 = 0 }

-- a line of so many characters came, ended by this key, 0 for the return key
abbrev pub line_event : ℕ → ℕ → ℕ → Event
line_event win count key = record { kind = 3; win = win; val1 = count; val2 = key }

-- a character came
abbrev pub char_event : ℕ → ℕ → Event
char_event win code = record { kind = 2; win = win; val1 = code; val2 = 0 }

-- the windows have new sizes, all of them
abbrev pub arrange_event : Event
arrange_event = record { kind = 5; win = 0; val1 = 0; val2 = 0 }

-- a request that is cancelled: the line with which it began, or nothing where there is none
abbrev pub cancelled : Option Request → ℕ → Event
cancelled (Some (Line r)) win = line_event win r.init 0
cancelled (Some (Char unicode)) win = no_event
cancelled None win = no_event

-- the next window with a request above this number, or 0
unfoldable pub next_asking : List WindowInput → ℕ → ℕ
next_asking [] n = 0
next_asking (w ∷ ws) n =
    if nat_lt n w.win && is_some w.request then w.win else next_asking ws n
