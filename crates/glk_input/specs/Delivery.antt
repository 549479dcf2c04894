-- The delivery of an input (Glk 0.7.5, "Line Input Events", "Character Input Events", "Window
-- Arrangement Events").
use Rattle.std.specs.Prelude.{◌≡◌, ℕ, ◌+◌, ◌%◌, ◌^◌, ◌==◌, ◌&&◌, ◌||◌, nat_lt, not, Bool, true}
use Rattle.std.specs.Prelude.{false, if◌then◌else◌, List, [], ◌∷◌, ◌++◌, length, map, take, Option}
use Rattle.std.specs.Prelude.{Some, None, Result, Ok, Err}
use Rattle.vm_memory.specs.Chaining.{◌>>=◌}
use Rattle.vm_memory.specs.Access.{written}
use Rattle.vm_memory.specs.MemoryMap.{MemoryMap}
use Rattle.vm_memory.specs.declared.fault.MemFault.{MemFault}
use Rattle.vm_memory.specs.declared.fault.MemStop.{MemStop}
use Rattle.vm_memory.specs.declared.fault.MemStop.TheVariants as stop
use Rattle.story_text.specs.Keycode.{is_keycode}
use Rattle.glk_input.specs.Request.{window_input_changed, request_ended, window_request, no_event}
use Rattle.glk_input.specs.Request.{line_event, char_event, arrange_event}
use Rattle.glk_input.specs.declared.event.Event.{Event}
use Rattle.story_text.specs.declared.input.Input.{Input}
use Rattle.story_text.specs.declared.input.Input.TheVariants as input
use Rattle.glk_input.specs.declared.request.LineRequest.{LineRequest}
use Rattle.glk_input.specs.declared.request.Request.{Request}
use Rattle.glk_input.specs.declared.request.Request.TheVariants.{Line, Char}
use Rattle.glk_input.specs.declared.request.WindowInput.{WindowInput}

-- the key is one of these
abbrev pub is_among : List ℕ → ℕ → Bool
is_among [] key = false
is_among (k ∷ ks) key = k == key || is_among ks key

-- a line is wanted that the return key or one of the request's own terminators ends
abbrev pub wants_line : Option Request → ℕ → Bool
wants_line (Some (Line r)) key = key == 0 || is_among r.keys key
wants_line (Some (Char unicode)) key = false
wants_line None key = false

abbrev pub wants_char : Option Request → Bool
wants_char (Some (Line r)) = false
wants_char (Some (Char unicode)) = true
wants_char None = false

-- the input is what its window asks for; a size of the screen is always taken
abbrev pub wants : List WindowInput → Input → Bool
wants ws (input.Line win text key) = wants_line (window_request ws win) key
wants ws (input.Char win code) = wants_char (window_request ws win)
wants ws (input.File name) = false
wants ws (input.Size cols rows) = true

-- a character as a request takes it: where it isn't for Unicode, `?` for one above 255
abbrev pub code_taken : Bool → ℕ → ℕ
code_taken unicode c = if not unicode && nat_lt 255 c then 63 else c

-- a line as its request takes it: cut to the maximum
abbrev pub taken_line : LineRequest → List ℕ → List ℕ
taken_line r text = map (code_taken r.unicode) (take r.max text)

-- how many bytes a character of an array has
abbrev pub width : Bool → ℕ
width unicode = if unicode then 4 else 1

-- characters written as an array from an address on
abbrev pub line_written : Bool → MemoryMap → ℕ → List ℕ → Result MemoryMap MemFault
line_written unicode m at [] = Ok m
line_written unicode m at (c ∷ cs) =
    written (width unicode) m at c
    >>= (λ n. line_written unicode n ((at + width unicode) % 2 ^ 32) cs)

-- a character or keycode as a request takes it: the newline is the return key
abbrev pub taken_key : Bool → ℕ → ℕ
taken_key unicode c =
    if c == 10 then 0xFFFFFFFA else (if is_keycode c then c else code_taken unicode c)

-- a line comes: its characters go to the request's array
abbrev pub line_taken : LineRequest → MemoryMap → ℕ → List ℕ → ℕ
    → Result (MemoryMap × Event) MemFault
line_taken r m win text key =
    line_written r.unicode m r.buf (taken_line r text)
    >>= (λ n. Ok (n, line_event win (length (taken_line r text)) key))

abbrev pub line_delivered : Option Request → MemoryMap → ℕ → List ℕ → ℕ
    → Result (MemoryMap × Event) MemFault
line_delivered (Some (Line r)) m win text key = line_taken r m win text key
line_delivered (Some (Char unicode)) m win text key = Ok (m, no_event)
line_delivered None m win text key = Ok (m, no_event)

-- a character comes
abbrev pub char_delivered : Option Request → ℕ → ℕ → Event
char_delivered (Some (Line r)) win code = no_event
char_delivered (Some (Char unicode)) win code = char_event win (taken_key unicode code)
char_delivered None win code = no_event

-- what an input that is wanted does to memory, and its event
abbrev pub delivered : List WindowInput → MemoryMap → Input
    → Result (MemoryMap × Event) MemFault
delivered ws m (input.Line win text key) = line_delivered (window_request ws win) m win text key
delivered ws m (input.Char win code) = Ok (m, char_delivered (window_request ws win) win code)
delivered ws m (input.File name) = Ok (m, no_event)
delivered ws m (input.Size cols rows) = Ok (m, arrange_event)

-- the window's request is over; a size of the screen ends none
abbrev pub requests_after_input : List WindowInput → Input → List WindowInput
requests_after_input ws (input.Line win text key) = window_input_changed request_ended ws win
requests_after_input ws (input.Char win code) = window_input_changed request_ended ws win
requests_after_input ws (input.File name) = ws
requests_after_input ws (input.Size cols rows) = ws

-- the characters that a line writes: none where no line is asked for
abbrev pub line_front : Option Request → List ℕ → List ℕ
line_front (Some (Line r)) text = take r.max text
line_front (Some (Char unicode)) text = []
line_front None text = []

-- the characters that an input writes to the story's memory
abbrev pub to_write : List WindowInput → Input → List ℕ
to_write ws (input.Line win text key) = line_front (window_request ws win) text
to_write ws (input.Char win code) = []
to_write ws (input.File name) = []
to_write ws (input.Size cols rows) = []

-- The call answered this event and left this memory, as it should, unless room was wanting.
abbrev pub Delivers : Result (MemoryMap × Event) MemFault → MemoryMap → Result Event MemStop
    → Type 0
Delivers should m (Ok event) = should ≡ Ok (m, event)
Delivers should m (Err (stop.Fault f)) = should ≡ Err f
Delivers should m (Err stop.NoMemory) = Unit {0}

-- The call wrote these characters as an array from an address on, and answered how many they are.
abbrev pub WritesCharacters : Bool → MemoryMap → ℕ → List ℕ → MemoryMap → Result ℕ MemStop
    → Type 0
WritesCharacters unicode old at codes new (Ok n) =
    (line_written unicode old at (map (code_taken unicode) codes) ≡ Ok new) × (n ≡ length codes)
WritesCharacters unicode old at codes new (Err (stop.Fault f)) =
    line_written unicode old at (map (code_taken unicode) codes) ≡ Err f
WritesCharacters unicode old at codes new (Err stop.NoMemory) = Unit {0}

-- A first part of the characters was written as an array from an address on, and no more.
abbrev pub WritesPart : Bool → MemoryMap → ℕ → List ℕ → MemoryMap → Type 0
WritesPart unicode old at codes new =
    (front : List ℕ) × (rest : List ℕ) × (codes ≡ front ++ rest)
    × (line_written unicode old at (map (code_taken unicode) front) ≡ Ok new)

-- A first part of the line stands in the request's array, and no more.
abbrev pub LeavesLinePart : Option Request → MemoryMap → List ℕ → MemoryMap → Type 0
LeavesLinePart (Some (Line r)) old text new =
    WritesPart r.unicode old r.buf (take r.max text) new
LeavesLinePart (Some (Char unicode)) old text new = new ≡ old
LeavesLinePart None old text new = new ≡ old

-- What a delivery that fails leaves in memory: a first part of the line.
abbrev pub LeavesPart : List WindowInput → MemoryMap → Input → MemoryMap → Type 0
LeavesPart ws old (input.Line win text key) new =
    LeavesLinePart (window_request ws win) old text new
LeavesPart ws old (input.Char win code) new = new ≡ old
LeavesPart ws old (input.File name) new = new ≡ old
LeavesPart ws old (input.Size cols rows) new = new ≡ old
