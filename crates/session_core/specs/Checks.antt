-- The checks of a request against a session's game, each by its reply (own).
use Rattle.std.specs.Prelude.{ℕ, ◌+◌, Bool, true, false, ◌&&◌, ◌||◌, ◌==◌, not, nat_lt, nat_le}
use Rattle.std.specs.Prelude.{List, [], ◌∷◌, length, is_none, Option, Some, None}
use Rattle.std.specs.Str.{bytes_eq}
use Rattle.story_text.specs.declared.input.Input.{Input}
use Rattle.story_text.specs.declared.input.Input.TheVariants as inputs
use Rattle.gate_journal.specs.declared.command.Command.{Command}
use Rattle.gate_journal.specs.declared.command.Command.TheVariants as commands
use Rattle.line_words.specs.declared.request.Request.{Request}
use Rattle.line_words.specs.declared.request.Request.TheVariants.{Open, Line, Char, File, Size}
use Rattle.line_words.specs.declared.request.Request.TheVariants.{Last, Close, Watch}
use Rattle.story_run.specs.declared.story.Story.{Story}
use Rattle.story_run.specs.World.{WorldState}
use Rattle.story_run.specs.Solo.{is_over, is_wanted}
use Rattle.session_core.specs.History.{story_at, command_count, last_of, is_in_use, has_key}
use Rattle.session_core.specs.History.{input_of}

-- a request's session
abbrev pub session_of : Request → ℕ
session_of (Open s key story seed cols rows budget) = s
session_of (Line s key n win text term) = s
session_of (Char s key n win code) = s
session_of (File s key n name) = s
session_of (Size s key n cols rows) = s
session_of (Last s key) = s
session_of (Close s key n) = s
session_of (Watch s word from) = s

-- a request's key; WATCH has none
abbrev pub request_key : Request → List ℕ
request_key (Open s key story seed cols rows budget) = key
request_key (Line s key n win text term) = key
request_key (Char s key n win code) = key
request_key (File s key n name) = key
request_key (Size s key n cols rows) = key
request_key (Last s key) = key
request_key (Close s key n) = key
request_key (Watch s word from) = []

-- the number of a request's command; OPEN, LAST and WATCH have none
abbrev pub command_number : Request → Option ℕ
command_number (Open s key story seed cols rows budget) = None
command_number (Line s key n win text term) = Some n
command_number (Char s key n win code) = Some n
command_number (File s key n name) = Some n
command_number (Size s key n cols rows) = Some n
command_number (Last s key) = None
command_number (Close s key n) = Some n
command_number (Watch s word from) = None

-- there is a number, and it passes the test
abbrev pub passes : (ℕ → Bool) → Option ℕ → Bool
passes test None = false
passes test (Some n) = test n

-- a command that opens a story with this digest, if the story is there
abbrev pub opening_command : Option Story → (List ℕ → Command) → Option Command
opening_command (Some story) command = Some (command story.digest)
opening_command None command = None

-- the command that a request asks to be accepted; LAST and WATCH ask for none
abbrev pub command_of : List Story → Request → Option Command
command_of stories (Open s key story seed cols rows budget) =
    opening_command (story_at stories story)
    (λ digest. commands.Open key story digest seed cols rows budget)
command_of stories (Line s key n win text term) = Some (commands.Line win term text)
command_of stories (Char s key n win code) = Some (commands.Char win code)
command_of stories (File s key n name) = Some (commands.File name)
command_of stories (Size s key n cols rows) = Some (commands.Size cols rows)
command_of stories (Last s key) = None
command_of stories (Close s key n) = Some commands.Close
command_of stories (Watch s word from) = None

-- the command is the one that the request asks for, compared after decoding
abbrev pub is_asked_by : Request → Command → Bool
is_asked_by (Line s key n win text term) (commands.Line w t x) =
    w == win && (t == term && bytes_eq x text)
is_asked_by (Char s key n win code) (commands.Char w c) = w == win && c == code
is_asked_by (File s key n name) (commands.File x) = bytes_eq x name
is_asked_by (Size s key n cols rows) (commands.Size c r) = c == cols && r == rows
is_asked_by (Close s key n) commands.Close = true
is_asked_by _ _ = false

-- the game's last command is that one
abbrev pub is_last : Option Command → Request → Bool
is_last (Some command) request = is_asked_by request command
is_last None request = false

-- a new command: OPEN where the session is free, or the number after the last one
abbrev pub is_fresh : List Command → Request → Bool
is_fresh game (Open s key story seed cols rows budget) = not (is_in_use game)
is_fresh game request = passes (λ n. n == command_count game + 1) (command_number request)

-- NO 1: a spectator's request, which a session doesn't answer by itself
abbrev pub is_watch : Request → Bool
is_watch (Watch s word from) = true
is_watch request = false

-- NO 2: no such session number; or, but for OPEN, the session is free or has another key. The CLOSE
-- that freed it, given again, passes.
abbrev pub is_same_close : List Command → Request → Bool
is_same_close game (Close s key n) = n == command_count game
is_same_close game request = false

abbrev pub is_known : List Command → Request → Bool
is_known game (Open s key story seed cols rows budget) = true
is_known game request =
    has_key game (request_key request) && (is_in_use game || is_same_close game request)

abbrev pub is_absent : List Command → Request → Bool
is_absent game request = nat_le 64 (session_of request) || not (is_known game request)

-- NO 3: OPEN on a session in use, unless no command came since and it is that very OPEN
abbrev pub is_own_open : List Command → Request → Bool
is_own_open (commands.Open k t digest d c r b ∷ []) (Open s key story seed cols rows budget) =
    bytes_eq k key && (t == story && (d == seed && (c == cols && r == rows)))
is_own_open game request = false

abbrev pub is_taken : List Command → Request → Bool
is_taken game (Open s key story seed cols rows budget) =
    is_in_use game && not (is_own_open game (Open s key story seed cols rows budget))
is_taken game request = false

-- NO 4: OPEN of a free session with a story that isn't there
abbrev pub is_story_missing : List Story → List Command → Request → Bool
is_story_missing stories game (Open s key story seed cols rows budget) =
    not (is_in_use game) && is_none (story_at stories story)
is_story_missing stories game request = false

-- the game's story isn't there, or its file has another digest than at the OPEN
abbrev pub digest_differs : Option Story → List ℕ → Bool
digest_differs None digest = true
digest_differs (Some story) digest = not (bytes_eq story.digest digest)

abbrev pub is_other_story : List Story → List Command → Bool
is_other_story stories (commands.Open key story digest seed cols rows budget ∷ after) =
    digest_differs (story_at stories story) digest
is_other_story stories _ = false

-- NO 13: that is so; not for CLOSE or a new OPEN
abbrev pub is_changed : List Story → List Command → Request → Bool
is_changed stories game (Open s key story seed cols rows budget) =
    is_in_use game && is_other_story stories game
is_changed stories game (Close s key n) = false
is_changed stories game request = is_other_story stories game

-- NO 6: the number of an earlier command
abbrev pub is_early : List Command → Request → Bool
is_early game request = passes (λ n. nat_lt n (command_count game)) (command_number request)

-- NO 7: the number of the last command, for another command
abbrev pub is_different : List Command → Request → Bool
is_different game request =
    passes (λ n. n == command_count game) (command_number request)
    && not (is_last (last_of game) request)

-- NO 5: a number past the next one
abbrev pub is_ahead : List Command → Request → Bool
is_ahead game request = passes (λ n. nat_lt (command_count game + 1) n) (command_number request)

-- what a request gives the story
abbrev pub input_given : Option Command → Option Input
input_given (Some command) = input_of command
input_given None = None

-- what a request gives the story, without its text, of which a story asks nothing before it takes it
abbrev pub outline : Request → Option Input
outline (Open s key story seed cols rows budget) = None
outline (Line s key n win text term) = Some (inputs.Line win [] term)
outline (Char s key n win code) = Some (inputs.Char win code)
outline (File s key n name) = Some (inputs.File [])
outline (Size s key n cols rows) = Some (inputs.Size cols rows)
outline (Last s key) = None
outline (Close s key n) = None
outline (Watch s word from) = None

-- NO 9: a new input, and the story is over. The session's world is `now`.
abbrev pub over_in : Option WorldState → Option Input → Bool
over_in (Some world) (Some input) = is_over world
over_in _ _ = false

abbrev pub comes_late : Option WorldState → List Story → List Command → Request → Bool
comes_late now stories game request =
    is_fresh game request && over_in now (input_given (command_of stories request))

-- NO 8: a new input that the story doesn't wait for
abbrev pub unwanted_in : Option WorldState → Option Input → Bool
unwanted_in (Some world) (Some input) = not (is_wanted world input)
unwanted_in _ _ = false

abbrev pub is_unwanted : Option WorldState → List Story → List Command → Request → Bool
is_unwanted now stories game request =
    is_fresh game request && unwanted_in now (input_given (command_of stories request))

-- NO 10: a new command, and the session number has accepted 8,192
abbrev pub is_full : List Command → List Command → Request → Bool
is_full history game request = is_fresh game request && nat_le 8192 (length history)
