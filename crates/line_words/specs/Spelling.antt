-- All spellings of requests and of the lines of `run` (own).
use Rattle.std.specs.Prelude.{◌≡◌, ℕ, ◌≤◌, ◌⊎◌, true, ◌||◌, ◌==◌}
use Rattle.std.specs.Prelude.{if◌then◌else◌, List, [], ◌∷◌, ◌++◌, length, codes}
use Rattle.std.specs.Fmt.{decimal}
use Rattle.story_text.specs.Text.{IsText}
use Rattle.story_text.specs.Escape.{escaped}
use Rattle.story_text.specs.Escape as texts
use Rattle.line_words.specs.declared.request.Request.{Request}
use Rattle.line_words.specs.declared.request.Request.TheVariants.{Open, Line, Char, File, Size}
use Rattle.line_words.specs.declared.request.Request.TheVariants.{Last, Close, Watch}
use Rattle.story_text.specs.declared.input.Input.{Input}
use Rattle.story_text.specs.declared.input.Input.TheVariants as plays
use Rattle.story_text.specs.Keycode.{is_terminator}
use Rattle.line_words.specs.Keycode.{is_code}
use Rattle.line_words.specs.Field.{is_key, is_watch_word}

-- one space and the word
abbrev pub field : List ℕ → List ℕ
field word = 32 ∷ word

-- one space and the number, decimal and without leading zeros
abbrev pub number_field : ℕ → List ℕ
number_field n = field (decimal n)

-- a terminator key, or nothing for terminator 0
abbrev pub terminator : ℕ → List ℕ
terminator term = if term == 0 then [] else number_field term

-- a session's number and its key
abbrev pub session : ℕ → List ℕ → List ℕ
session s key = number_field s ++ field key

-- a session's number, its key and the number of a command
abbrev pub numbered_fields : ℕ → List ℕ → ℕ → List ℕ
numbered_fields s key n = number_field s ++ (field key ++ number_field n)

-- a session's number, its word for spectators and the number of a show
abbrev pub watched_fields : ℕ → List ℕ → ℕ → List ℕ
watched_fields s digits from = number_field s ++ (field digits ++ number_field from)

-- a window, a text's word and a terminator
abbrev pub typed_fields : ℕ → List ℕ → ℕ → List ℕ
typed_fields win word term = number_field win ++ (field word ++ terminator term)

-- the columns and rows of a screen
abbrev pub screen_fields : ℕ → ℕ → List ℕ
screen_fields cols rows = number_field cols ++ number_field rows

-- a request as it stands in a line, with this word for its text
abbrev pub line_with : Request → List ℕ → List ℕ
line_with (Open s key story seed cols rows budget) word =
    codes "OPEN" ++ (session s key
    ++ (number_field story ++ (number_field seed ++ screen_fields cols rows)))
line_with (Line s key n win text term) word =
    codes "LINE" ++ (numbered_fields s key n ++ typed_fields win word term)
line_with (Char s key n win code) word =
    codes "CHAR" ++ (numbered_fields s key n ++ (number_field win ++ number_field code))
line_with (File s key n name) word = codes "FILE" ++ (numbered_fields s key n ++ field word)
line_with (Size s key n cols rows) word =
    codes "SIZE" ++ (numbered_fields s key n ++ screen_fields cols rows)
line_with (Last s key) word = codes "LAST" ++ session s key
line_with (Close s key n) word = codes "CLOSE" ++ numbered_fields s key n
line_with (Watch s digits from) word = codes "WATCH" ++ watched_fields s digits from

-- the word spells the request's text, or is empty where it has none
abbrev pub SpellsText : Request → List ℕ → Type 0
SpellsText (Line s key n win text term) word = texts.WordSpells word text
SpellsText (File s key n name) word = texts.WordSpells word name
SpellsText _ word = word ≡ []

-- the range of a session's number, and its key
abbrev pub IsSession : ℕ → List ℕ → Type 0
IsSession s key = (s ≤ 4294967295) × (is_key key ≡ true)

-- these, and the range of a command's number
abbrev pub IsNumbered : ℕ → List ℕ → ℕ → Type 0
IsNumbered s key n = (s ≤ 4294967295) × (is_key key ≡ true) × (1 ≤ n) × (n ≤ 4294967295)

-- the ranges of a screen's columns and rows
abbrev pub IsScreen : ℕ → ℕ → Type 0
IsScreen cols rows = (1 ≤ cols) × (cols ≤ 255) × (1 ≤ rows) × (rows ≤ 255)

-- 0 or a terminator key
abbrev pub IsTerminator : ℕ → Type 0
IsTerminator term = (term == 0 || is_terminator term) ≡ true

-- the ranges of a request's fields
abbrev pub IsRequest : Request → Type 0
IsRequest (Open s key story seed cols rows budget) =
    IsSession s key × (story ≤ 65535) × (seed ≤ 18446744073709551615)
    × IsScreen cols rows × (budget ≡ 50000000)
IsRequest (Line s key n win text term) =
    IsNumbered s key n × (win ≤ 4294967295) × IsText text × IsTerminator term
IsRequest (Char s key n win code) =
    IsNumbered s key n × (win ≤ 4294967295) × (is_code code ≡ true)
IsRequest (File s key n name) = IsNumbered s key n × IsText name
IsRequest (Size s key n cols rows) = IsNumbered s key n × IsScreen cols rows
IsRequest (Last s key) = IsSession s key
IsRequest (Close s key n) = IsNumbered s key n
IsRequest (Watch s digits from) =
    (s ≤ 4294967295) × (is_watch_word digits ≡ true) × (from ≤ 4294967295)

-- bytes spell a request: its text may be spelled in any way
abbrev pub SpellsRequest : List ℕ → Request → Type 0
SpellsRequest bytes request =
    IsRequest request × (word : List ℕ) × SpellsText request word
    × (bytes ≡ line_with request word)

-- the word that is written for a request's text
abbrev pub written_text : Request → List ℕ
written_text (Line s key n win text term) = escaped text
written_text (File s key n name) = escaped name
written_text _ = []

-- the one spelling that is written
abbrev pub print_request : Request → List ℕ
print_request request = line_with request (written_text request)

-- bytes spell an input of `run`: as the request, without session, key and number
abbrev pub SpellsPlay : List ℕ → Input → Type 0
SpellsPlay bytes (plays.Line win text key) =
    (word : List ℕ) × (win ≤ 4294967295) × texts.WordSpells word text × IsTerminator key
    × (bytes ≡ codes "LINE" ++ typed_fields win word key)
SpellsPlay bytes (plays.Char win code) =
    (win ≤ 4294967295) × (is_code code ≡ true)
    × (bytes ≡ codes "CHAR" ++ (number_field win ++ number_field code))
SpellsPlay bytes (plays.File name) =
    (word : List ℕ) × texts.WordSpells word name × (bytes ≡ codes "FILE" ++ field word)
SpellsPlay bytes (plays.Size cols rows) =
    IsScreen cols rows × (bytes ≡ codes "SIZE" ++ screen_fields cols rows)

-- a line is a spelling, with a CR behind it or without, of at most 2,047 bytes in all
abbrev pub IsLineOf : {A : Type 0} → (List ℕ → A → Type 0) → List ℕ → A → Type 0
IsLineOf Spells line x =
    (spelling : List ℕ) × Spells spelling x
    × ((line ≡ spelling) ⊎ (line ≡ spelling ++ 13 ∷ [])) × (length line ≤ 2047)
