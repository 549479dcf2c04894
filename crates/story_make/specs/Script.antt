-- Scripts: the requests that a number, a session and a count of turns stand for (own).
use Rattle.std.specs.Prelude.{ℕ, ◌+◌, ◌/◌, ◌%◌, ◌==◌, if◌then◌else◌}
use Rattle.std.specs.Prelude.{List, [], ◌∷◌, ◌++◌, map, flat_map, codes}
use Rattle.std.specs.List.{range_with_len}
use Rattle.rand_core.specs.Steps.{first_words}
use Rattle.rand_pcg.specs.Lcg.{Lcg, started, increment_of}
use Rattle.rand_pcg.specs.Pcg.{multiplier_64, pcg32}
use Rattle.line_words.specs.declared.request.Request.{Request}
use Rattle.line_words.specs.declared.request.Request.TheVariants.{Open, Line}
use Rattle.line_words.specs.Spelling.{print_request}

-- the generator of a script: it begins with the number, on the session's stream
abbrev pub generator : ℕ → ℕ → Lcg
generator number s = started 64 multiplier_64 number (increment_of 64 s)

-- the words of a script's turns
abbrev pub script_words : ℕ → ℕ → ℕ → List ℕ
script_words number s turns = first_words pcg32 turns (generator number s)

-- letter i, counted from 0, of the text that a word stands for
abbrev pub letter : ℕ → ℕ → ℕ
letter word i = 97 + word / (i + 1) % 26

-- the text that a word stands for: 1 to 19 letters from `a` to `z`
abbrev pub letters : ℕ → List ℕ
letters word = map (letter word) (range_with_len 0 (word / 10 % 19 + 1))

-- the session is opened: with the first story, the number as its seed, and a screen of 80 by 24
abbrev pub opening_request : ℕ → ℕ → Request
opening_request number s = Open s (codes "k") 0 number 80 24 50000000

-- a line for window 1, as command n
abbrev pub typed_line : ℕ → ℕ → List ℕ → Request
typed_line s n text = Line s (codes "k") n 1 text 0

-- how far a script has come: the number of the last command that was given in its order, 0 before
-- the first, and the request that was given last
pub record Place : Type 0 where
  pub sent : ℕ
  pub last : Request

-- where a script begins
abbrev pub script_start : ℕ → ℕ → Place
script_start number s = record { sent = 0; last = opening_request number s }

-- a turn: its word says whether the last request is given again, whether one is given whose number
-- leaves out the next command's, or whether the next command is given
abbrev pub place_after_turn : ℕ → ℕ → Place → Place
place_after_turn s word place =
    if word % 10 == 0 then place
    else (if word % 10 == 1 then record place { last = typed_line s (place.sent + 2) (codes "x") }
    else record { sent = place.sent + 1; last = typed_line s (place.sent + 1) (letters word) })

-- the requests of the turns that take these words, from a place on
abbrev pub requests_from : ℕ → Place → List ℕ → List Request
requests_from s place [] = []
requests_from s place (word ∷ words) =
    (place_after_turn s word place).last ∷ requests_from s (place_after_turn s word place) words

-- the requests of a script: the opening, and one for each turn, which takes the next word
unfoldable pub requests : ℕ → ℕ → ℕ → List Request
requests number s turns =
    opening_request number s
    ∷ requests_from s (script_start number s) (script_words number s turns)

-- a request as a line, with its LF
abbrev pub line_of_request : Request → List ℕ
line_of_request request = print_request request ++ 10 ∷ []

-- the bytes of a script: its lines
unfoldable pub script_bytes : ℕ → ℕ → ℕ → List ℕ
script_bytes number s turns = flat_map line_of_request (requests number s turns)
