-- Request lines, by reading them from the left (own).
use Rattle.std.specs.Prelude.{ℕ, List, Option, None, codes}
use Rattle.line_words.specs.declared.request.Request.{Request}
use Rattle.line_words.specs.declared.request.Request.TheVariants.{Open, Line, Char, File, Size}
use Rattle.line_words.specs.declared.request.Request.TheVariants.{Last, Close, Watch}
use Rattle.line_words.specs.Reading.{Reader, ◌then◌, whole, made_if_read}
use Rattle.line_words.specs.Field.{number_between, key_at, text_at, watch_word_at, fields_named}
use Rattle.line_words.specs.Play.{line_at, window_and_code_at, screen_at, without_cr, unless_long}

-- a session and its key
unfoldable pub session_at : Reader (ℕ × List ℕ)
session_at = number_between 0 4294967295 then key_at

-- a session, its key and the number of a command
unfoldable pub numbered_at : Reader (ℕ × (List ℕ × ℕ))
numbered_at = number_between 0 4294967295 then (key_at then number_between 1 4294967295)

-- the fields of OPEN behind the key: the story's number, the seed, the columns and the rows
unfoldable pub setup_fields_at : Reader (ℕ × (ℕ × (ℕ × ℕ)))
setup_fields_at =
    number_between 0 65535 then (number_between 0 18446744073709551615 then screen_at)

-- a session, its word for spectators and the number of a show
unfoldable pub watched_at : Reader (ℕ × (List ℕ × ℕ))
watched_at =
    number_between 0 4294967295 then (watch_word_at then number_between 0 4294967295)

-- a request to open a session has the budget of 50,000,000 ticks until the host sets its own
abbrev pub made_open : (ℕ × List ℕ) × (ℕ × (ℕ × (ℕ × ℕ))) → Request
made_open ((s, key), (story, (seed, (cols, rows)))) = Open s key story seed cols rows 50000000

abbrev pub made_line : (ℕ × (List ℕ × ℕ)) × (ℕ × (List ℕ × ℕ)) → Request
made_line ((s, (key, n)), (win, (text, term))) = Line s key n win text term

abbrev pub made_char : (ℕ × (List ℕ × ℕ)) × (ℕ × ℕ) → Request
made_char ((s, (key, n)), (win, code)) = Char s key n win code

abbrev pub made_file : (ℕ × (List ℕ × ℕ)) × List ℕ → Request
made_file ((s, (key, n)), name) = File s key n name

abbrev pub made_size : (ℕ × (List ℕ × ℕ)) × (ℕ × ℕ) → Request
made_size ((s, (key, n)), (cols, rows)) = Size s key n cols rows

abbrev pub made_last : ℕ × List ℕ → Request
made_last (s, key) = Last s key

abbrev pub made_close : ℕ × (List ℕ × ℕ) → Request
made_close (s, (key, n)) = Close s key n

abbrev pub made_watch : ℕ × (List ℕ × ℕ) → Request
made_watch (s, (word, from)) = Watch s word from

unfoldable pub open_of : List ℕ → Option Request
open_of bytes = made_if_read made_open (whole (session_at then setup_fields_at) bytes)

unfoldable pub line_request : List ℕ → Option Request
line_request bytes = made_if_read made_line (whole (numbered_at then line_at) bytes)

unfoldable pub char_request : List ℕ → Option Request
char_request bytes = made_if_read made_char (whole (numbered_at then window_and_code_at) bytes)

unfoldable pub file_request : List ℕ → Option Request
file_request bytes = made_if_read made_file (whole (numbered_at then text_at) bytes)

unfoldable pub size_request : List ℕ → Option Request
size_request bytes = made_if_read made_size (whole (numbered_at then screen_at) bytes)

unfoldable pub last_request : List ℕ → Option Request
last_request bytes = made_if_read made_last (whole session_at bytes)

unfoldable pub close_of : List ℕ → Option Request
close_of bytes = made_if_read made_close (whole numbered_at bytes)

unfoldable pub watch_of : List ℕ → Option Request
watch_of bytes = made_if_read made_watch (whole watched_at bytes)

-- the request that a line without its CR spells
unfoldable pub spelled_request : List ℕ → Option Request
spelled_request line =
    fields_named (codes "OPEN") line open_of
    (fields_named (codes "LINE") line line_request
    (fields_named (codes "CHAR") line char_request
    (fields_named (codes "FILE") line file_request
    (fields_named (codes "SIZE") line size_request
    (fields_named (codes "LAST") line last_request
    (fields_named (codes "CLOSE") line close_of
    (fields_named (codes "WATCH") line watch_of None)))))))

-- the request that a line spells, if it spells one
abbrev pub request_of : List ℕ → Option Request
request_of line = unless_long line (spelled_request (without_cr line))
