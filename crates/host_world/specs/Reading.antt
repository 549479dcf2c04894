-- The rows that bytes spell, by reading them from left to right (own).
use Rattle.std.specs.Prelude.{ℕ, zero, suc, ◌+◌, ◌*◌, nat_lt, nat_le, Bool, true, ◌&&◌, ◌||◌}
use Rattle.std.specs.Prelude.{◌==◌, if◌then◌else◌, List, [], ◌∷◌, ◌++◌, length, take, drop}
use Rattle.std.specs.Prelude.{slice_index, Option, Some, None}
use Rattle.std.specs.Str.{all_scalars, bytes_eq}
use Rattle.story_text.specs.Text.{is_short}
use Rattle.line_words.specs.Field.{is_key}
use Rattle.story_text.specs.Keycode.{is_terminator}
use Rattle.line_words.specs.Keycode.{is_code}
use Rattle.gate_journal.specs.declared.command.Command.{Command}
use Rattle.gate_journal.specs.declared.command.Command.TheVariants.{Open, Line, Char, File, Close}
use Rattle.gate_journal.specs.declared.command.Command.TheVariants.{Size}
use Rattle.gate_journal.specs.declared.row.Row.{Row}
use Rattle.gate_journal.specs.Rows.{header_with, journal_bytes, row_body, version_byte}
use Rattle.gate_journal.specs.Rows.{commands_of, may_follow}
use Rattle.gate_journal.specs.Log.{next_row}
use Rattle.gate_journal.specs.Payload.{open_in, line_in, char_in, file_in, screen_in}

-- the tests of a text's and of a command's fields
abbrev pub is_text : List ℕ → Bool
is_text text = all_scalars text && is_short text

abbrev pub is_command : Command → Bool
is_command (Open key story digest seed cols rows budget) =
    is_key key && nat_le story 65535 && length digest == 32
    && nat_le seed 18446744073709551615
    && nat_le 1 cols && nat_le cols 255 && nat_le 1 rows && nat_le rows 255
    && nat_le 1 budget && nat_le budget 1000000000000
is_command (Line win term text) =
    nat_le win 4294967295 && (term == 0 || is_terminator term) && is_text text
is_command (Char win code) = nat_le win 4294967295 && is_code code
is_command (File name) = is_text name
is_command Close = true
is_command (Size cols rows) = nat_le 1 cols && nat_le cols 255 && nat_le 1 rows && nat_le rows 255

-- the command that a row of this kind with this payload is of, if it is of one
abbrev pub command_in : ℕ → List ℕ → Command
command_in kind payload =
    if kind == 1 then
    open_in (take (slice_index payload 0) (drop 1 payload))
    (drop (slice_index payload 0) (drop 1 payload))
    else if kind == 2 then line_in payload
    else if kind == 3 then char_in payload
    else if kind == 4 then file_in payload
    else if kind == 6 then screen_in payload
    else Close

-- the row that these bytes behind a gate begin with, if they begin with one
abbrev pub row_at : List Row → List ℕ → Row
row_at rows past =
    next_row rows (slice_index past 0)
    (command_in (slice_index past 1)
    (take (256 * slice_index past 2 + slice_index past 3) (drop 4 past)))

-- the test whether a row may stand behind these rows
abbrev pub may_stand : List Row → ℕ → Command → Bool
may_stand rows session command =
    nat_lt session 64 && is_command command
    && may_follow (commands_of rows session) command
    && nat_lt (length (commands_of rows session)) 8192

-- the test whether a version has rows of this command
abbrev pub is_in_version : ℕ → Command → Bool
is_in_version version (Size cols rows) = version == 1
is_in_version version command = true

-- the test whether bytes begin with these
abbrev pub begins_with : List ℕ → List ℕ → Bool
begins_with bytes front = bytes_eq (take (length front) bytes) front

-- the test whether bytes behind a gate begin with a row of this version that may stand there
abbrev pub has_row : ℕ → List Row → List ℕ → Row → Bool
has_row version rows past r =
    is_in_version version r.command && may_stand rows r.session r.command
    && begins_with past (row_body r)

-- the rows of bytes of this version that go on so behind these rows, at most so many more; none
-- where a gate is missing or open before no row
abbrev pub rows_from : ℕ → ℕ → List Row → List ℕ → Option (List Row)
rows_from version more rows [] = None
rows_from version zero rows (gate ∷ past) = if gate == 1 then None else Some rows
rows_from version (suc more) rows (gate ∷ past) =
    if gate == 1 then
    (if has_row version rows past (row_at rows past)
    then rows_from version more (rows ++ row_at rows past ∷ [])
    (drop (length (row_body (row_at rows past))) past)
    else None)
    else Some rows

-- the rows that bytes spell, if they spell some
unfoldable pub rows_in : List ℕ → Option (List Row)
rows_in bytes =
    if begins_with bytes (header_with (version_byte bytes))
    then rows_from (version_byte bytes) (length bytes) [] (drop 16 bytes)
    else None

-- what an append writes past its gate: the row, and the next gate closed
abbrev pub past_gate : Row → List ℕ
past_gate r = row_body r ++ 0 ∷ []

-- The row behind a closing gate of which nothing is known, in bytes that begin with that gate: it
-- isn't 0, and a row of this version that may stand there, and a closed gate, stand behind it.
abbrev pub unsure_row : ℕ → List Row → List ℕ → Option Row
unsure_row version rows [] = None
unsure_row version rows (gate ∷ past) =
    if gate == 0 then None
    else if has_row version rows past (row_at rows past)
    && begins_with past (past_gate (row_at rows past)) then Some (row_at rows past)
    else None

-- the same of bytes that spell these rows
abbrev pub row_behind_gate : List ℕ → Option (List Row) → Option Row
row_behind_gate bytes None = None
row_behind_gate bytes (Some rows) =
    unsure_row (version_byte bytes) rows (drop (length (journal_bytes rows)) bytes)
