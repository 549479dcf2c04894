-- The session of a host that a line names (own).
use Rattle.std.specs.Prelude.{ℕ, min, List, [], Option, Some, None, slice_index_or}
use Rattle.line_words.specs.Request.{request_of}
use Rattle.line_words.specs.declared.request.Request.{Request}
use Rattle.session_core.specs.declared.entry.Entry.{Entry}
use Rattle.session_core.specs.Checks.{session_of}

-- the session of a request, or 64 where a host has none of that number
abbrev pub session_in : Option Request → ℕ
session_in (Some request) = min (session_of request) 64
session_in None = 64

-- the session, below 64, that a line names, or 64 where it names none
abbrev pub session_on : List ℕ → ℕ
session_on line = session_in (request_of line)

-- the history of a session; that of a number that is none is empty
abbrev pub entries_of : List (List Entry) → ℕ → List Entry
entries_of histories s = slice_index_or histories s []
