-- What is kept of a script's last line, and which request it is (own).
use Rattle.std.specs.Prelude.{ℕ, List, ◌++◌, codes}
use Rattle.std.specs.Fmt.{decimal}
use Rattle.line_words.specs.declared.request.Request.{Request}
use Rattle.story_make.specs.declared.line.Line.{Line}
use Rattle.story_make.specs.declared.line.Line.TheVariants as lines
use Rattle.story_make.specs.declared.place.Place as kept
use Rattle.story_make.specs.Script.{Place, opening_request, typed_line, letters}

-- the request of a line
abbrev pub request_for : ℕ → Line → Request
request_for s (lines.Open number) = opening_request number s
request_for s (lines.Skip n) = typed_line s n (codes "x")
request_for s (lines.Next n word) = typed_line s n (letters word)

-- the place that is kept
abbrev pub kept_place : ℕ → kept.Place → Place
kept_place s place = record { sent = place.sent; last = request_for s place.line }

-- what stands before the letters of a command's line
abbrev pub command_front : ℕ → ℕ → List ℕ
command_front s n =
    codes "LINE " ++ (decimal s ++ (codes " k " ++ (decimal n ++ codes " 1 =")))
