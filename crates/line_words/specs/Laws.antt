-- What ties the reading of lines to their spellings (own).
use Rattle.std.specs.Prelude.{◌≡◌, ℕ, List, Some}
use Rattle.line_words.specs.declared.request.Request.{Request}
use Rattle.story_text.specs.declared.input.Input.{Input}
use Rattle.line_words.specs.Request.{request_of}
use Rattle.line_words.specs.Play.{play_of}
use Rattle.line_words.specs.Spelling.{SpellsRequest, SpellsPlay, IsRequest, IsLineOf, print_request}

-- each line that spells a request is read as that request
abbrev pub ReadsEachRequest : Type 0
ReadsEachRequest =
    (line : List ℕ) (request : Request)
    → IsLineOf SpellsRequest line request → request_of line ≡ Some request

-- a line that is read as a request spells it
abbrev pub ReadsRequestsOnly : Type 0
ReadsRequestsOnly =
    (line : List ℕ) (request : Request)
    → request_of line ≡ Some request → IsLineOf SpellsRequest line request

-- what is printed for a request spells it
abbrev pub PrintsSpellings : Type 0
PrintsSpellings =
    (request : Request) → IsRequest request → SpellsRequest (print_request request) request

-- each line that spells an input of `run` is read as that input
abbrev pub ReadsEachPlay : Type 0
ReadsEachPlay =
    (line : List ℕ) (play : Input) → IsLineOf SpellsPlay line play → play_of line ≡ Some play

-- a line that is read as an input of `run` spells it
abbrev pub ReadsPlaysOnly : Type 0
ReadsPlaysOnly =
    (line : List ℕ) (play : Input) → play_of line ≡ Some play → IsLineOf SpellsPlay line play
