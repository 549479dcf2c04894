-- What each script is, whatever its words (own).
use Rattle.std.specs.Prelude.{◌≡◌, ℕ, ◌+◌, ◌-◌, ◌^◌, ◌<◌, ◌≤◌, ◌⊎◌, List, [], ◌∷◌, length, map}
use Rattle.std.specs.Prelude.{slice_index, codes, Some}
use Rattle.std.specs.List.{All}
use Rattle.rand_pcg.specs.Lcg.{advance}
use Rattle.rand_pcg.specs.Pcg.{multiplier_64, output_xsh_rr}
use Rattle.line_talk.specs.Lines.{lines}
use Rattle.line_words.specs.declared.request.Request.{Request}
use Rattle.line_words.specs.Request.{request_of}
use Rattle.story_make.specs.Script.{generator, opening_request, typed_line, script_words, requests}
use Rattle.story_make.specs.Script.{script_bytes}

-- the bytes of a script, cut into lines, are read as its requests, one by one
abbrev pub IsReadAsRequests : Type 0
IsReadAsRequests =
    (number s turns : ℕ) → number < 2 ^ 64 → s < 2 ^ 8 → turns < 2 ^ 32 - 1
    → map request_of (lines (script_bytes number s turns))
    ≡ map (λ request. Some request) (requests number s turns)

-- a script has a line that opens its session, and one for each turn
abbrev pub HasALineEachTurn : Type 0
HasALineEachTurn =
    (number s turns : ℕ) → length (requests number s turns) ≡ turns + 1

-- word k of the generator, counted from 0: what it puts out after k steps
abbrev pub script_word_at : ℕ → ℕ → ℕ → ℕ
script_word_at number s k = output_xsh_rr (advance 64 multiplier_64 k (generator number s)).state

-- the k-th turn takes the k-th word, both counted from 0
abbrev pub TakesAWordATurn : Type 0
TakesAWordATurn =
    (number s turns k : ℕ)
    → k < turns → slice_index (script_words number s turns) k ≡ script_word_at number s k

-- a small letter
abbrev pub IsLetter : ℕ → Type 0
IsLetter c = (97 ≤ c) × (c ≤ 122)

-- the next command after so many: a line of 1 to 19 small letters
pub record IsNextRequest (s sent : ℕ) (request : Request) : Type 0 where
  pub text : List ℕ
  pub letters : All IsLetter text
  pub some : 1 ≤ length text
  pub few : length text ≤ 19
  pub is : request ≡ typed_line s (sent + 1) text

-- after so many commands and this request, each request is the last one again, or one whose number
-- leaves out the next command's, or the next command
abbrev pub AskInOrder : ℕ → ℕ → Request → List Request → Type 0
AskInOrder s sent last [] = Unit {0}
AskInOrder s sent last (request ∷ more) =
    ((request ≡ last) × AskInOrder s sent request more)
    ⊎ ((request ≡ typed_line s (sent + 2) (codes "x")) × AskInOrder s sent request more)
    ⊎ (IsNextRequest s sent request × AskInOrder s (sent + 1) request more)

-- the first request of a script opens its session, and the others follow in order
abbrev pub AsksInOrder : Type 0
AsksInOrder =
    (number s turns : ℕ) → (more : List Request)
    × (requests number s turns ≡ opening_request number s ∷ more)
    × AskInOrder s 0 (opening_request number s) more
