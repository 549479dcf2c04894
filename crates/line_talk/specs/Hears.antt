-- Where a piece of input leads a conversation (own).
use Rattle.std.specs.Prelude.{◌≡◌, ℕ, ◌+◌, ◌^◌, ◌<◌, ◌≤◌, List, ◌++◌, length, Bool, true, false}
use Rattle.line_talk.specs.Conversation.{Line, Turn, Answered, StopsBehind}
use Rattle.line_talk.specs.Hearing.{heard_from, begun_after}
use Rattle.line_talk.specs.Streams.{SinkState}
use Rattle.line_talk.specs.declared.hear.Heard.{Heard}
use Rattle.line_talk.specs.declared.hear.Heard.TheVariants.{More, Over, Limit}
use Rattle.line_talk.specs.declared.sink.Stop.{Stop}

-- all lines that end in the piece were answered
pub record HearsAll {A : Type 0} (turn : Turn A) (over : A → Bool) (old : A) (begun : Line)
    (count : ℕ) (piece : List ℕ) (new : A) (line : Line) (number : ℕ)
    (output now : SinkState) : Type 0 where
  pub answered : Answered turn over old (heard_from begun piece) new output now
  pub same_line : line ≡ begun_after begun piece
  pub counts : number ≡ count + length (heard_from begun piece)

-- a part of the piece was heard, and no line past it
pub record HearsPart (P : List Line → Type 0) (begun : Line) (piece : List ℕ)
    : Type 0 where
  pub front : List ℕ
  pub rest : List ℕ
  pub split : piece ≡ front ++ rest
  pub holds : P (heard_from begun front)

-- the state, the line that has begun and the count of lines after a piece that was heard
abbrev pub LeadsTo : {A : Type 0} → Turn A → (A → Bool) → A → Line → ℕ → List ℕ → Heard → A
    → Line → ℕ → SinkState → SinkState → Type 0
LeadsTo turn over old begun count piece More new line number output now =
    HearsAll turn over old begun count piece new line number output now
    × (over new ≡ false) × (number < 2 ^ 20)
LeadsTo turn over old begun count piece Over new line number output now =
    HearsPart (λ lines. Answered turn over old lines new output now × (over new ≡ true))
    begun piece
LeadsTo turn over old begun count piece Limit new line number output now =
    HearsPart (λ lines. Answered turn over old lines new output now
    × (count + length lines ≡ 2 ^ 20))
    begun piece

-- the conversation stopped within the piece
abbrev pub StopsWithin : {A : Type 0} → Turn A → Turn A → (A → Bool) → A → Line → ℕ → List ℕ
    → A → SinkState → SinkState → Stop → Type 0
StopsWithin turn cut over old begun count piece new output now cause =
    HearsPart (λ lines. StopsBehind turn cut over old lines new output now cause
    × (count + length lines ≤ 2 ^ 20))
    begun piece
