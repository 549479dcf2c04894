-- A conversation: lines that are answered one after the other (own).
-- How a line is answered is a relation, since a turn may meet faults and want of memory.
use Rattle.std.specs.Prelude.{◌≡◌, ◌⊎◌, List, [], ◌∷◌, ◌++◌, ℕ, Bool, false, Option}
use Rattle.std.specs.List.{flat_map}
use Rattle.line_talk.specs.Streams.{SinkState, Wrote}
use Rattle.line_talk.specs.Writing.{Stopped}
use Rattle.line_talk.specs.declared.sink.Stop.{Stop}
use Rattle.line_talk.specs.declared.sink.Stop.TheVariants.{Memory}

-- a line as it is heard: None where it was dropped
abbrev pub Line : Type 0
Line = Option (List ℕ)

-- one who answers lines: from one state to the next, to this line by this reply
abbrev pub Turn : Type 0 → Type 1
Turn A = A → Line → List ℕ → A → Type 0

-- several texts, one behind the other
abbrev pub texts_joined : List (List ℕ) → List ℕ
texts_joined texts = flat_map (λ text. text) texts

-- from old to new these lines were answered by these replies, each before the end
abbrev pub Turns : {A : Type 0} → Turn A → (A → Bool) → A → List Line → List (List ℕ) → A
    → Type 0
Turns turn over old [] [] new = new ≡ old
Turns turn over old [] (reply ∷ replies) new = ⊥
Turns turn over old (line ∷ lines) [] new = ⊥
Turns {A} turn over old (line ∷ lines) (reply ∷ replies) new =
    (over old ≡ false)
    × ((mid : A) × turn old line reply mid × Turns turn over mid lines replies new)

-- these lines were answered, and each reply was written whole
pub record Answered {A : Type 0} (turn : Turn A) (over : A → Bool) (old : A) (lines : List Line)
    (new : A) (output now : SinkState) : Type 0 where
  pub replies : List (List ℕ)
  pub turns : Turns turn over old lines replies new
  pub wrote : Wrote output now (texts_joined replies)

-- a line was answered, and its reply was written whole
pub record TellsTurn {A : Type 0} (turn : Turn A) (old : A) (line : Line) (new : A)
    (output now : SinkState) : Type 0 where
  pub reply : List ℕ
  pub turned : turn old line reply new
  pub wrote : Wrote output now reply

-- a line was answered, and its reply wasn't written whole; `cut` is such a turn
pub record Breaks {A : Type 0} (cut : Turn A) (old : A) (line : Line) (new : A)
    (output now : SinkState) (cause : Stop) : Type 0 where
  pub reply : List ℕ
  pub turned : cut old line reply new
  pub stopped : Stopped output now reply cause

-- these lines were answered, the last of them by a reply that wasn't written whole
pub record BreaksLast {A : Type 0} (turn cut : Turn A) (over : A → Bool) (old : A)
    (lines : List Line) (new : A) (output now : SinkState) (cause : Stop) : Type 0 where
  pub before : List Line
  pub last : Line
  pub mid : A
  pub between : SinkState
  pub all : lines ≡ before ++ last ∷ []
  pub answered : Answered turn over old before mid output between
  pub going : over mid ≡ false
  pub breaks : Breaks cut mid last new between now cause

-- a conversation stopped behind these lines: at a reply, or between two for want of memory
abbrev pub StopsBehind : {A : Type 0} → Turn A → Turn A → (A → Bool) → A → List Line → A
    → SinkState → SinkState → Stop → Type 0
StopsBehind turn cut over old lines new output now cause =
    BreaksLast turn cut over old lines new output now cause
    ⊎ Answered turn over old lines new output now × (cause ≡ Memory)
