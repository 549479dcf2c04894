-- What a conversation over a source and a sink leaves (own).
use Rattle.std.specs.Prelude.{◌≡◌, ◌⊎◌, ℕ, ◌^◌, ◌≤◌, List, ◌++◌, length, map, Bool, true}
use Rattle.std.specs.Io.KnownBytes.{IsAtEnd}
use Rattle.line_talk.specs.Streams.{SourceState, SinkState, Gave}
use Rattle.line_talk.specs.Lines.{lines, talk, heard, IsWithinLimits, ReachesLimit}
use Rattle.line_talk.specs.Conversation.{Line, Turn, Answered, StopsBehind}
use Rattle.line_talk.specs.declared.sink.Stop.TheVariants.{Output, Memory}
use Rattle.line_talk.specs.declared.ended.Ended.{Ended}
use Rattle.line_talk.specs.declared.ended.Ended.TheVariants.{End, ReadFault, WriteFault}
use Rattle.line_talk.specs.declared.ended.Ended.TheVariants.{LineLimit, NoMemory}

-- the input was read to its end, within the limits of a connection
pub record IsReadToEnd (read : List ℕ) (now : SourceState) : Type 0 where
  pub ended : now.ended ≡ true
  pub at_end : IsAtEnd now.left
  pub within : IsWithinLimits read

-- these are the first of the lines
abbrev pub AreFirst : List (List ℕ) → List (List ℕ) → Type 0
AreFirst some all = (more : List (List ℕ)) × (all ≡ some ++ more)

-- which of the lines read were answered, by how it ended, where the answerer never ends it
abbrev pub AnsweredOf : Ended → List ℕ → SourceState → List (List ℕ) → Type 0
AnsweredOf End read now answered = (answered ≡ lines read) × IsReadToEnd read now
AnsweredOf ReadFault read now answered = (answered ≡ talk read) × IsWithinLimits read
AnsweredOf WriteFault read now answered = AreFirst answered (talk read)
AnsweredOf LineLimit read now answered = (answered ≡ talk read) × ReachesLimit read
AnsweredOf NoMemory read now answered = AreFirst answered (talk read)

-- the same where it may: all lines before its end
abbrev pub AnswersOf : Ended → List ℕ → SourceState → Bool → List (List ℕ) → Type 0
AnswersOf End read now over answered =
    AnsweredOf End read now answered ⊎ AreFirst answered (lines read) × (over ≡ true)
AnswersOf ended read now over answered = AnsweredOf ended read now answered

-- how they were answered, by how it ended
abbrev pub Converses : {A : Type 0} → Ended → Turn A → Turn A → (A → Bool) → A → List Line → A
    → SinkState → SinkState → Type 0
Converses End turn cut over old lines new output now =
    Answered turn over old lines new output now
Converses ReadFault turn cut over old lines new output now =
    Answered turn over old lines new output now
Converses WriteFault turn cut over old lines new output now =
    StopsBehind turn cut over old lines new output now Output
Converses NoMemory turn cut over old lines new output now =
    StopsBehind turn cut over old lines new output now Memory
Converses LineLimit turn cut over old lines new output now =
    Answered turn over old lines new output now

-- a conversation: what was read, which of its lines were answered, how, and the state after them
pub record Talked {A : Type 0} (turn cut : Turn A) (over : A → Bool) (old new : A)
    (input now : SourceState) (output written : SinkState) (ended : Ended) : Type 0 where
  pub read : List ℕ
  pub answered : List (List ℕ)
  pub gave : Gave input now read
  pub within : length read ≤ 2 ^ 31
  pub which : AnswersOf ended read now (over new) answered
  pub how : Converses ended turn cut over old (map heard answered) new output written
