-- What a call tells of the lines that it answered (own).
use Rattle.std.specs.Prelude.{◌≡◌, ◌⊎◌, ℕ, ◌^◌, ◌≤◌, List, ◌∷◌, [], ◌++◌, length, map, Option}
use Rattle.line_talk.specs.Conversation.{texts_joined}
use Rattle.line_talk.specs.Streams.{SourceState, SinkState, Gave, Wrote}
use Rattle.line_talk.specs.Talked.{AnsweredOf}
use Rattle.line_talk.specs.Writing.{IsPartOf}
use Rattle.line_talk.specs.declared.ended.Ended.{Ended}
use Rattle.line_talk.specs.declared.ended.Ended.TheVariants.{End, ReadFault, WriteFault}
use Rattle.line_talk.specs.declared.ended.Ended.TheVariants.{LineLimit, NoMemory}
use Rattle.line_words.specs.Reply.{print_reply}
use Rattle.line_words.specs.declared.reply.Reply.{Reply}
use Rattle.story_run.specs.World.{WorldState}
use Rattle.host_serve.specs.declared.answer.Answer.{Answer}
use Rattle.host_serve.specs.declared.mark.Mark.{Mark}
use Rattle.host_serve.specs.Serves.{AnsweredLine}
use Rattle.host_serve.specs.Speaking.{turn_with}

-- the turn of a line with this answer, in this world
abbrev pub turn_from : List ℕ → Option WorldState → Answer → AnsweredLine
turn_from line world answer = turn_with line world answer.outcome answer.mark answer.reply

-- all replies were written but for an end of the last one
pub record IsCutText (written : List ℕ) (replies : List Reply) : Type 0 where
  pub before : List Reply
  pub last : Reply
  pub part : List ℕ
  pub all : replies ≡ before ++ last ∷ []
  pub begins : IsPartOf part (print_reply last)
  pub text : written ≡ texts_joined (map print_reply before) ++ part

-- what is written of the replies to the answered lines, by how the call ended
abbrev pub WritesReplies : Ended → List ℕ → List Reply → Type 0
WritesReplies End written replies = written ≡ texts_joined (map print_reply replies)
WritesReplies ReadFault written replies = written ≡ texts_joined (map print_reply replies)
WritesReplies WriteFault written replies = IsCutText written replies
WritesReplies LineLimit written replies = written ≡ texts_joined (map print_reply replies)
WritesReplies NoMemory written replies =
    IsCutText written replies ⊎ (written ≡ texts_joined (map print_reply replies))

-- what was read, which lines of it had these turns, what was written, and the marks
pub record TellsLink (turns : List AnsweredLine) (input now : SourceState) (output new : SinkState)
    (old_marks new_marks : List Mark) (served : Ended) : Type 0 where
  pub read : List ℕ
  pub written : List ℕ
  pub gave : Gave input now read
  pub within : length read ≤ 2 ^ 31
  pub lines : AnsweredOf served read now (map (λ (t : AnsweredLine). t.line) turns)
  pub wrote : Wrote output new written
  pub replies : WritesReplies served written (map (λ (t : AnsweredLine). t.reply) turns)
  pub marks : new_marks ≡ old_marks ++ map (λ (t : AnsweredLine). t.mark) turns
