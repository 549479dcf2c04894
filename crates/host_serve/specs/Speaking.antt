-- A host as it answers the lines of one link (own).
use Rattle.std.specs.Prelude.{◌≡◌, ℕ, List, [], ◌∷◌, ◌++◌, Option}
use Rattle.line_words.specs.Reply.{print_reply}
use Rattle.line_words.specs.declared.reply.Reply.{Reply}
use Rattle.line_talk.specs.Conversation.{Line}
use Rattle.line_talk.specs.Lines.{heard}
use Rattle.story_run.specs.World.{WorldState}
use Rattle.session_core.specs.declared.entry.Entry.{Entry}
use Rattle.session_core.specs.declared.entry.Outcome.{Outcome}
use Rattle.host_serve.specs.declared.host.Host.{Host}
use Rattle.host_serve.specs.declared.mark.Mark.{Mark}
use Rattle.host_serve.specs.Chain.{Answers}
use Rattle.host_serve.specs.Holders.{Holder}
use Rattle.host_serve.specs.Serves.{AnsweredLine}

-- the host, who holds its passes, what these have seen, and the marks so far
pub record Speaking (D : Type 0) : Type 0 where
  pub host : Host D
  pub holders : List Holder
  pub seen : List (List Entry)
  pub marks : List Mark

-- a turn of this line
abbrev pub turn_with : List ℕ → Option WorldState → Outcome → Mark → Reply → AnsweredLine
turn_with line world outcome mark reply =
    record { line = line; world = world; outcome = outcome; mark = mark; reply = reply }

module _ {D : Type 0} where
  -- the same, but for what was seen and the marks
  abbrev pub seen_and_marked : Speaking D → List (List Entry) → List Mark → Speaking D
  seen_and_marked old seen marks = record old { seen = seen; marks = marks }

  -- A line is answered by a turn, and its mark is added. Of a line that was dropped as too long the
  -- same holds whatever it was.
  pub record Speaks (sound : Host D → Type 0) (old : Speaking D) (line : Line) (text : List ℕ)
      (new : Speaking D) : Type 0 where
    pub world : Option WorldState
    pub outcome : Outcome
    pub mark : Mark
    pub reply : Reply
    pub spelled : text ≡ print_reply reply
    pub answers :
        (bytes : List ℕ) → heard bytes ≡ line
        → Answers old.host.stories.now old.host.budget (sound old.host) old.holders old.seen
        (turn_with bytes world outcome mark reply) new.seen
    pub after : new ≡ seen_and_marked old new.seen (old.marks ++ mark ∷ [])
