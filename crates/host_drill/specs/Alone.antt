-- One session's turns on its lines, in which nothing fails (own).
use Rattle.std.specs.Prelude.{ℕ, List, [], ◌∷◌}
use Rattle.line_words.specs.declared.reply.Reply.{Reply}
use Rattle.session_core.specs.Turning.{Turned, turn_of}
use Rattle.session_core.specs.declared.entry.Entry.{Entry}
use Rattle.session_core.specs.declared.entry.Outcome.TheVariants.{Answered}
use Rattle.story_run.specs.declared.story.Story.{Story}

module _ (stories : List Story) (budget : ℕ) where
  -- the turn of a line on a history
  abbrev pub turn_alone : List Entry → List ℕ → Turned
  turn_alone history line = turn_of stories budget history 0 line Answered

  -- the replies to lines, one after the other
  abbrev pub replies_alone : List Entry → List (List ℕ) → List Reply
  replies_alone history [] = []
  replies_alone history (line ∷ lines) =
      (turn_alone history line).reply ∷ replies_alone (turn_alone history line).history lines

  -- the history behind these lines
  abbrev pub history_alone : List Entry → List (List ℕ) → List Entry
  history_alone history [] = history
  history_alone history (line ∷ lines) = history_alone (turn_alone history line).history lines
