-- The turns of a host's lines, one after the other, each on the history of the session that it
-- names, in that session's own world (own).
use Rattle.std.specs.Prelude.{ℕ, List, [], ◌∷◌, slice_set}
use Rattle.line_words.specs.declared.reply.Reply.{Reply}
use Rattle.story_run.specs.declared.story.Story.{Story}
use Rattle.session_core.specs.declared.decision.Decision.{Decision}
use Rattle.session_core.specs.declared.entry.Entry.{Entry}
use Rattle.session_core.specs.declared.entry.Outcome.{Outcome}
use Rattle.session_core.specs.Hosts.{entries_of, session_on}
use Rattle.session_core.specs.Turning.{commands_in, MayMeet, Turned}
use Rattle.host_serve.specs.Said.{said_on, turn_said_on}

-- what is said to a line by the session that it names
abbrev pub said_at : List Story → ℕ → List (List Entry) → List ℕ → Decision
said_at stories budget histories line =
    said_on stories budget (commands_in (entries_of histories (session_on line))) line

-- the turn of a line on the history of the session that it names
abbrev pub turn_on_line : List Story → ℕ → List (List Entry) → ℕ → List ℕ → Outcome → Turned
turn_on_line stories budget histories by line outcome =
    turn_said_on stories budget (entries_of histories (session_on line)) by line outcome

-- the histories behind that turn
abbrev pub histories_after : List Story → ℕ → List (List Entry) → ℕ → List ℕ → Outcome
    → List (List Entry)
histories_after stories budget histories by line outcome =
    slice_set histories (session_on line)
    (turn_on_line stories budget histories by line outcome).history

-- one outcome for each line, each such that the line's turn may meet it
abbrev pub AreMet : List Story → ℕ → List (List Entry) → ℕ → List (List ℕ) → List Outcome
    → Type 0
AreMet stories budget histories by [] [] = Unit {0}
AreMet stories budget histories by [] (outcome ∷ outcomes) = ⊥
AreMet stories budget histories by (line ∷ lines) [] = ⊥
AreMet stories budget histories by (line ∷ lines) (outcome ∷ outcomes) =
    MayMeet (said_at stories budget histories line).accepted outcome
    × AreMet stories budget (histories_after stories budget histories by line outcome) by lines
    outcomes

-- the replies to lines, one after the other, by what their turns met
abbrev pub replies_met : List Story → ℕ → List (List Entry) → ℕ → List (List ℕ)
    → List Outcome → List Reply
replies_met stories budget histories by [] outcomes = []
replies_met stories budget histories by (line ∷ lines) [] = []
replies_met stories budget histories by (line ∷ lines) (outcome ∷ outcomes) =
    (turn_on_line stories budget histories by line outcome).reply
    ∷ replies_met stories budget (histories_after stories budget histories by line outcome) by
    lines outcomes

-- the histories behind these lines
abbrev pub histories_met : List Story → ℕ → List (List Entry) → ℕ → List (List ℕ)
    → List Outcome → List (List Entry)
histories_met stories budget histories by [] outcomes = histories
histories_met stories budget histories by (line ∷ lines) [] = histories
histories_met stories budget histories by (line ∷ lines) (outcome ∷ outcomes) =
    histories_met stories budget (histories_after stories budget histories by line outcome) by
    lines outcomes
