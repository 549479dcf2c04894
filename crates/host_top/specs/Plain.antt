-- A conversation in which each line is answered by functions of the state (own).
use Rattle.std.specs.Prelude.{◌≡◌, ℕ, if◌then◌else◌, List, [], ◌∷◌, ◌++◌, map, Bool, true}
use Rattle.std.specs.Prelude.{Option, None, Some}
use Rattle.line_talk.specs.Conversation.{Line, Turn}
use Rattle.line_talk.specs.Lines.{heard}

-- how lines are answered: when no more are, the reply to a line, and the state after it
pub record Answering (State : Type 0) : Type 0 where
  pub is_over : State → Bool
  pub reply : State → Line → List ℕ
  pub next : State → Line → State

-- such a turn
abbrev pub Plain : {A : Type 0} → Answering A → Turn A
Plain by old line reply new = (reply ≡ by.reply old line) × (new ≡ by.next old line)

-- such a turn, of which the reply alone is told
abbrev pub PlainReply : {A : Type 0} → Answering A → Turn A
PlainReply by old line reply new = reply ≡ by.reply old line

-- the same by a state that may be gone, which then answers nothing
abbrev pub is_over_held : {A : Type 0} → Answering A → Option A → Bool
is_over_held by None = true
is_over_held by (Some state) = by.is_over state

abbrev pub reply_held : {A : Type 0} → Answering A → Option A → Line → List ℕ
reply_held by None line = []
reply_held by (Some state) line = by.reply state line

abbrev pub next_held : {A : Type 0} → Answering A → Option A → Line → Option A
next_held by None line = None
next_held by (Some state) line = Some (by.next state line)

abbrev pub answering_held : {A : Type 0} → Answering A → Answering (Option A)
answering_held by =
    record { is_over = is_over_held by; reply = reply_held by; next = next_held by }

-- the replies to lines as they are heard, none after the end
abbrev pub replies_heard : {S : Type 0} → Answering S → S → List Line → List ℕ
replies_heard by state [] = []
replies_heard by state (line ∷ lines) =
    if by.is_over state then []
    else by.reply state line ++ replies_heard by (by.next state line) lines

-- the state after lines as they are heard
abbrev pub after_heard : {S : Type 0} → Answering S → S → List Line → S
after_heard by state [] = state
after_heard by state (line ∷ lines) =
    if by.is_over state then state else after_heard by (by.next state line) lines

-- the replies to lines, none after the end
abbrev pub replies : {S : Type 0} → Answering S → S → List (List ℕ) → List ℕ
replies by state lines = replies_heard by state (map heard lines)

-- the state after lines
abbrev pub state_after_lines : {S : Type 0} → Answering S → S → List (List ℕ) → S
state_after_lines by state lines = after_heard by state (map heard lines)
