-- Turns in one session, one after the other, by passes that were never split.
use Rattle.std.proofs.Common.{◌≡◌, ◌≢◌, ℕ, suc, ◌+◌, ◌<◌, List, [], ◌∷◌, ◌++◌, length, map}
use Rattle.std.proofs.Common.{set, refl, ap, ◌∙◌, subst, arith, false, Bool, Option, Some, None}
use Rattle.std.proofs.lemmas.List.{get_or-set_same, get_or-set_other}
use Rattle.turn_cell.specs.History.{Each}
use Rattle.gate_journal.specs.declared.command.Command.{Command}
use Rattle.host_serve.specs.Chain.{AnswersInOrder}
use Rattle.host_serve.specs.Holders.{seen_at}
use Rattle.host_serve.specs.Opening.{roots}
use Rattle.host_serve.specs.Serves.{AnsweredLine}
use Rattle.host_serve.proofs.AloneLemmas.{IsMet, met_one}
use Rattle.host_serve.proofs.ChainLemmas.{answer_wide}
use Rattle.host_serve.proofs.SaidLemmas.{IsPlayers, turn_player}
use Rattle.host_serve.specs.Said.{said_on, turn_said_on}
use Rattle.line_words.specs.Request.{request_of}
use Rattle.line_words.specs.declared.reply.Reply.{Reply}
use Rattle.line_words.specs.declared.reply.Reply.TheVariants as replies
use Rattle.reply_tally.specs.Refusals.{is_failure}
use Rattle.session_core.specs.Hosts.{session_on}
use Rattle.session_core.specs.Turning.{MayMeet, commands_in, decision_on, turn_met, turn_of}
use Rattle.session_core.specs.declared.entry.Entry.{Entry}
use Rattle.session_core.specs.declared.entry.Entry.TheVariants as entries
use Rattle.session_core.specs.declared.entry.Outcome.{Outcome}
use Rattle.session_core.specs.declared.entry.Outcome.TheVariants.{Answered, DiskFailed}
use Rattle.session_core.specs.declared.entry.Outcome.TheVariants.{Forgotten, OutOfMemory}
use Rattle.story_run.specs.declared.story.Story.{Story}
use Rattle.host_drill.specs.Alone.{history_alone, replies_alone, turn_alone}

abbrev Histories : Type 0
Histories = List (List Entry)

-- a reply that says that the host failed
abbrev pub is_failing : Reply → Bool
is_failing (replies.Show s n body) = false
is_failing (replies.No why) = is_failure why
is_failing (replies.Seen s from to text) = false

-- the turn is one of this session, and a player's
abbrev pub IsOn : ℕ → AnsweredLine → Type 0
IsOn s t = (session_on t.line ≡ s) × IsPlayers (request_of t.line)

module _ (stories : List Story) (budget : ℕ) where
  -- ---- what a turn met

  met_fine : (h : List Entry) (reply : Reply) (accepted : Option Command) (outcome : Outcome)
      → MayMeet accepted outcome
      → is_failing (turn_met h 0 reply accepted outcome).reply ≡ false → outcome ≡ Answered
  met_fine h reply None Answered may fine = refl
  met_fine h reply None OutOfMemory may fine = cc
  met_fine h reply None (DiskFailed from to) may fine = absurd may
  met_fine h reply None Forgotten may fine = absurd may
  met_fine h reply (Some command) Answered may fine = refl
  met_fine h reply (Some command) OutOfMemory may fine = cc
  met_fine h reply (Some command) (DiskFailed from to) may fine = cc
  met_fine h reply (Some command) Forgotten may fine = cc

  -- a turn whose reply doesn't say so met nothing
  turn_fine : (h : List Entry) (line : List ℕ) (outcome : Outcome)
      → MayMeet (said_on stories budget (commands_in h) line).accepted outcome
      → is_failing (turn_said_on stories budget h 0 line outcome).reply ≡ false
      → outcome ≡ Answered
  unfolding turn_said_on
  turn_fine h line outcome may fine =
      met_fine h (said_on stories budget (commands_in h) line).reply
      (said_on stories budget (commands_in h) line).accepted outcome may fine

  -- ---- histories that have commands alone

  abbrev AreCommands : List Entry → Type 0
  AreCommands h = length (commands_in h) ≡ length h

  one_more : (h : List Entry) (command : Command)
      → AreCommands h
      → AreCommands (h ++ entries.Accepted 0 command ∷ [])
  one_more [] command are = refl
  one_more (entries.Accepted by first ∷ h) command are =
      ap suc (one_more h command (omega (arith, are)))
  one_more (entries.Faulted by from to ∷ h) command are = absurd (omega (arith, are, fewer h))
    where
      fewer : (g : List Entry) → length (commands_in g) < length g + 1
      fewer [] = omega arith
      fewer (entries.Accepted n c ∷ g) = omega (arith, fewer g)
      fewer (entries.Faulted n a b ∷ g) = omega (arith, fewer g)

  met_commands : (h : List Entry) (reply : Reply) (accepted : Option Command)
      → AreCommands h
      → AreCommands (turn_met h 0 reply accepted Answered).history
  met_commands h reply None are = are
  met_commands h reply (Some command) are = one_more h command are

  turn_commands : (h : List Entry) (line : List ℕ)
      → AreCommands h
      → AreCommands (turn_alone stories budget h line).history
  unfolding turn_of
  turn_commands h line are =
      met_commands h (decision_on stories budget (commands_in h) line).reply
      (decision_on stories budget (commands_in h) line).accepted are

  pub are_commands : (h : List Entry) (lines : List (List ℕ))
      → AreCommands h
      → AreCommands (history_alone stories budget h lines)
  are_commands h [] are = are
  are_commands h (line ∷ lines) are =
      are_commands (turn_alone stories budget h line).history lines (turn_commands h line are)

  -- ---- in one session

  -- the session's replies and its history are those of the session alone
  pub record IsAlone (h : List Entry) (turns : List AnsweredLine)
      (after : List Entry) : Type 0 where
    pub replies : map (λ (t : AnsweredLine). t.reply) turns
        ≡ replies_alone stories budget h (map (λ (t : AnsweredLine). t.line) turns)
    pub history : after ≡ history_alone stories budget h (map (λ (t : AnsweredLine). t.line) turns)

  record IsAloneOnce (h : List Entry) (t : AnsweredLine) (after : List Entry) : Type 0 where
    reply : t.reply ≡ (turn_alone stories budget h t.line).reply
    history : after ≡ (turn_alone stories budget h t.line).history

  alone_more : (h : List Entry) (t : AnsweredLine) (mid : List Entry) (turns : List AnsweredLine)
      (after : List Entry)
      → IsAloneOnce h t mid → IsAlone mid turns after
      → IsAlone h (t ∷ turns) after
  alone_more h t mid turns after one more =
      let lines : List (List ℕ) = map (λ (u : AnsweredLine). u.line) turns in
      record {
        replies = ap (λ (r : Reply). r ∷ map (λ (u : AnsweredLine). u.reply) turns) one.reply
            ∙ ap (λ (rs : List Reply). (turn_alone stories budget h t.line).reply ∷ rs)
            (more.replies
            ∙ ap (λ (g : List Entry). replies_alone stories budget g lines) one.history);
        history =
            more.history
            ∙ ap (λ (g : List Entry). history_alone stories budget g lines) one.history;
      }

  -- where the host is sound
  module _ (sound : Type 0) (sure : sound) (s : ℕ) (below : s < 64) where
    others_one : (old : Histories) (t : AnsweredLine) (new : Histories)
        → IsMet stories budget old t new → IsOn s t → (k : ℕ)
        → k ≢ s → seen_at new k ≡ seen_at old k
    others_one old t new m on k other =
        ap (λ (h : Histories). seen_at h k) m.after
        ∙ get_or-set_other old (session_on t.line) k _ []
        (λ (e : k ≡ session_on t.line). other (e ∙ on.0))

    -- other sessions have what they had
    pub others_all : (old : Histories) (turns : List AnsweredLine) (new : Histories)
        → length old ≡ 64
        → AnswersInOrder stories budget sound roots old turns new
        → Each (IsOn s) turns → (k : ℕ) → k ≢ s → seen_at new k ≡ seen_at old k
    others_all old [] new wide c on k other = ap (λ (h : Histories). seen_at h k) c
    others_all old (t ∷ turns) new wide c on k other =
        others_all c.0 turns new
        (answer_wide stories budget sound roots old t c.0 wide c.1) c.2 on.1 k other
        ∙ others_one old t c.0 (met_one stories budget sound sure old t c.0 wide c.1) on.0 k other

    alone_one : (old : Histories) (t : AnsweredLine) (new : Histories)
        → length old ≡ 64 → IsMet stories budget old t new
        → IsOn s t → is_failing t.reply ≡ false
        → IsAloneOnce (seen_at old s) t (seen_at new s)
    alone_one old t new wide m on fine =
        let there : seen_at old (session_on t.line) ≡ seen_at old s =
        ap (λ (k : ℕ). seen_at old k) on.0 in
        let is_fine : is_failing
        (turn_said_on stories budget (seen_at old (session_on t.line)) 0 t.line t.outcome).reply
        ≡ false
        = subst (λ (r : Reply). is_failing r ≡ false) m.said fine in
        let behind : List Entry =
        (turn_said_on stories budget (seen_at old (session_on t.line)) 0 t.line t.outcome).history
        in
        let met : t.outcome ≡ Answered =
        turn_fine (seen_at old (session_on t.line)) t.line t.outcome m.may is_fine in
        let turned :
        turn_said_on stories budget (seen_at old (session_on t.line)) 0 t.line t.outcome
        ≡ turn_alone stories budget (seen_at old s) t.line
        = ap (λ (o : Outcome).
        turn_said_on stories budget (seen_at old (session_on t.line)) 0 t.line o) met
        ∙ ap (λ (h : List Entry). turn_said_on stories budget h 0 t.line Answered) there
        ∙ turn_player stories budget (seen_at old s) 0 t.line Answered on.1 in
        record {
          reply = m.said ∙ ap (λ u. u.reply) turned;
          history = ap (λ (h : Histories). seen_at h s) m.after
              ∙ ap (λ (k : ℕ). seen_at (set old k behind) s) on.0
              ∙ get_or-set_same old s behind [] (omega (arith, wide, below))
              ∙ ap (λ u. u.history) turned;
        }

    pub alone_all : (old : Histories) (turns : List AnsweredLine) (new : Histories)
        → length old ≡ 64
        → AnswersInOrder stories budget sound roots old turns new
        → Each (IsOn s) turns
        → Each (λ (t : AnsweredLine). is_failing t.reply ≡ false) turns
        → IsAlone (seen_at old s) turns (seen_at new s)
    alone_all old [] new wide c on fine =
        record { replies = refl; history = ap (λ (h : Histories). seen_at h s) c }
    alone_all old (t ∷ turns) new wide c on fine =
        alone_more (seen_at old s) t (seen_at c.0 s) turns (seen_at new s)
        (alone_one old t c.0 wide
        (met_one stories budget sound sure old t c.0 wide c.1) on.0 fine.0)
        (alone_all c.0 turns new
        (answer_wide stories budget sound roots old t c.0 wide c.1) c.2 on.1 fine.1)
