-- One happening more, one reply more, one entry more.
use Rattle.std.proofs.Common.{Bool, List, Option, Some, [], ap, arith, false, inl, inr, refl, sym}
use Rattle.std.proofs.Common.{true, ℕ, ◌++◌, ◌==◌, ◌∙◌, ◌∷◌, ◌≡◌, ◌≢◌}
use Rattle.std.proofs.lemmas.Bool.{cases_Bool}
use Rattle.std.proofs.lemmas.Bool.Decides.{nat_tests}
use Rattle.std.proofs.lemmas.List.{append-nil}
use Rattle.std.specs.Prelude.{if◌then◌else◌}
use Rattle.gate_journal.specs.declared.command.Command.{Command}
use Rattle.line_words.specs.declared.reply.Reply.{Reply}
use Rattle.story_run.specs.declared.story.Story.{Story}
use Rattle.session_core.specs.Turning.{commands_in, decision_on, turn_met, turn_of}
use Rattle.session_core.specs.declared.entry.Entry.{Entry}
use Rattle.session_core.specs.declared.entry.Entry.TheVariants.{Accepted, Faulted}
use Rattle.session_core.specs.declared.entry.Outcome.{Outcome}
use Rattle.session_core.specs.declared.entry.Outcome.TheVariants.{Answered, DiskFailed, Forgotten}
use Rattle.session_core.specs.declared.entry.Outcome.TheVariants.{OutOfMemory}
use Rattle.host_world.specs.Happenings.{Cut, Ended, Happening, Opened, history_left, replies_of}
use Rattle.host_world.specs.Happenings.{given_replies}
use Rattle.host_world.specs.Pending.{command_listed, pending_at}
use Rattle.host_world.specs.declared.state.Given.{Given}
use Rattle.host_world.specs.declared.turn.Phase.TheVariants.{Ready}
use Rattle.host_world.proofs.Sound.{IsAppendOutcome}

pub commands-accepted : (h : List Entry) (by : ℕ) (c : Command)
    → commands_in (h ++ Accepted by c ∷ []) ≡ commands_in h ++ c ∷ []
commands-accepted [] by c = refl
commands-accepted (Accepted b d ∷ h) by c =
    ap (λ (l : List Command). d ∷ l) (commands-accepted h by c)
commands-accepted (Faulted b f t ∷ h) by c = commands-accepted h by c

pub commands-faulted : (h : List Entry) (by from to : ℕ)
    → commands_in (h ++ Faulted by from to ∷ []) ≡ commands_in h
commands-faulted [] by from to = refl
commands-faulted (Accepted b d ∷ h) by from to =
    ap (λ (l : List Command). d ∷ l) (commands-faulted h by from to)
commands-faulted (Faulted b f t ∷ h) by from to = commands-faulted h by from to

pub eq_self : (s : ℕ) → (s == s) ≡ true
eq_self s = grind (arith, nat_tests)

pub eq_other : (s n : ℕ) → n ≢ s → (s == n) ≡ false
eq_other s n other = grind (arith, nat_tests)

pub replies_to-one : (s : ℕ) (given : List Given) (reply : Reply)
    → given_replies s (given ++ record { session = s; reply = reply } ∷ [])
    ≡ given_replies s given ++ reply ∷ []
replies_to-one s [] reply = ap (λ (b : Bool). if b then reply ∷ [] else []) (eq_self s)
replies_to-one s (g ∷ given) reply = elim (cases_Bool (g.session == s)) [
  | inl it_is ↦ rw it_is (ap (λ (l : List Reply). g.reply ∷ l) (replies_to-one s given reply))
  | inr not_so ↦ rw not_so (replies_to-one s given reply)
]

pub replies_to-other : (s n : ℕ) (reply : Reply) → n ≢ s
    → given_replies n (record { session = s; reply = reply } ∷ []) ≡ []
replies_to-other s n reply other =
    ap (λ (b : Bool). if b then reply ∷ [] else []) (eq_other s n other)

module _ (stories : List Story) (budget : ℕ) where
  pub history-push : (h : List Entry) (past : List Happening) (more : List Happening)
      → history_left stories budget h (past ++ more)
      ≡ history_left stories budget (history_left stories budget h past) more
  history-push h [] more = refl
  history-push h (Ended pass line outcome ∷ past) more =
      history-push (turn_of stories budget h pass line outcome).history past more
  history-push h (Cut pass line outcome ∷ past) more =
      history-push (turn_of stories budget h pass line outcome).history past more
  history-push h (Opened cs ∷ past) more = history-push _ past more

  pub replies-push : (h : List Entry) (past more : List Happening)
      → replies_of stories budget h (past ++ more)
      ≡ replies_of stories budget h past ++ replies_of stories budget
      (history_left stories budget h past) more
  replies-push h [] more = refl
  replies-push h (Ended pass line outcome ∷ past) more =
      ap (λ (l : List Reply). (turn_of stories budget h pass line outcome).reply ∷ l)
      (replies-push (turn_of stories budget h pass line outcome).history past more)
  replies-push h (Cut pass line outcome ∷ past) more =
      replies-push (turn_of stories budget h pass line outcome).history past more
  replies-push h (Opened cs ∷ past) more = replies-push _ past more

  -- what a turn gives
  pub turn_is :
      (h : List Entry) (by : ℕ) (line : List ℕ) (outcome : Outcome)
      → turn_of stories budget h by line outcome
      ≡ turn_met h by (decision_on stories budget (commands_in h) line).reply
      (decision_on stories budget (commands_in h) line).accepted outcome
  unfolding turn_of
  turn_is h by line outcome = refl

  -- the history of a turn that accepts this command
  pub history_with :
      (h : List Entry) (by : ℕ) (line : List ℕ) (outcome : Outcome) (c : Command)
      → (decision_on stories budget (commands_in h) line).accepted ≡ Some c
      → (turn_of stories budget h by line outcome).history
      ≡ (turn_met h by (decision_on stories budget (commands_in h) line).reply
      (Some c) outcome).history
  history_with h by line outcome c is = rw (turn_is h by line outcome, is) refl

  -- the entry of a turn brings the commands of its history up to its row
  pub entry_rows :
      (h : List Entry) (by : ℕ) (line : List ℕ) (outcome : Outcome) (c : Command)
      → (decision_on stories budget (commands_in h) line).accepted ≡ Some c
      → IsAppendOutcome outcome
      → commands_in (turn_of stories budget h by line outcome).history ++ []
      ≡ commands_in h ++ pending_at stories budget (commands_in h) line (Ready outcome)
  entry_rows h by line Answered c is outcome =
      append-nil _
      ∙ ap (λ (l : List Entry). commands_in l) (history_with h by line Answered c is)
      ∙ commands-accepted h by c
      ∙ ap (λ (o : Option Command). commands_in h ++ command_listed o) (sym is)
  entry_rows h by line Forgotten c is outcome =
      append-nil _
      ∙ ap (λ (l : List Entry). commands_in l) (history_with h by line Forgotten c is)
      ∙ commands-accepted h by c
      ∙ ap (λ (o : Option Command). commands_in h ++ command_listed o) (sym is)
  entry_rows h by line (DiskFailed from to) c is outcome =
      append-nil _
      ∙ ap (λ (l : List Entry). commands_in l) (history_with h by line (DiskFailed from to) c is)
      ∙ commands-faulted h by from to
      ∙ sym (append-nil (commands_in h))
  entry_rows h by line OutOfMemory c is outcome = absurd outcome
