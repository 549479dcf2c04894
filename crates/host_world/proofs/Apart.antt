-- Two runs that agree on a session.
use Rattle.std.proofs.Common.{List, None, Option, Some, [], ap, append_assoc, map, refl, subst, sym}
use Rattle.std.proofs.Common.{ℕ, ◌++◌, ◌∙◌, ◌∷◌, ◌≡◌}
use Rattle.std.proofs.lemmas.List.{append-nil}
use Rattle.std.specs.List.{slice_get}
use Rattle.gate_journal.specs.declared.command.Command.{Command}
use Rattle.line_words.specs.declared.reply.Reply.{Reply}
use Rattle.story_run.specs.declared.story.Story.{Story}
use Rattle.session_core.specs.Turning.{Turned, commands_in, decision_on, turn_met, turn_of}
use Rattle.session_core.specs.declared.entry.Entry.{Entry}
use Rattle.session_core.specs.declared.entry.Outcome.{Outcome}
use Rattle.session_core.specs.declared.entry.Outcome.TheVariants.{Answered, DiskFailed, Forgotten}
use Rattle.session_core.specs.declared.entry.Outcome.TheVariants.{OutOfMemory}
use Rattle.disk_model.specs.Plain.{agree}
use Rattle.host_world.specs.Events.{run}
use Rattle.host_world.specs.Happenings.{Cut, Ended, Happening, Opened, all_told}
use Rattle.host_world.specs.Happenings.{cut_at, history_left, replies_of, given_replies}
use Rattle.host_world.specs.Headline.{AreGiven, uncounted, uncounted_outcome, uncounted_reply}
use Rattle.host_world.specs.Sessions.{history_found}
use Rattle.host_world.specs.Starts.{IsStart}
use Rattle.host_world.specs.declared.event.JournalEvent.{JournalEvent}
use Rattle.host_world.specs.declared.state.JournalHost.{JournalHost}
use Rattle.host_world.specs.declared.turn.Session.{Session}
use Rattle.host_world.specs.declared.turn.Turn.{Turn}
use Rattle.host_world.proofs.Folds.{commands-accepted, commands-faulted, history-push, turn_is}
use Rattle.host_world.proofs.RowsOf.{commands-found}
use Rattle.host_world.proofs.Runs.{first_of, lives_on, run_well, start_well}
use Rattle.host_world.proofs.Sound.{TurnFact}
use Rattle.host_world.proofs.Stops.{cut_fact}

-- what a turn makes of equal commands
record SameTurn (a b : Turned) : Type 0 where
  reply : uncounted_reply a.reply ≡ uncounted_reply b.reply
  after_ : commands_in a.history ≡ commands_in b.history

same_answer : (h g : List Entry) (by to : ℕ) (outcome : Outcome) (reply : Reply)
    (o : Option Command) → commands_in h ≡ commands_in g
    → SameTurn (turn_met h by reply o outcome) (turn_met g to reply o (uncounted_outcome outcome))
same_answer h g by to Answered reply None is = record { reply = refl; after_ = is }
same_answer h g by to (DiskFailed from till) reply None is = record { reply = refl; after_ = is }
same_answer h g by to OutOfMemory reply o is = record { reply = refl; after_ = is }
same_answer h g by to Forgotten reply None is = record { reply = refl; after_ = is }
same_answer h g by to Answered reply (Some c) is =
    record {
      reply = refl;
      after_ = commands-accepted h by c
          ∙ ap (λ (l : List Command). l ++ c ∷ []) is ∙ sym (commands-accepted g to c);
    }
same_answer h g by to (DiskFailed from till) reply (Some c) is =
    record {
      reply = refl;
      after_ = commands-faulted h by from till ∙ is
          ∙ sym (commands-faulted g to 0 0);
    }
same_answer h g by to Forgotten reply (Some c) is =
    record {
      reply = refl;
      after_ = commands-accepted h by c
          ∙ ap (λ (l : List Command). l ++ c ∷ []) is ∙ sym (commands-accepted g to c);
    }

module _ (stories : List Story) (budget : ℕ) (premise : AreGiven stories budget) where
  -- the same, on the answer to those commands
  over : (h g : List Entry) (by to : ℕ) (line : List ℕ) (outcome : Outcome)
      → commands_in h ≡ commands_in g
      → SameTurn (turn_met h by (decision_on stories budget (commands_in h) line).reply
      (decision_on stories budget (commands_in h) line).accepted outcome)
      (turn_met g to (decision_on stories budget (commands_in g) line).reply
      (decision_on stories budget (commands_in g) line).accepted (uncounted_outcome outcome))
  over h g by to line outcome is =
      subst (λ (l : List Command). SameTurn
      (turn_met h by (decision_on stories budget (commands_in h) line).reply
      (decision_on stories budget (commands_in h) line).accepted outcome)
      (turn_met g to (decision_on stories budget l line).reply
      (decision_on stories budget l line).accepted (uncounted_outcome outcome))) is
      (same_answer h g by to outcome (decision_on stories budget (commands_in h) line).reply
      (decision_on stories budget (commands_in h) line).accepted is)

  same_turn : (h g : List Entry) (by to : ℕ) (line : List ℕ) (outcome : Outcome)
      → commands_in h ≡ commands_in g → SameTurn (turn_of stories budget h by line outcome)
      (turn_of stories budget g to line (uncounted_outcome outcome))
  same_turn h g by to line outcome is =
      subst (λ (t : Turned). SameTurn t (turn_of stories budget g to line
      (uncounted_outcome outcome))) (sym (turn_is stories budget h by line outcome))
      (subst (λ (t : Turned). SameTurn (turn_met h by
      (decision_on stories budget (commands_in h) line).reply
      (decision_on stories budget (commands_in h) line).accepted outcome) t)
      (sym (turn_is stories budget g to line (uncounted_outcome outcome)))
      (over h g by to line outcome is))

  both : (a b : Reply) (l m : List Reply) → a ≡ b → l ≡ m → a ∷ l ≡ b ∷ m
  both a b l m is same = ap (λ (r : Reply). r ∷ l) is ∙ ap (λ (k : List Reply). b ∷ k) same

  uncounted_replies : (past : List Happening) (h g : List Entry) → commands_in h ≡ commands_in g
      → map uncounted_reply (replies_of stories budget h past)
      ≡ map uncounted_reply (replies_of stories budget g (map uncounted past))
  uncounted_replies [] h g is = refl
  uncounted_replies (Ended pass line outcome ∷ past) h g is =
      let one = same_turn h g pass 0 line outcome is in
      both (uncounted_reply (turn_of stories budget h pass line outcome).reply)
      (uncounted_reply (turn_of stories budget g 0 line (uncounted_outcome outcome)).reply)
      (map uncounted_reply (replies_of stories budget
      (turn_of stories budget h pass line outcome).history past))
      (map uncounted_reply (replies_of stories budget
      (turn_of stories budget g 0 line (uncounted_outcome outcome)).history
      (map uncounted past)))
      one.reply (uncounted_replies past (turn_of stories budget h pass line outcome).history
      (turn_of stories budget g 0 line (uncounted_outcome outcome)).history one.after_)
  uncounted_replies (Cut pass line outcome ∷ past) h g is =
      uncounted_replies past (turn_of stories budget h pass line outcome).history
      (turn_of stories budget g 0 line (uncounted_outcome outcome)).history
      (same_turn h g pass 0 line outcome is).after_
  uncounted_replies (Opened cs ∷ past) h g is =
      uncounted_replies past (history_found (commands_in h ++ cs))
      (history_found (commands_in g ++ cs))
      (ap (λ (l : List Command). commands_in (history_found (l ++ cs))) is)

  pub isolated_holds :
      (w v : JournalHost) (es fs : List JournalEvent) → IsStart w → IsStart v → (s : ℕ) (x y : Session)
      → slice_get w.sessions s ≡ Some x → slice_get v.sessions s ≡ Some y
      → commands_in x.history ≡ commands_in y.history
      → map uncounted (all_told stories budget s w es)
      ≡ map uncounted (all_told stories budget s v fs)
      → map uncounted_reply (given_replies s (run stories budget w es).given)
      ≡ map uncounted_reply (given_replies s (run stories budget v fs).given)
  isolated_holds w v es fs ow ov s x y at_x at_y is agree =
      let one : given_replies s (run stories budget w es).given
      ≡ replies_of stories budget x.history (all_told stories budget s w es) =
      lives_on stories budget premise w es ow s x at_x in
      let two : given_replies s (run stories budget v fs).given
      ≡ replies_of stories budget y.history (all_told stories budget s v fs) =
      lives_on stories budget premise v fs ov s y at_y in
      ap (λ (l : List Reply). map uncounted_reply l) one
      ∙ uncounted_replies (all_told stories budget s w es) x.history y.history is
      ∙ ap (λ (l : List Happening). map uncounted_reply
      (replies_of stories budget y.history l)) agree
      ∙ sym (uncounted_replies (all_told stories budget s v fs) y.history y.history refl)
      ∙ ap (λ (l : List Reply). map uncounted_reply l) (sym two)

  abbrev Grows : List Command → List Command → Type 0
  Grows cs ds = (more : List Command) × (ds ≡ cs ++ more)

  grows_on : (cs ds es : List Command) → Grows cs ds → Grows ds es → Grows cs es
  grows_on cs ds es one two = (
    one.0 ++ two.0,
    two.1 ∙ ap (λ (l : List Command). l ++ two.0) one.1
        ∙ append_assoc cs one.0 two.0,
  )

  same_grows : (cs ds : List Command) → ds ≡ cs → Grows cs ds
  same_grows cs ds is = ([], is ∙ sym (append-nil cs))

  answer_grows : (h : List Entry) (by : ℕ) (outcome : Outcome) (reply : Reply) (o : Option Command)
      → Grows (commands_in h) (commands_in (turn_met h by reply o outcome).history)
  answer_grows h by Answered reply None = same_grows (commands_in h) (commands_in h) refl
  answer_grows h by (DiskFailed from to) reply None =
      same_grows (commands_in h) (commands_in h) refl
  answer_grows h by OutOfMemory reply o = same_grows (commands_in h) (commands_in h) refl
  answer_grows h by Forgotten reply None = same_grows (commands_in h) (commands_in h) refl
  answer_grows h by Answered reply (Some c) = (c ∷ [], commands-accepted h by c)
  answer_grows h by (DiskFailed from to) reply (Some c) =
      same_grows (commands_in h) (commands_in
      (turn_met h by reply (Some c) (DiskFailed from to)).history) (commands-faulted h by from to)
  answer_grows h by Forgotten reply (Some c) = (c ∷ [], commands-accepted h by c)

  turn_grows : (h : List Entry) (by : ℕ) (line : List ℕ) (outcome : Outcome)
      → Grows (commands_in h) (commands_in (turn_of stories budget h by line outcome).history)
  turn_grows h by line outcome =
      subst (λ (t : Turned). Grows (commands_in h) (commands_in t.history))
      (sym (turn_is stories budget h by line outcome))
      (answer_grows h by outcome (decision_on stories budget (commands_in h) line).reply
      (decision_on stories budget (commands_in h) line).accepted)

  history_grows : (past : List Happening) (h : List Entry)
      → Grows (commands_in h) (commands_in (history_left stories budget h past))
  history_grows [] h = same_grows (commands_in h) (commands_in h) refl
  history_grows (Ended pass line outcome ∷ past) h =
      grows_on (commands_in h) (commands_in (turn_of stories budget h pass line outcome).history)
      (commands_in (history_left stories budget
      (turn_of stories budget h pass line outcome).history past)) (turn_grows h pass line outcome)
      (history_grows past (turn_of stories budget h pass line outcome).history)
  history_grows (Cut pass line outcome ∷ past) h =
      grows_on (commands_in h) (commands_in (turn_of stories budget h pass line outcome).history)
      (commands_in (history_left stories budget
      (turn_of stories budget h pass line outcome).history past)) (turn_grows h pass line outcome)
      (history_grows past (turn_of stories budget h pass line outcome).history)
  history_grows (Opened cs ∷ past) h =
      grows_on (commands_in h) (commands_in (history_found (commands_in h ++ cs)))
      (commands_in (history_left stories budget (history_found (commands_in h ++ cs)) past))
      (cs, commands-found (commands_in h ++ cs))
      (history_grows past (history_found (commands_in h ++ cs)))

  pub nothing_lost :
      (w : JournalHost) (events later : List JournalEvent) → IsStart w → (s : ℕ) (x y : Session)
      → slice_get (run stories budget w events).sessions s ≡ Some x → x.turn ≡ None
      → slice_get (run stories budget (run stories budget w events) later).sessions s ≡ Some y
      → Grows (commands_in x.history) (commands_in y.history)
  nothing_lost w events later o s x y at free_ at_later =
      let one =
      run_well stories budget premise events (first_of stories budget premise w) (λ k. []) w
      (start_well stories budget premise w o) in
      let two =
      run_well stories budget premise later (first_of stories budget premise w)
      (λ k. all_told stories budget k w events) (run stories budget w events) one in
      let h = first_of stories budget premise w s in
      let past = all_told stories budget s w events in
      let more = all_told stories budget s (run stories budget w events) later in
      let was : x.history ≡ history_left stories budget (first_of stories budget premise w s)
      (all_told stories budget s w events) =
      subst (λ (t : Option Turn). TurnFact stories budget
      (history_left stories budget (first_of stories budget premise w s)
      (all_told stories budget s w events)) x.history t) free_ (one.each s x at).turn in
      let now : y.history ≡ history_left stories budget x.history
      (all_told stories budget s (run stories budget w events) later ++ cut_at y.turn) =
      cut_fact stories budget h (past ++ more) y.history y.turn (two.each s y at_later).turn
      ∙ ap (λ (l : List Happening). history_left stories budget
      (first_of stories budget premise w s) l) (append_assoc past more (cut_at y.turn))
      ∙ history-push stories budget (first_of stories budget premise w s) past
      (more ++ cut_at y.turn)
      ∙ ap (λ (k : List Entry). history_left stories budget k
      (all_told stories budget s (run stories budget w events) later ++ cut_at y.turn))
      (sym was) in
      let grown =
      history_grows (all_told stories budget s
      (run stories budget w events) later ++ cut_at y.turn) x.history in
      (grown.0, ap (λ (k : List Entry). commands_in k) now ∙ grown.1)
