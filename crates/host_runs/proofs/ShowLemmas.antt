-- The shows that turns give are kept.
use Rattle.std.proofs.Common.{◌≡◌, inl, inr, ℕ, ◌<◌, ◌≤◌, List, [], ◌∷◌, ◌++◌, length}
use Rattle.std.proofs.Common.{None, Option, Some, ap, refl, sym, subst, ◌∙◌, arith}
use Rattle.std.proofs.Common.{append_assoc, append-nil, length-set, nat_le, Bool, cond, true, false}
use Rattle.std.proofs.lemmas.Bool.{cases_lt}
use Rattle.std.proofs.lemmas.Bool.Decides.{nat_tests}
use Rattle.std.proofs.lemmas.List.{get_or_past, get_or-set_other, get_or-set_same}
use native.Mathlib.Decide.{ℕ_discrete}
use Rattle.turn_cell.specs.History.{Each}
use Rattle.turn_cell.proofs.HistoryLemmas.{each_append}
use Rattle.gate_journal.specs.Rows.{commands_of}
use Rattle.gate_journal.specs.declared.command.Command.{Command}
use Rattle.gate_journal.specs.declared.row.Row.{Row}
use Rattle.line_words.specs.Request.{request_of}
use Rattle.line_words.specs.declared.reply.No.{No as Refusal}
use Rattle.line_words.specs.declared.reply.No.TheVariants as no
use Rattle.line_words.specs.declared.reply.Reply.{Reply}
use Rattle.line_words.specs.declared.reply.Reply.TheVariants.{No, Seen, Show}
use Rattle.line_words.specs.declared.request.Request.{Request}
use Rattle.line_words.specs.declared.request.Request.TheVariants.{Open, Line, Char, File, Size}
use Rattle.line_words.specs.declared.request.Request.TheVariants.{Last, Close, Watch}
use Rattle.story_run.specs.declared.story.Story.{Story}
use Rattle.session_core.specs.declared.decision.Decision.{Decision}
use Rattle.session_core.specs.declared.entry.Entry.{Entry}
use Rattle.session_core.specs.declared.entry.Entry.TheVariants.{Accepted, Faulted}
use Rattle.session_core.specs.declared.entry.Outcome.{Outcome}
use Rattle.session_core.specs.declared.entry.Outcome.TheVariants.{Answered, DiskFailed, Forgotten}
use Rattle.session_core.specs.declared.entry.Outcome.TheVariants.{OutOfMemory}
use Rattle.session_core.specs.Answer.{answer, decided, history_extended, refusal_of, refusal_in}
use Rattle.session_core.specs.Answer.{first_refusal, game_show}
use Rattle.session_core.specs.Checks.{is_watch, session_of}
use Rattle.session_core.specs.History.{game_of}
use Rattle.host_serve.specs.Alone.{histories_after, histories_met, turn_on_line}
use Rattle.host_serve.specs.Said.{said_on, said_to, turn_said_on}
use Rattle.session_core.specs.Hosts.{entries_of, session_in, session_on}
use Rattle.session_core.specs.Sessions.{with_budget}
use Rattle.session_core.specs.Turning.{Turned, commands_in, decided_by, decision_on, turn_met}
use Rattle.story_watch.specs.Watch.{reply_unless, seen_reply, watch_checks, watch_reply}
use Rattle.folder_runs.specs.Runs.{StandsInRows}
use Rattle.host_runs.specs.Shows.{ShowsAreKept, show_in_reply, shows_met}

-- ---- one entry more

commands-accepted : (h : List Entry) (by : ℕ) (c : Command)
    → commands_in (h ++ Accepted by c ∷ []) ≡ commands_in h ++ c ∷ []
commands-accepted [] by c = refl
commands-accepted (Accepted b d ∷ h) by c =
    ap (λ (l : List Command). d ∷ l) (commands-accepted h by c)
commands-accepted (Faulted b f t ∷ h) by c = commands-accepted h by c

commands-faulted : (h : List Entry) (by from to : ℕ)
    → commands_in (h ++ Faulted by from to ∷ []) ≡ commands_in h
commands-faulted [] by from to = refl
commands-faulted (Accepted b d ∷ h) by from to =
    ap (λ (l : List Command). d ∷ l) (commands-faulted h by from to)
commands-faulted (Faulted b f t ∷ h) by from to = commands-faulted h by from to

-- ---- a show is the story's, run alone

-- a decision's show is that of the commands with the accepted one
abbrev IsSolo : List Story → List Command → Decision → Type 0
IsSolo stories cs d =
    (s n : ℕ) (show : List ℕ) → d.reply ≡ Show s n show
    → show ≡ game_show stories (game_of (history_extended cs d.accepted))

decided_solo : (stories : List Story) (cs : List Command) (request : Request)
    (refusal : Option Refusal)
    → IsSolo stories cs (decided stories (game_of cs)
    (λ accepted. game_show stories (game_of (history_extended cs accepted))) request refusal)
decided_solo stories cs request (Some why) s n show is = absurd cc
decided_solo stories cs request None s n show is = sym cc

answer_solo : (stories : List Story) (cs : List Command) (request : Request)
    → IsSolo stories cs (answer stories cs request)
unfolding answer
answer_solo stories cs request =
    decided_solo stories cs request (refusal_of stories cs (game_of cs) request)

read_solo : (stories : List Story) (budget : ℕ) (cs : List Command) (line : List ℕ)
    (read : Option Request)
    → IsSolo stories cs (decided_by (λ request. answer stories cs (with_budget budget request))
    line read)
read_solo stories budget cs line (Some request) =
    answer_solo stories cs (with_budget budget request)
read_solo stories budget cs line None = λ s n show is. absurd cc

decision_solo : (stories : List Story) (budget : ℕ) (cs : List Command) (line : List ℕ)
    → IsSolo stories cs (decision_on stories budget cs line)
unfolding decision_on
decision_solo stories budget cs line = read_solo stories budget cs line (request_of line)

abbrev ShowsNot : Reply → Type 0
ShowsNot reply = (s n : ℕ) (show : List ℕ) → reply ≡ Show s n show → ⊥

-- a spectator is shown no reply of a turn
unless_not : (refusal : Option Refusal) (seen : Reply) → ShowsNot seen
    → ShowsNot (reply_unless refusal seen)
unless_not (Some why) seen never s n show is = cc
unless_not None seen never s n show is = never s n show is

watch_not : (stories : List Story) (cs : List Command) (s : ℕ) (word : List ℕ) (from : ℕ)
    → ShowsNot (watch_reply stories cs s word from)
watch_not stories cs s word from =
    unless_not (first_refusal (watch_checks stories (game_of cs) s word from))
    (seen_reply stories (game_of cs) s from) (λ t n show is. absurd cc)

to_solo : (stories : List Story) (cs : List Command) (d : Decision) (read : Option Request)
    → IsSolo stories cs d → IsSolo stories cs (said_to stories cs d read)
to_solo stories cs d None solo = solo
to_solo stories cs d (Some (Open s key story seed cols rows own)) solo = solo
to_solo stories cs d (Some (Line s key n win text term)) solo = solo
to_solo stories cs d (Some (Char s key n win code)) solo = solo
to_solo stories cs d (Some (File s key n name)) solo = solo
to_solo stories cs d (Some (Size s key n cols rows)) solo = solo
to_solo stories cs d (Some (Last s key)) solo = solo
to_solo stories cs d (Some (Close s key n)) solo = solo
to_solo stories cs d (Some (Watch s word from)) solo =
    λ t n show is. absurd (watch_not stories cs s word from t n show is)

said_solo : (stories : List Story) (budget : ℕ) (cs : List Command) (line : List ℕ)
    → IsSolo stories cs (said_on stories budget cs line)
unfolding said_on
said_solo stories budget cs line =
    to_solo stories cs (decision_on stories budget cs line) (request_of line)
    (decision_solo stories budget cs line)

abbrev Alone : List Story → Turned → Type 0
Alone stories t =
    (s n : ℕ) (show : List ℕ) → t.reply ≡ Show s n show
    → show ≡ game_show stories (game_of (commands_in t.history))

-- an accepted command is the history's last one
met_alone :
    (stories : List Story) (h : List Entry) (by : ℕ) (reply : Reply) (accepted : Option Command)
    (outcome : Outcome)
    → IsSolo stories (commands_in h) (record { reply = reply; accepted = accepted })
    → Alone stories (turn_met h by reply accepted outcome)
met_alone stories h by reply accepted OutOfMemory solo s n show is = absurd cc
met_alone stories h by reply None Answered solo s n show is = solo s n show is
met_alone stories h by reply None (DiskFailed from to) solo s n show is = solo s n show is
met_alone stories h by reply None Forgotten solo s n show is = solo s n show is
met_alone stories h by reply (Some command) Answered solo s n show is =
    solo s n show is
    ∙ ap (λ (cs : List Command). game_show stories (game_of cs))
    (sym (commands-accepted h by command))
met_alone stories h by reply (Some command) (DiskFailed from to) solo s n show is = absurd cc
met_alone stories h by reply (Some command) Forgotten solo s n show is = absurd cc

shows_alone :
    (stories : List Story) (budget : ℕ) (h : List Entry) (by : ℕ) (line : List ℕ)
    (outcome : Outcome)
    → Alone stories (turn_said_on stories budget h by line outcome)
unfolding turn_said_on
shows_alone stories budget h by line outcome =
    met_alone stories h by (said_on stories budget (commands_in h) line).reply
    (said_on stories budget (commands_in h) line).accepted outcome
    (said_solo stories budget (commands_in h) line)

-- ---- a turn leaves what was accepted

abbrev Longer : List Command → List Command → Type 0
Longer new old = (more : List Command) × (new ≡ old ++ more)

same_long : (cs : List Command) → Longer cs cs
same_long cs = ([], sym (append-nil cs))

met_longer : (h : List Entry) (by : ℕ) (reply : Reply) (accepted : Option Command)
    (outcome : Outcome)
    → Longer (commands_in (turn_met h by reply accepted outcome).history) (commands_in h)
met_longer h by reply None Answered = same_long (commands_in h)
met_longer h by reply None (DiskFailed from to) = same_long (commands_in h)
met_longer h by reply None OutOfMemory = same_long (commands_in h)
met_longer h by reply None Forgotten = same_long (commands_in h)
met_longer h by reply (Some c) Answered = (c ∷ [], commands-accepted h by c)
met_longer h by reply (Some c) (DiskFailed from to) =
    ([], commands-faulted h by from to ∙ sym (append-nil (commands_in h)))
met_longer h by reply (Some c) OutOfMemory = same_long (commands_in h)
met_longer h by reply (Some c) Forgotten = (c ∷ [], commands-accepted h by c)

turn_longer : (stories : List Story) (budget : ℕ) (h : List Entry) (by : ℕ) (line : List ℕ)
    (outcome : Outcome)
    → Longer (commands_in (turn_said_on stories budget h by line outcome).history) (commands_in h)
unfolding turn_said_on
turn_longer stories budget h by line outcome =
    met_longer h by (said_on stories budget (commands_in h) line).reply
    (said_on stories budget (commands_in h) line).accepted outcome

longer_then : (a b c : List Command) → Longer b a → Longer c b → Longer c a
longer_then a b c m n =
    (m.0 ++ n.0, n.1 ∙ (ap (λ (l : List Command). l ++ n.0) m.1 ∙ append_assoc a m.0 n.0))

-- ---- a line that names no session shows nothing

far : (n : ℕ) → 64 ≤ n → nat_le 64 n ≡ true
far n le = grind (arith, nat_tests, le)

refused_not : (stories : List Story) (request : Request) (is_other : Bool)
    → ShowsNot (decided stories []
    (λ accepted. game_show stories (game_of (history_extended [] accepted))) request
    (cond is_other (Some no.BadLine) (Some no.NoSession))).reply
refused_not stories request true s n show is = cc
refused_not stories request false s n show is = cc

absent : (stories : List Story) (request : Request) → 64 ≤ session_of request
    → ShowsNot (answer stories [] request).reply
unfolding answer refusal_of refusal_in
absent stories request le =
    rw (far (session_of request) le) (refused_not stories request (is_watch request))

budgeted_session : (budget : ℕ) (request : Request)
    → session_of (with_budget budget request) ≡ session_of request
budgeted_session budget (Open s key story seed cols rows own) = refl
budgeted_session budget (Line s key n win text term) = refl
budgeted_session budget (Char s key n win code) = refl
budgeted_session budget (File s key n name) = refl
budgeted_session budget (Size s key n cols rows) = refl
budgeted_session budget (Last s key) = refl
budgeted_session budget (Close s key n) = refl
budgeted_session budget (Watch s word from) = refl

met_not : (by : ℕ) (reply : Reply) (accepted : Option Command) (outcome : Outcome)
    → ShowsNot reply → ShowsNot (turn_met [] by reply accepted outcome).reply
met_not by reply accepted OutOfMemory never s n show is = cc
met_not by reply None Answered never s n show is = never s n show is
met_not by reply None (DiskFailed from to) never s n show is = never s n show is
met_not by reply None Forgotten never s n show is = never s n show is
met_not by reply (Some c) Answered never s n show is = never s n show is
met_not by reply (Some c) (DiskFailed from to) never s n show is = cc
met_not by reply (Some c) Forgotten never s n show is = cc

-- what is said to a line whose session is none
said_not : (stories : List Story) (d : Decision) (read : Option Request)
    → ShowsNot d.reply → ShowsNot (said_to stories [] d read).reply
said_not stories d None never = never
said_not stories d (Some (Open s key story seed cols rows own)) never = never
said_not stories d (Some (Line s key n win text term)) never = never
said_not stories d (Some (Char s key n win code)) never = never
said_not stories d (Some (File s key n name)) never = never
said_not stories d (Some (Size s key n cols rows)) never = never
said_not stories d (Some (Last s key)) never = never
said_not stories d (Some (Close s key n)) never = never
said_not stories d (Some (Watch s word from)) never = watch_not stories [] s word from

nowhere : (stories : List Story) (budget : ℕ) (by : ℕ) (line : List ℕ) (outcome : Outcome)
    → session_on line ≡ 64
    → ShowsNot (turn_said_on stories budget [] by line outcome).reply
unfolding turn_said_on said_on decision_on
nowhere stories budget by line outcome e =
    let d : Decision =
    decided_by (λ request. answer stories [] (with_budget budget request)) line (request_of line) in
    met_not by (said_to stories [] d (request_of line)).reply
    (said_to stories [] d (request_of line)).accepted outcome
    (said_not stories d (request_of line) (of (request_of line) e))
  where
    of : (spelled : Option Request) → session_in spelled ≡ 64
        → ShowsNot (decided_by (λ request. answer stories [] (with_budget budget request)) line
        spelled).reply
    of None e s n show is = cc
    of (Some request) e s n show is =
        absent stories (with_budget budget request)
        (let same = budgeted_session budget request in omega arith) s n show is

-- ---- and nor do other lines' turns

module _ (stories : List Story) (budget : ℕ) (by : ℕ) where
  abbrev cmds : List (List Entry) → ℕ → List Command
  cmds histories s = commands_in (entries_of histories s)

  abbrev turned : List (List Entry) → List ℕ → Outcome → Turned
  turned histories line outcome = turn_on_line stories budget histories by line outcome

  abbrev then : List (List Entry) → List ℕ → Outcome → List (List Entry)
  then histories line outcome = histories_after stories budget histories by line outcome

  as_many : (histories : List (List Entry)) (line : List ℕ) (outcome : Outcome)
      → length histories ≡ 64 → length (then histories line outcome) ≡ 64
  as_many histories line outcome many =
      length-set histories (session_on line) (turned histories line outcome).history ∙ many

  here : (histories : List (List Entry)) (line : List ℕ) (outcome : Outcome)
      → session_on line < length histories
      → entries_of (then histories line outcome) (session_on line)
      ≡ (turned histories line outcome).history
  here histories line outcome low =
      get_or-set_same histories (session_on line) (turned histories line outcome).history [] low

  one_longer : (histories : List (List Entry)) (line : List ℕ) (outcome : Outcome) (s : ℕ)
      → s < length histories
      → Longer (cmds (then histories line outcome) s) (cmds histories s)
  one_longer histories line outcome s low = elim (ℕ_discrete s (session_on line)) [
    | yes same ↦
        subst (λ (k : ℕ). Longer (cmds (then histories line outcome) k) (cmds histories k))
        (sym same)
        (subst (λ (h : List Entry). Longer (commands_in h) (cmds histories (session_on line)))
        (sym (here histories line outcome (subst (λ (k : ℕ). k < length histories) same low)))
        (turn_longer stories budget (entries_of histories (session_on line)) by line outcome))
    | no other ↦
        subst (λ (h : List Entry). Longer (commands_in h) (cmds histories s))
        (sym (get_or-set_other histories (session_on line) s
        (turned histories line outcome).history [] other))
        (same_long (cmds histories s))
  ]

  all_longer : (histories : List (List Entry)) (lines : List (List ℕ)) (outcomes : List Outcome)
      (s : ℕ) → length histories ≡ 64 → s < 64
      → Longer (cmds (histories_met stories budget histories by lines outcomes) s)
      (cmds histories s)
  all_longer histories [] outcomes s many low = same_long (cmds histories s)
  all_longer histories (line ∷ lines) [] s many low = same_long (cmds histories s)
  all_longer histories (line ∷ lines) (outcome ∷ outcomes) s many low =
      longer_then (cmds histories s) (cmds (then histories line outcome) s)
      (cmds (histories_met stories budget (then histories line outcome) by lines outcomes) s)
      (one_longer histories line outcome s (omega arith))
      (all_longer (then histories line outcome) lines outcomes s
      (as_many histories line outcome many) low)

  one_kept : (histories final : List (List Entry)) (line : List ℕ) (outcome : Outcome)
      (rows : List Row) (reply : Reply) → length histories ≡ 64
      → ((s : ℕ) → s < 64 → commands_of rows s ≡ cmds final s)
      → ((s : ℕ) → s < 64 → Longer (cmds final s) (cmds (then histories line outcome) s))
      → (turned histories line outcome).reply ≡ reply
      → Each (StandsInRows stories rows)
      (show_in_reply (session_on line) (commands_in (turned histories line outcome).history) reply)
  one_kept histories final line outcome rows (No why) many have on is = tt
  one_kept histories final line outcome rows (Seen t from to text) many have on is = tt
  one_kept histories final line outcome rows (Show t n show) many have on is =
      elim (cases_lt (session_on line) 64) [
        | inl low ↦
            let at = here histories line outcome (omega arith) in
            let more = on (session_on line) low in (
              record {
                alone = shows_alone stories budget (entries_of histories (session_on line)) by line
                    outcome t n show is;
                begins = (
                  more.0,
                  have (session_on line) low
                      ∙ (more.1 ∙ ap (λ (h : List Entry). commands_in h ++ more.0) at),
                );
              },
              tt,
            )
        | inr high ↦
            let none : session_on line ≡ 64 = at_most (request_of line) high in
            let empty : entries_of histories (session_on line) ≡ [] =
            get_or_past histories (session_on line) [] (omega arith) in
            absurd (nowhere stories budget by line outcome none t n show
            (subst (λ (h : List Entry). (turn_said_on stories budget h by line outcome).reply
            ≡ Show t n show) empty is))
      ]
    where
      at_most : (spelled : Option Request) → 64 ≤ session_in spelled → session_in spelled ≡ 64
      at_most None high = refl
      at_most (Some request) high = omega (arith, high)

  pub all_kept : (lines : List (List ℕ)) (outcomes : List Outcome)
      (histories : List (List Entry)) (rows : List Row) → length histories ≡ 64
      → ((s : ℕ) → s < 64
      → commands_of rows s
      ≡ cmds (histories_met stories budget histories by lines outcomes) s)
      → Each (StandsInRows stories rows) (shows_met stories budget histories by lines outcomes)
  all_kept [] outcomes histories rows many have = tt
  all_kept (line ∷ lines) [] histories rows many have = tt
  all_kept (line ∷ lines) (outcome ∷ outcomes) histories rows many have =
      let mid = then histories line outcome in
      let wide = as_many histories line outcome many in
      each_append (StandsInRows stories rows)
      (show_in_reply (session_on line) (commands_in (turned histories line outcome).history)
      (turned histories line outcome).reply)
      (shows_met stories budget mid by lines outcomes)
      (one_kept histories (histories_met stories budget mid by lines outcomes) line outcome rows
      (turned histories line outcome).reply many have
      (λ s low. all_longer mid lines outcomes s wide low) refl)
      (all_kept lines outcomes mid rows wide have)

pub shows_kept : ShowsAreKept
shows_kept = all_kept
