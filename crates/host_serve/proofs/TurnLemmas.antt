-- A turn of a line: of one without a session, and of one that a desk is asked for.
use Rattle.std.proofs.Common.{◌≡◌, ◌≢◌, ◌⊎◌, ℕ, ◌≤◌, ◌<◌, List, [], length, Option, Some, None}
use Rattle.std.proofs.Common.{refl, ap, sym, ◌∙◌, subst, inl, inr, arith, nat_le, Bool, true, false}
use Rattle.std.proofs.Common.{cond}
use Rattle.std.proofs.lemmas.Bool.Decides.{nat_tests}
use Rattle.line_talk.specs.Lines.{heard}
use Rattle.line_words.specs.Play.{is_long}
use Rattle.line_words.specs.Request.{request_of}
use Rattle.line_words.specs.declared.reply.No.{No}
use Rattle.line_words.specs.declared.reply.No.TheVariants as no
use Rattle.line_words.specs.declared.reply.Reply.{Reply}
use Rattle.line_words.specs.declared.reply.Reply.TheVariants as replies
use Rattle.line_words.specs.declared.request.Request.{Request}
use Rattle.line_words.specs.declared.request.Request.TheVariants.{Open, Line, Char, File, Size}
use Rattle.line_words.specs.declared.request.Request.TheVariants.{Last, Close, Watch}
use Rattle.gate_journal.specs.declared.command.Command.{Command}
use Rattle.story_run.specs.declared.story.Story.{Story}
use Rattle.story_run.specs.World.{WorldState}
use Rattle.session_core.specs.declared.decision.Decision.{Decision}
use Rattle.session_core.specs.declared.entry.Entry.{Entry}
use Rattle.session_core.specs.declared.entry.Outcome.{Outcome}
use Rattle.session_core.specs.declared.entry.Outcome.TheVariants.{Answered, DiskFailed, OutOfMemory}
use Rattle.session_core.specs.declared.entry.Outcome.TheVariants.{Forgotten}
use Rattle.session_core.specs.Answer.{answer_in, refusal_in}
use Rattle.session_core.specs.Checks.{is_watch, session_of}
use Rattle.session_core.specs.Sessions.{with_budget}
use Rattle.session_core.specs.History.{game_of, world_of}
use Rattle.session_core.specs.Hosts.{session_in, session_on}
use Rattle.session_core.specs.Turning.{decided_by, decision_in, commands_in, entry_by, MayMeet}
use Rattle.session_core.specs.Turning.{turn_met}
use Rattle.turn_cell.specs.History.{Continues, IsForeign}
use Rattle.session_desk.specs.Desk.{DeskState}
use Rattle.host_serve.specs.Holders.{Holder, IsAloneHolder}
use Rattle.host_serve.specs.Reading.{LineIsReadAs, IsUnread}
use Rattle.host_serve.specs.Said.{said_in, said_to, turn_said_in}
use Rattle.host_serve.specs.Serves.{AnsweredLine, IsOfNoSession, own_world}
use Rattle.host_serve.specs.Chain.{TurnsIn, TurnsOnNone}
use Rattle.host_serve.proofs.ListLemmas.{none_some}
use Rattle.host_serve.proofs.SaidLemmas.{said_player}
use Rattle.story_watch.specs.Watch.{watch_reply}

far : (n : ℕ) → 64 ≤ n → nat_le 64 n ≡ true
far n le = grind (arith, nat_tests, le)

-- a session that no host has is refused
absent : (stories : List Story) (now : Option WorldState) (request : Request)
    → 64 ≤ session_of request → is_watch request ≡ false
    → answer_in stories [] now request ≡ record { reply = replies.No no.NoSession; accepted = None }
unfolding answer_in refusal_in
absent stories now request le plays = rw (plays, far (session_of request) le) refl

-- the host's budget leaves a request's session
pub budgeted_session : (budget : ℕ) (request : Request)
    → session_of (with_budget budget request) ≡ session_of request
budgeted_session budget (Open s key story seed cols rows own) = refl
budgeted_session budget (Line s key n win text term) = refl
budgeted_session budget (Char s key n win code) = refl
budgeted_session budget (File s key n name) = refl
budgeted_session budget (Size s key n cols rows) = refl
budgeted_session budget (Last s key) = refl
budgeted_session budget (Close s key n) = refl
budgeted_session budget (Watch s word from) = refl

module _ (stories : List Story) (budget : ℕ) (now : Option WorldState) where
  -- so are players and spectators of such a session
  absent_said : (request : Request) → 64 ≤ session_of request
      → said_to stories [] (answer_in stories [] now (with_budget budget request)) (Some request)
      ≡ record { reply = replies.No no.NoSession; accepted = None }
  absent_said (Open s key story seed cols rows own) le =
      absent stories now (Open s key story seed cols rows budget) le refl
  absent_said (Line s key n win text term) le =
      absent stories now (Line s key n win text term) le refl
  absent_said (Char s key n win code) le = absent stories now (Char s key n win code) le refl
  absent_said (File s key n name) le = absent stories now (File s key n name) le refl
  absent_said (Size s key n cols rows) le = absent stories now (Size s key n cols rows) le refl
  absent_said (Last s key) le = absent stories now (Last s key) le refl
  absent_said (Close s key n) le = absent stories now (Close s key n) le refl
  absent_said (Watch s word from) le = rw (far s le) refl

  -- without a session nothing is accepted
  pub none_accepted : (line : List ℕ) → session_on line ≡ 64
      → (said_in stories budget [] now line).accepted ≡ None
  unfolding said_in decision_in
  none_accepted line e = of (request_of line) e
    where
      of : (spelled : Option Request) → session_in spelled ≡ 64
          → (said_to stories [] (decided_by
          (λ request. answer_in stories [] now (with_budget budget request)) line spelled)
          spelled).accepted ≡ None
      of None e = refl
      of (Some request) e =
          ap (λ (d : Decision). d.accepted) (absent_said request (omega arith))

  pub none_adds : (line : List ℕ) (outcome : Outcome)
      → (session_on line ≡ 64) ⊎ (outcome ≡ OutOfMemory)
      → (turn_said_in stories budget [] now 0 line outcome).history ≡ []
  unfolding turn_said_in
  none_adds line outcome (inl absent) =
      subst (λ (accepted : Option Command). (turn_met [] 0
      (said_in stories budget [] now line).reply accepted outcome).history ≡ [])
      (sym (none_accepted line absent)) (of outcome)
    where
      of : (outcome : Outcome)
          → (turn_met [] 0 (said_in stories budget [] now line).reply None outcome).history ≡ []
      of Answered = refl
      of (DiskFailed from to) = refl
      of OutOfMemory = refl
      of Forgotten = refl
  none_adds line outcome (inr e) =
      subst (λ (o : Outcome). (turn_met [] 0 (said_in stories budget [] now line).reply
      (said_in stories budget [] now line).accepted o).history ≡ []) (sym e) refl

-- the host's budget leaves a spectator's request
budgeted_watch : (budget : ℕ) (request : Request)
    → is_watch (with_budget budget request) ≡ is_watch request
budgeted_watch budget (Open s key story seed cols rows own) = refl
budgeted_watch budget (Line s key n win text term) = refl
budgeted_watch budget (Char s key n win code) = refl
budgeted_watch budget (File s key n name) = refl
budgeted_watch budget (Size s key n cols rows) = refl
budgeted_watch budget (Last s key) = refl
budgeted_watch budget (Close s key n) = refl
budgeted_watch budget (Watch s word from) = refl

-- what a desk answers to a player's request is what its session says to the line that was read so
pub answered_on : (stories : List Story) (budget : ℕ) (desk : DeskState)
    (now : Option WorldState) (history : List Entry) (line : List ℕ) (request : Request)
    → LineIsReadAs budget line request → is_watch request ≡ false → desk.stories ≡ stories
    → commands_in history ≡ desk.commands
    → answer_in desk.stories desk.commands now request
    ≡ said_in stories budget (commands_in history) now line
unfolding said_in decision_in
answered_on stories budget desk now history line request read plays same commands =
    let decided : Option Request → Decision =
    decided_by (λ r. answer_in stories (commands_in history) now (with_budget budget r)) line in
    let plays_given : is_watch read.given ≡ false =
    sym (budgeted_watch budget read.given) ∙ ap is_watch (sym read.budgeted) ∙ plays in
    ap (λ (x : List Story × List Command × Request). answer_in x.0 x.1 now x.2)
    (λ i. (same i, sym commands i, read.budgeted i))
    ∙ sym (said_player stories (commands_in history)
    (answer_in stories (commands_in history) now (with_budget budget read.given))
    (Some read.given) plays_given)
    ∙ ap (λ (o : Option Request). said_to stories (commands_in history) (decided o) o)
    (sym read.spelled)

-- a player's turn of a desk is one of `turn_said_in`
pub turns_in : (stories : List Story) (budget : ℕ) (sound : Type 0) (h : Holder)
    (old new : List Entry) (t : AnsweredLine) (desk : DeskState) (before : List Entry) (by : ℕ)
    (request : Request) → by ≡ h.number
    → Continues (IsForeign entry_by h.holds) before old → (IsAloneHolder h → before ≡ old)
    → LineIsReadAs budget t.line request → is_watch request ≡ false → desk.stories ≡ stories
    → commands_in before ≡ desk.commands → t.mark.length ≡ length before
    → (sound → t.world ≡ world_of desk.stories (game_of desk.commands))
    → MayMeet (answer_in desk.stories desk.commands t.world request).accepted t.outcome
    → t.reply ≡ (turn_met before by (answer_in desk.stories desk.commands t.world request).reply
    (answer_in desk.stories desk.commands t.world request).accepted t.outcome).reply
    → new ≡ (turn_met before by (answer_in desk.stories desk.commands t.world request).reply
    (answer_in desk.stories desk.commands t.world request).accepted t.outcome).history
    → TurnsIn stories budget sound h old t new
unfolding turn_said_in
turns_in stories budget sound h old new t desk before by request own since alone read plays same
    commands long world met reply history =
    let is = answered_on stories budget desk t.world before t.line request read plays same commands
    in
    record {
      before = before;
      since = since;
      alone = alone;
      length = long;
      own = λ s. world s ∙ ap (λ (x : List Story × List Command). world_of x.0 (game_of x.1))
          (λ i. (same i, sym commands i));
      met = subst (λ (d : Decision). MayMeet d.accepted t.outcome) is met;
      reply = reply ∙ ap (λ (x : ℕ × Decision).
          (turn_met before x.0 x.1.reply x.1.accepted t.outcome).reply) (λ i. (own i, is i));
      history = history ∙ ap (λ (x : ℕ × Decision).
          (turn_met before x.0 x.1.reply x.1.accepted t.outcome).history) (λ i. (own i, is i));
    }

-- ---- a spectator's turn

-- what was read with the host's budget as a spectator's request was spelled as that
spelled_watch : (budget s : ℕ) (word : List ℕ) (from : ℕ) (given : Request)
    → Watch s word from ≡ with_budget budget given → given ≡ Watch s word from
spelled_watch budget s word from (Open z key story seed cols rows own) e = absurd cc
spelled_watch budget s word from (Line z key n win text term) e = absurd cc
spelled_watch budget s word from (Char z key n win code) e = absurd cc
spelled_watch budget s word from (File z key n name) e = absurd cc
spelled_watch budget s word from (Size z key n cols rows) e = absurd cc
spelled_watch budget s word from (Last z key) e = absurd cc
spelled_watch budget s word from (Close z key n) e = absurd cc
spelled_watch budget s word from (Watch z other at) e = sym e

said_spectator : (stories : List Story) (budget : ℕ) (commands : List Command)
    (now : Option WorldState) (line : List ℕ) (s : ℕ) (word : List ℕ) (from : ℕ)
    → LineIsReadAs budget line (Watch s word from)
    → said_in stories budget commands now line
    ≡ record { reply = watch_reply stories commands s word from; accepted = None }
unfolding said_in
said_spectator stories budget commands now line s word from read =
    ap (λ (o : Option Request). said_to stories commands
    (decision_in stories budget commands now line) o)
    (read.spelled ∙ ap Some (spelled_watch budget s word from read.given read.budgeted))

-- what a spectator's turn replies and what it met: this reply, or no memory
abbrev pub IsWatched : Reply → AnsweredLine → Type 0
IsWatched reply t =
    ((t.reply ≡ reply) × (t.outcome ≡ Answered))
    ⊎ ((t.reply ≡ replies.No no.NoMemory) × (t.outcome ≡ OutOfMemory))

-- a turn by this decision may meet what this one met, replies so, and leaves the history
abbrev TurnsMet : List Entry → ℕ → AnsweredLine → Decision → Type 0
TurnsMet before by t d =
    MayMeet d.accepted t.outcome
    × (t.reply ≡ (turn_met before by d.reply d.accepted t.outcome).reply)
    × (before ≡ (turn_met before by d.reply d.accepted t.outcome).history)

watched_met : (before : List Entry) (by : ℕ) (t : AnsweredLine) (reply : Reply)
    → IsWatched reply t
    → TurnsMet before by t (record { reply = reply; accepted = None })
watched_met before by t reply (inl answered) = rw answered.1 (tt, answered.0, refl)
watched_met before by t reply (inr wants) = rw wants.1 (tt, wants.0, refl)

-- such a turn, in the session's own world, which isn't looked at
pub watches_in : (stories : List Story) (budget : ℕ) (sound : Type 0) (h : Holder)
    (old new : List Entry) (t : AnsweredLine) (before : List Entry) (commands : List Command)
    (s : ℕ) (word : List ℕ) (from : ℕ)
    → Continues (IsForeign entry_by h.holds) before old → (IsAloneHolder h → before ≡ old)
    → LineIsReadAs budget t.line (Watch s word from)
    → commands_in before ≡ commands → t.mark.length ≡ length before
    → t.world ≡ own_world stories before → new ≡ before
    → IsWatched (watch_reply stories commands s word from) t
    → TurnsIn stories budget sound h old t new
unfolding turn_said_in
watches_in stories budget sound h old new t before commands s word from since alone read same long
    world left watched =
    let of_commands : List Command → Decision =
    λ cs. record { reply = watch_reply stories cs s word from; accepted = None } in
    let by =
    subst (TurnsMet before h.number t)
    (sym (said_spectator stories budget (commands_in before) t.world t.line s word from read
    ∙ ap of_commands same))
    (watched_met before h.number t (watch_reply stories commands s word from) watched) in
    record {
      before = before;
      since = since;
      alone = alone;
      length = long;
      own = λ _. world;
      met = by.0;
      reply = by.1;
      history = left ∙ by.2;
    }

-- ---- a line without a session

-- the turn of such a line
abbrev pub nowhere : List ℕ → Reply → Outcome → AnsweredLine
nowhere line reply outcome = record {
  line = line;
  world = None;
  outcome = outcome;
  mark = record { session = 64; length = 0 };
  reply = reply;
}

module _ (stories : List Story) (budget : ℕ) where
  -- what is said to a line, by the request that it spells
  said_by : (line : List ℕ) (spelled : Option Request) → request_of line ≡ spelled
      → said_in stories budget [] None line
      ≡ said_to stories [] (decided_by
      (λ r. answer_in stories [] None (with_budget budget r)) line spelled) spelled
  unfolding said_in decision_in
  said_by line spelled e = ap (λ (o : Option Request). said_to stories [] (decided_by
      (λ r. answer_in stories [] None (with_budget budget r)) line o) o) e

  -- a turn without a session
  none_turned : (t : AnsweredLine) (seen : List (List Entry)) (reply : Reply)
      (accepted : Option Command)
      → said_in stories budget [] t.world t.line ≡ record { reply = reply; accepted = accepted }
      → t.world ≡ None → IsOfNoSession t → MayMeet accepted t.outcome
      → t.reply ≡ (turn_met [] 0 reply accepted t.outcome).reply
      → TurnsOnNone stories budget seen t seen
  unfolding turn_said_in
  none_turned t seen reply accepted is world none met said = record {
    none = none;
    world = world;
    met = subst (λ (d : Decision). MayMeet d.accepted t.outcome) (sym is) met;
    reply = said ∙ ap (λ (d : Decision). (turn_met [] 0 d.reply d.accepted t.outcome).reply)
        (sym is);
    seen = refl;
  }

  -- a line that isn't read
  pub unread_turned : (line : List ℕ) (why : No) (seen : List (List Entry)) → IsUnread line why
      → why ≢ no.NoMemory
      → TurnsOnNone stories budget seen (nowhere line (replies.No why) Answered) seen
  unread_turned line why seen (inl found) fine =
      none_turned (nowhere line (replies.No why) Answered) seen
      (replies.No (cond (is_long line) no.LongLine no.BadLine)) None
      (said_by line None found.0) refl (refl, refl, inl (ap session_in found.0)) tt
      (ap replies.No found.1)
  unread_turned line why seen (inr wants) fine = absurd (fine wants)

  -- whatever a turn accepts, it may find no memory
  may_want : (accepted : Option Command) → MayMeet accepted OutOfMemory
  may_want None = tt
  may_want (Some command) = tt

  -- no memory was found to read the line
  pub wanting_turned : (line : List ℕ) (seen : List (List Entry))
      → TurnsOnNone stories budget seen (nowhere line (replies.No no.NoMemory) OutOfMemory) seen
  wanting_turned line seen = let d = said_in stories budget [] None line in
      none_turned (nowhere line (replies.No no.NoMemory) OutOfMemory) seen d.reply d.accepted refl
      refl (refl, refl, inr refl) (may_want d.accepted) refl

  -- what is said to a line whose session no host has
  absent_decision : (line : List ℕ) (request : Request) → LineIsReadAs budget line request
      → 64 ≤ session_of request
      → said_in stories budget [] None line
      ≡ record { reply = replies.No no.NoSession; accepted = None }
  absent_decision line request read far =
      let same = ap session_of read.budgeted ∙ budgeted_session budget read.given in
      said_by line (Some read.given) read.spelled
      ∙ absent_said stories budget None read.given (omega arith)

  pub absent_turned : (line : List ℕ) (request : Request) (seen : List (List Entry))
      → LineIsReadAs budget line request → 64 ≤ session_of request
      → TurnsOnNone stories budget seen (nowhere line (replies.No no.NoSession) Answered) seen
  absent_turned line request seen read far =
      none_turned (nowhere line (replies.No no.NoSession) Answered) seen (replies.No no.NoSession)
      None (absent_decision line request read far) refl
      (refl, refl, inl (ap session_in read.spelled ∙ past)) tt refl
    where
      past : session_in (Some read.given) ≡ 64
      past = let same = ap session_of read.budgeted ∙ budgeted_session budget read.given in
          omega arith

-- the session of a line is that of the request that it is read as
pub session_read : (budget : ℕ) (line : List ℕ) (request : Request)
    → LineIsReadAs budget line request
    → session_of request < 64 → session_on line ≡ session_of request
session_read budget line request read low =
    let same = ap session_of read.budgeted ∙ budgeted_session budget read.given in
    ap session_in read.spelled ∙ omega arith

some_none : (line : List ℕ) → Some line ≡ None → ⊥
some_none line e = none_some line (sym e)

-- a line that was dropped is too long
dropped_long : (line : List ℕ) → heard line ≡ None → is_long line ≡ true
dropped_long line dropped = of (is_long line) refl
  where
    of : (b : Bool) → is_long line ≡ b → is_long line ≡ true
    of true e = e
    of false e = absurd (some_none line (sym (rw e refl) ∙ dropped))

spells_nothing : (line : List ℕ) → is_long line ≡ true → request_of line ≡ None
spells_nothing line e = rw e refl

abbrev is_long_refusal : No → Type 0
is_long_refusal no.LongLine = Unit {0}
is_long_refusal _ = ⊥

pub dropped_turned : (stories : List Story) (budget : ℕ) (line : List ℕ)
    (seen : List (List Entry)) → heard line ≡ None
    → TurnsOnNone stories budget seen (nowhere line (replies.No no.LongLine) Answered) seen
dropped_turned stories budget line seen dropped = let long = dropped_long line dropped in
    unread_turned stories budget line no.LongLine seen
    (inl (spells_nothing line long, rw long refl)) (λ e. subst is_long_refusal e tt)
