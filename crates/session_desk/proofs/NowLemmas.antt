-- Where an answer needs no world.
use Rattle.std.proofs.Common.{◌≡◌, ℕ, Bool, true, false, ◌&&◌, ◌==◌, ◌+◌, cond, List, Option, Some}
use Rattle.std.proofs.Common.{None, is_none, refl, sym, ap, ◌∙◌}
use Rattle.gate_journal.specs.declared.command.Command.{Command}
use Rattle.gate_journal.specs.declared.command.Command.TheVariants as commands
use Rattle.line_words.specs.declared.request.Request.{Request}
use Rattle.line_words.specs.declared.request.Request.TheVariants.{Open, Line, Char, File, Size}
use Rattle.line_words.specs.declared.request.Request.TheVariants.{Last, Close, Watch}
use Rattle.line_words.specs.declared.reply.No.{No}
use Rattle.line_words.specs.declared.reply.Reply.TheVariants as replies
use Rattle.story_run.specs.declared.story.Story.{Story}
use Rattle.story_run.specs.World.{WorldState}
use Rattle.session_core.specs.History.{command_count, game_of, is_in_use, story_at, world_of}
use Rattle.session_core.specs.Checks.{is_fresh, opening_command}
use Rattle.session_core.specs.Answer.{accepted_by, answer_in, decided, first_refusal, plain_checks}
use Rattle.session_core.specs.Answer.{refusal_in, show_with}
use Rattle.session_core.proofs.AnswerLemmas.{refusal_in-plain}
use Rattle.session_core.proofs.RefusalLemmas.{unasked}
use Rattle.session_desk.specs.declared.held.Held.{Held}
use Rattle.session_desk.specs.declared.held.Held.TheVariants.{Nothing, Current, Previous}
use Rattle.session_desk.specs.Desk.{HoldsOwnWorld, world_now}
use Rattle.session_desk.specs.Verdict.{is_to_story, needs_world}
use Rattle.session_desk.proofs.VerdictLemmas.{asks_story, finds_use, free_gives}
use Rattle.session_desk.proofs.WarmLemmas.{closed_again}

-- ---- the same refusal

refusal_free : (stories : List Story) (history : List Command) (now other : Option WorldState)
    (request : Request)
    → first_refusal (plain_checks stories (game_of history) request) ≡ None
    → is_to_story (game_of history) request ≡ false
    → refusal_in now stories history (game_of history) request
    ≡ refusal_in other stories history (game_of history) request
refusal_free stories history now other request none free =
    unasked now other stories history (game_of history) request
    (rw (none, free_gives stories (game_of history) request none free)
    (and_false (is_fresh (game_of history) request)))
  where
    and_false : (x : Bool) → (x && false) ≡ false
    and_false true = refl
    and_false false = refl

-- ---- the same show

left_not : (x : Bool) → (x && true) ≡ false → x ≡ false
left_not true e = absurd cc
left_not false e = refl

open_free : (stories : List Story) (history : List Command) (now other : Option WorldState)
    (found : Option Story) (key : List ℕ) (story seed cols rows budget : ℕ)
    → is_in_use (game_of history) ≡ false
    → show_with stories history now
    (opening_command found (λ digest. commands.Open key story digest seed cols rows budget))
    ≡ show_with stories history other
    (opening_command found (λ digest. commands.Open key story digest seed cols rows budget))
open_free stories history now other None key story seed cols rows budget free = rw free refl
open_free stories history now other (Some there) key story seed cols rows budget free = refl

close_free : (stories : List Story) (history : List Command) (now other : Option WorldState)
    (fresh : Bool)
    → (fresh ≡ false → is_in_use (game_of history) ≡ false)
    → show_with stories history now (cond fresh (Some commands.Close) None)
    ≡ show_with stories history other (cond fresh (Some commands.Close) None)
close_free stories history now other true free = refl
close_free stories history now other false free = rw (free refl) refl

none_taken : (fresh : Bool) (c : Command) → fresh ≡ false → cond fresh (Some c) None ≡ None
none_taken true c e = absurd cc
none_taken false c e = refl

show_free : (stories : List Story) (history : List Command) (now other : Option WorldState)
    (request : Request)
    → first_refusal (plain_checks stories (game_of history) request) ≡ None
    → is_to_story (game_of history) request ≡ false
    → show_with stories history now (accepted_by stories (game_of history) request)
    ≡ show_with stories history other (accepted_by stories (game_of history) request)
unfolding accepted_by
show_free stories history now other (Open s key story seed cols rows budget) none free =
    let unused = left_not (is_in_use (game_of history)) free in
    rw unused (open_free stories history now other
    (story_at stories story) key story seed cols rows budget unused)
show_free stories history now other (Line s key n win text term) none free =
    absurd (asks_story (is_in_use (game_of history))
    (finds_use stories (game_of history) (Line s key n win text term) none) free)
show_free stories history now other (Char s key n win code) none free =
    absurd (asks_story (is_in_use (game_of history))
    (finds_use stories (game_of history) (Char s key n win code) none) free)
show_free stories history now other (File s key n name) none free =
    absurd (asks_story (is_in_use (game_of history))
    (finds_use stories (game_of history) (File s key n name) none) free)
show_free stories history now other (Size s key n cols rows) none free =
    absurd (asks_story (is_in_use (game_of history))
    (finds_use stories (game_of history) (Size s key n cols rows) none) free)
show_free stories history now other (Last s key) none free =
    absurd (asks_story (is_in_use (game_of history))
    (finds_use stories (game_of history) (Last s key) none) free)
show_free stories history now other (Close s key n) none free =
    let g = game_of history in
    close_free stories history now other (n == command_count g + 1)
    (λ stale.
    closed_again stories g s key n none
    (none_taken (n == command_count g + 1) commands.Close stale))
show_free stories history now other (Watch s word from) none free = absurd cc

-- ---- the same answer

decided_alike : (stories : List Story) (game : List Command) (f g : Option Command → List ℕ)
    (request : Request) (refusal : Option No)
    → f (accepted_by stories game request) ≡ g (accepted_by stories game request)
    → decided stories game f request refusal ≡ decided stories game g request refusal
decided_alike stories game f g request (Some why) e = refl
decided_alike stories game f g request None e = rw e refl

refused_alike : (stories : List Story) (history : List Command) (now : Option WorldState)
    (request : Request) (why : No)
    → refusal_in now stories history (game_of history) request ≡ Some why
    → answer_in stories history now request ≡ record { reply = replies.No why; accepted = None }
unfolding answer_in
refused_alike stories history now request why e = rw e refl

answered_free : (stories : List Story) (history : List Command) (now other : Option WorldState)
    (request : Request)
    → first_refusal (plain_checks stories (game_of history) request) ≡ None
    → is_to_story (game_of history) request ≡ false
    → answer_in stories history now request ≡ answer_in stories history other request
unfolding answer_in
answered_free stories history now other request none free =
    ap (λ (refusal : Option No).
    decided stories (game_of history) (show_with stories history now) request refusal)
    (refusal_free stories history now other request none free)
    ∙ decided_alike stories (game_of history) (show_with stories history now)
    (show_with stories history other) request
    (refusal_in other stories history (game_of history) request)
    (show_free stories history now other request none free)

by_plain : (stories : List Story) (history : List Command) (now other : Option WorldState)
    (request : Request) (plain : Option No)
    → first_refusal (plain_checks stories (game_of history) request) ≡ plain
    → (is_none plain && is_to_story (game_of history) request) ≡ false
    → answer_in stories history now request ≡ answer_in stories history other request
by_plain stories history now other request None e free =
    answered_free stories history now other request e free
by_plain stories history now other request (Some why) e free =
    refused_alike stories history now request why
    (sym (refusal_in-plain now stories history (game_of history) request why e))
    ∙ sym (refused_alike stories history other request why
    (sym (refusal_in-plain other stories history (game_of history) request why e)))

pub asks_no_world : (stories : List Story) (history : List Command) (now other : Option WorldState)
    (request : Request)
    → needs_world stories (game_of history) request ≡ false
    → answer_in stories history now request ≡ answer_in stories history other request
asks_no_world stories history now other request e =
    by_plain stories history now other request
    (first_refusal (plain_checks stories (game_of history) request)) refl e

-- ---- the world by which a desk answers

-- it is the session's own where what is held is
pub record IsBy (stories : List Story) (history : List Command) (held : Held)
    (request : Request) : Type 0 where
  pub now : Option WorldState
  pub own : HoldsOwnWorld stories (game_of history) held → now ≡ world_of stories (game_of history)
  pub same : answer_in stories history (world_now held) request
      ≡ answer_in stories history now request

-- of a world that isn't held
by_own : (stories : List Story) (history : List Command) (held : Held) (request : Request)
    → world_now held ≡ None
    → (needs_world stories (game_of history) request && true) ≡ false
    → IsBy stories history held request
by_own stories history held request none lacks = record {
  now = world_of stories (game_of history);
  own = λ h. refl;
  same =
      rw none (asks_no_world stories history None (world_of stories (game_of history)) request
      (left_not (needs_world stories (game_of history) request) lacks));
}

pub is_by : (stories : List Story) (history : List Command) (held : Held) (request : Request)
    → (needs_world stories (game_of history) request && is_none (world_now held)) ≡ false
    → IsBy stories history held request
is_by stories history (Current w) request lacks =
    record { now = Some w; own = λ h. sym h; same = refl }
is_by stories history Nothing request lacks = by_own stories history Nothing request refl lacks
is_by stories history (Previous w) request lacks =
    by_own stories history (Previous w) request refl lacks
