-- What a session answers whose world is the one that its desk holds (own).
use Rattle.std.specs.Prelude.{◌≡◌, ◌⊎◌, ℕ, ◌≤◌, true, false, List, length, Option, Some, None}
use Rattle.gate_journal.specs.Command.{IsBudget}
use Rattle.gate_journal.specs.Rows.{commands_of, IsJournal}
use Rattle.gate_journal.specs.declared.command.Command.{Command}
use Rattle.gate_journal.specs.declared.row.Row.{Row}
use Rattle.line_words.specs.Request.{request_of}
use Rattle.line_words.specs.declared.request.Request.{Request}
use Rattle.line_words.specs.declared.reply.No.{No}
use Rattle.line_words.specs.declared.reply.No.TheVariants as no
use Rattle.line_words.specs.declared.reply.Reply.TheVariants as replies
use Rattle.story_run.specs.declared.story.Story.{Story}
use Rattle.story_run.specs.World.{WorldState}
use Rattle.session_core.specs.declared.decision.Decision.{Decision}
use Rattle.session_core.specs.Checks.{command_of, is_other_story}
use Rattle.session_core.specs.History.{game_of}
use Rattle.session_core.specs.Answer.{answer_in}
use Rattle.session_core.specs.Sessions.{with_budget}
use Rattle.session_saves.specs.Agreement.{AgreesWithBeginning, IsAgreedFile, opens_of}
use Rattle.session_desk.specs.Commit.{IsInRange}
use Rattle.session_desk.specs.declared.verdict.Verdict.{Verdict}
use Rattle.session_desk.specs.declared.verdict.Verdict.TheVariants.{Refuse, Again, Fresh, Cold}
use Rattle.session_desk.specs.Desk.{DeskState, committed, game, is_cold, ran, shown_to, world_now}
use Rattle.session_desk.specs.Verdict.{foretold, lacks_world, needs_world, verdict}

-- what the session answers to a request, by the world that the desk holds
abbrev pub decision_by_desk : DeskState → Request → Decision
decision_by_desk desk request =
    answer_in desk.stories desk.commands (world_now desk.held) request

-- The desk refuses what the session refuses, for the same cause.
abbrev pub RefusesAlike : Type 0
RefusesAlike =
    (desk : DeskState) (request : Request) (why : No)
    → verdict desk request ≡ Refuse why
    → decision_by_desk desk request ≡ record { reply = replies.No why; accepted = None }

-- Where a request comes again, the desk's last show is the session's reply, and the session accepts
-- nothing.
abbrev pub ShowsAgain : Type 0
ShowsAgain =
    (desk : DeskState) (request : Request)
    → verdict desk request ≡ Again
    → decision_by_desk desk request ≡ record { reply = shown_to desk request; accepted = None }

-- Where a request is fresh, the session accepts the command that it asks for, and the last show of
-- the desk that has run that command is its reply.
abbrev pub ShowsFresh : Type 0
ShowsFresh =
    (desk : DeskState) (request : Request)
    → verdict desk request ≡ Fresh
    → (command : Command) × (command_of desk.stories request ≡ Some command)
    × (decision_by_desk desk request
    ≡ record {
      reply = shown_to (ran (committed desk command)) request;
      accepted = Some command;
    })

-- A desk says that it is cold where the answer needs the world that it doesn't hold, and nowhere
-- else.
abbrev pub IsColdAlone : Type 0
IsColdAlone =
    (desk : DeskState) (request : Request)
    → (verdict desk request ≡ Cold → lacks_world desk request ≡ true)
    × (lacks_world desk request ≡ true → verdict desk request ≡ Cold)

-- A desk that a request finds cold may be warmed, since its story is there as at the OPEN. One with
-- a fresh request's command isn't cold once that was run; nor is one that gives a request its last
-- show again.
abbrev pub StaysWarm : Type 0
StaysWarm =
    (desk : DeskState) (request : Request)
    → (verdict desk request ≡ Cold → is_other_story desk.stories (game desk) ≡ false)
    × ((command : Command) → verdict desk request ≡ Fresh
    → command_of desk.stories request ≡ Some command
    → is_cold (ran (committed desk command)) ≡ false)
    × (verdict desk request ≡ Again → is_cold desk ≡ false)

-- A journal has at most 8,192 rows of each session, as many as a desk takes.
abbrev pub JournalsFit : Type 0
JournalsFit =
    (rows : List Row) (session : ℕ)
    → IsJournal rows → length (commands_of rows session) ≤ 8192

-- What a line spells may be committed, with the budget that it is read with or that of a host.
abbrev pub ReadsInRange : Type 0
ReadsInRange =
    (line : List ℕ) (request : Request) (budget : ℕ)
    → request_of line ≡ Some request → IsBudget budget
    → IsInRange request × IsInRange (with_budget budget request)

-- A snapshot file that agrees with the first of a journal's rows agrees with all of them.
abbrev pub BeginningsStayAgreed : Type 0
BeginningsStayAgreed =
    (stories : List Story) (rows : List Row) (s : ℕ) (file : List ℕ)
    → IsJournal rows
    → AgreesWithBeginning stories rows s file
    → IsAgreedFile stories (opens_of rows s) (game_of (commands_of rows s)) file

-- a show, or one of the refusals that come behind all those that need no world
abbrev pub IsByWorld : Verdict → Type 0
IsByWorld said =
    (said ≡ Again)
    ⊎ ((said ≡ Fresh)
    ⊎ ((said ≡ Refuse no.Over)
    ⊎ ((said ≡ Refuse no.Unwanted) ⊎ (said ≡ Refuse no.Full))))

-- An answer that needs no world is the same by every world, and by none. One that needs it is a
-- show, or a refusal that comes behind all those without a world.
pub record WorldIsNeeded : Type 0 where
  pub free :
      (stories : List Story) (commands : List Command) (request : Request)
      → needs_world stories (game_of commands) request ≡ false
      → (now other : Option WorldState)
      → answer_in stories commands now request ≡ answer_in stories commands other request
  pub needed :
      (stories : List Story) (commands : List Command) (request : Request)
      → needs_world stories (game_of commands) request ≡ true
      → (world : WorldState) → IsByWorld (foretold stories commands (Some world) request)
