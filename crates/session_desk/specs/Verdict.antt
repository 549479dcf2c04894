-- What a desk can say of a request before it is answered (own).
use Rattle.std.specs.Prelude.{Bool, true, false, ◌&&◌, not, if◌then◌else◌, List, Option, Some, None}
use Rattle.std.specs.Prelude.{is_none}
use Rattle.gate_journal.specs.declared.command.Command.{Command}
use Rattle.line_words.specs.declared.request.Request.{Request}
use Rattle.line_words.specs.declared.request.Request.TheVariants.{Close}
use Rattle.line_words.specs.declared.reply.No.{No}
use Rattle.story_run.specs.declared.story.Story.{Story}
use Rattle.story_run.specs.World.{WorldState}
use Rattle.session_core.specs.History.{game_of, is_in_use}
use Rattle.session_core.specs.Answer.{accepted_by, first_refusal, plain_checks, refusal_in}
use Rattle.session_desk.specs.declared.verdict.Verdict.{Verdict}
use Rattle.session_desk.specs.declared.verdict.Verdict.TheVariants.{Refuse, Again, Fresh, Cold}
use Rattle.session_desk.specs.Desk.{DeskState, game, world_now}

-- the request closes its session
abbrev pub is_close_request : Request → Bool
is_close_request (Close s key n) = true
is_close_request request = false

-- the request is one to the story of a session in use; a CLOSE asks nothing of it
abbrev pub is_to_story : List Command → Request → Bool
is_to_story game request = is_in_use game && not (is_close_request request)

-- the answer needs the session's world: the request is one to its story, and no check without the
-- world refuses it
abbrev pub needs_world : List Story → List Command → Request → Bool
needs_world stories game request =
    is_none (first_refusal (plain_checks stories game request)) && is_to_story game request

-- the answer needs the world, and it isn't held
abbrev pub lacks_world : DeskState → Request → Bool
lacks_world desk request =
    needs_world desk.stories (game desk) request && is_none (world_now desk.held)

-- a refusal; or a show, with a command accepted, or with none
abbrev pub verdict_by : Option No → Option Command → Verdict
verdict_by (Some why) accepted = Refuse why
verdict_by None (Some command) = Fresh
verdict_by None None = Again

-- what a session with these commands and this world will answer
abbrev pub foretold : List Story → List Command → Option WorldState → Request → Verdict
foretold stories commands now request =
    verdict_by (refusal_in now stories commands (game_of commands) request)
    (accepted_by stories (game_of commands) request)

-- what is said of a request to a session with these commands, by the world that is held of it
abbrev pub verdict_in : List Story → List Command → Option WorldState → Request → Verdict
verdict_in stories commands now request =
    if needs_world stories (game_of commands) request && is_none now then Cold
    else foretold stories commands now request

-- what a desk says of a request, by the world that it holds
abbrev pub verdict : DeskState → Request → Verdict
verdict desk request = verdict_in desk.stories desk.commands (world_now desk.held) request
