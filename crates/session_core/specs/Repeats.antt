-- A command given again is answered alike and changes nothing (own).
use Rattle.std.specs.Prelude.{◌≡◌, List, [], ◌∷◌, ◌++◌, Some, None}
use Rattle.gate_journal.specs.declared.command.Command.{Command}
use Rattle.line_words.specs.declared.request.Request.{Request}
use Rattle.story_run.specs.declared.story.Story.{Story}
use Rattle.session_core.specs.declared.decision.Decision.{Decision}
use Rattle.session_core.specs.Answer.{answer}

-- the same reply, and nothing accepted
abbrev pub again : Decision → Decision
again decision = record decision { accepted = None }

-- A request that was accepted, given again right after, gets the same reply, and the session
-- accepts nothing more.
abbrev pub RepeatsChangeNothing : Type 0
RepeatsChangeNothing =
    (stories : List Story) (history : List Command) (request : Request) (command : Command)
    → (answer stories history request).accepted ≡ Some command
    → answer stories (history ++ command ∷ []) request
    ≡ again (answer stories history request)
