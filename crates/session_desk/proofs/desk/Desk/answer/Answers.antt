use Rattle.std.proofs.Common.{◌≡◌, subst}
use Rattle.session_core.specs.Turning.{commands_in}
use Rattle.session_desk.specs.Shared.{SharedState}
use Rattle.session_desk.proofs.desk.Desk.answer.Goals as goal

pub returns-clause-commands : goal.returns-clause-commands
returns-clause-commands g c =
    subst (λ (s : SharedState g.row.D.Denot). commands_in s.history ≡ s.desk.commands)
    c.self.view_is c.self.invariant.2.marked.commands
