use Rattle.std.proofs.Common.{subst}
use Rattle.line_words.specs.declared.request.Request.{Request}
use Rattle.session_core.specs.Checks.{session_of}
use Rattle.session_desk.specs.Shared.{desk_tag}
use Rattle.turn_cell.specs.Passes.{tag_of}
use Rattle.host_serve.specs.Hosts.{IsTagOf}
use Rattle.host_serve.proofs.turn.turn_in.Goals as goal

pub watch_in-requires-clause-tag : goal.watch_in-requires-clause-tag
watch_in-requires-clause-tag g c =
    subst
    (λ (r : Request). IsTagOf c.args.host.now (session_of r) (tag_of desk_tag c.args.pass.now))
    c.in-Watch.is c.requires.tag
