use Rattle.std.proofs.lemmas.Result.{IfOk-weaker}
use Rattle.command_words.specs.CommandLine.{host_app, pack_app, replay_app}
use Rattle.command_words.proofs.CommandLemmas.{with_one_more}
use Rattle.command_words.proofs.command_line.journal_command.Goals as goal

pub returns : goal.returns
returns c =
    let first =
    with_one_more c.replay_command.result c.in_ok-host.host c.in_ok-program.program host_app
    replay_app c.in_ok-program.ensures c.in_ok-host.ensures c.replay_command.ensures.app
    c.replay_command.ensures.local in
    IfOk-weaker c.with_command-2.result _ _ (λ new adds. with_one_more c.pack_command.result
    c.in_ok-program.program new _ pack_app adds first c.pack_command.ensures.app
    c.pack_command.ensures.local) c.with_command-2.ensures
