use Rattle.std.proofs.lemmas.Result.{IfOk-weaker}
use Rattle.command_words.specs.CommandLine.{init_app, pipe_app, solo_app}
use Rattle.command_words.proofs.CommandLemmas.{with_one_more}
use Rattle.command_words.proofs.command_line.folder_command.Goals as goal

pub returns : goal.returns
returns c =
    let first =
    with_one_more c.init_command.result c.in_ok-solo.solo c.in_ok-program.program solo_app
    init_app c.in_ok-program.ensures c.in_ok-solo.ensures c.init_command.ensures.app
    c.init_command.ensures.local in
    IfOk-weaker c.with_command-2.result _ _ (λ new adds. with_one_more c.pipe_command.result
    c.in_ok-program.program new _ pipe_app adds first c.pipe_command.ensures.app
    c.pipe_command.ensures.local) c.with_command-2.ensures
