use Rattle.std.proofs.lemmas.Result.{IfOk-weaker}
use Rattle.command_words.specs.CommandLine.{bare_app, check_app, run_app}
use Rattle.command_words.proofs.CommandLemmas.{with_one_more}
use Rattle.command_words.proofs.command_line.solo_command.Goals as goal

pub returns : goal.returns
returns c =
    let first =
    with_one_more c.run_command.result c.bare_command.result c.in_ok-program.program bare_app
    run_app c.in_ok-program.ensures c.bare_command.ensures c.run_command.ensures.app
    c.run_command.ensures.local in
    IfOk-weaker c.with_command-2.result _ _ (λ new adds. with_one_more c.check_command.result
    c.in_ok-program.program new _ check_app adds first c.check_command.ensures.app
    c.check_command.ensures.local) c.with_command-2.ensures
