use Rattle.std.proofs.lemmas.Result.{IfOk-weaker}
use Rattle.command_words.specs.CommandLine.{drill_app, journal_app}
use Rattle.command_words.proofs.CommandLemmas.{with_one_more}
use Rattle.command_words.proofs.command_line.storyhost.Goals as goal

pub returns : goal.returns
returns c =
    IfOk-weaker c.with_command.result _ _ (λ new adds. with_one_more c.drill_command.result
    c.in_ok-journal.journal new journal_app drill_app adds c.in_ok-journal.ensures c.drill_command.ensures.app
    c.drill_command.ensures.local) c.with_command.ensures
