use Rattle.std.proofs.lemmas.Result.{IfOk-weaker}
use Rattle.command_words.specs.CommandLine.{folder_app, serve_app}
use Rattle.command_words.proofs.CommandLemmas.{with_one_more}
use Rattle.command_words.proofs.command_line.host_command.Goals as goal

pub returns : goal.returns
returns c =
    IfOk-weaker c.with_command.result _ _ (λ new adds. with_one_more c.serve_command.result
    c.in_ok-folder.folder new folder_app serve_app adds c.in_ok-folder.ensures c.serve_command.ensures.app
    c.serve_command.ensures.local) c.with_command.ensures
