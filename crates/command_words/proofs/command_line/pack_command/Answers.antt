use Rattle.std.proofs.lemmas.Result.{IfOk-weaker}
use Rattle.command_words.specs.CommandLine.{pack_app}
use Rattle.std.proofs.Common.{IfOk}
use Rattle.command_words.proofs.CommandLemmas.{IsTold, told_more}
use Rattle.command_words.proofs.command_line.pack_command.Goals as goal

pub returns : goal.returns
returns c =
    let first =
    told_more c.in_ok-arg.ensures
    (record { shape = c.new.ensures.app; local = c.new.ensures.local })
    c.required_argument.ensures.rule c.required_argument.ensures.local in
    let told : IfOk c.arg-2.result (IsTold pack_app) =
    IfOk-weaker c.arg-2.result _ _ (λ new adds. told_more adds first
    c.required_argument-2.ensures.rule c.required_argument-2.ensures.local) c.arg-2.ensures in
    record {
      app = IfOk-weaker c.arg-2.result _ _ (λ new t. t.shape) told;
      local = IfOk-weaker c.arg-2.result _ _ (λ new t. t.local) told;
    }
