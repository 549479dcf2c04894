-- What an argument or a command more makes of a command.
use Rattle.std.proofs.Common.{◌≡◌, ◌∙◌, ap, false, refl, Result, Ok, Err}
use Rattle.std.specs.Result.{IfOk, IsOkAnd}
use Rattle.clap.specs.Simple.{App, app_of, shape_of, with_rule, with_subcommand}
use Rattle.clap.specs.Walk.{Rule, rule_of}
use Rattle.clap.specs.Words.{AddsArg, AddsSubcommand}
use Rattle.clap.specs.declared.builder.arg.Arg.{Arg}
use Rattle.clap.specs.declared.builder.command.Command.{Command}
use Rattle.clap.specs.declared.builder.command.Command.TheViews.{out-Command as fields_of}

-- a command that `clap` was told of so, without global arguments
pub record IsTold (app : App) (c : Command) : Type 0 where
  pub shape : app_of c ≡ app
  pub local : (fields_of c).has_globals ≡ false

pub told_more : {old : Command} {a : Arg} {new : Command} {app : App} {rule : Rule}
    → AddsArg old a new → IsTold app old → rule_of a ≡ rule → a.global ≡ false
    → IsTold (with_rule app rule) new
told_more {a = a} {app = app} adds told rule local = record {
  shape =
      adds.shape local ∙ ap (λ (x : App). with_rule x (rule_of a)) told.shape
      ∙ ap (with_rule app) rule;
  local = adds.globals ∙ rw (told.local, local) refl;
}

-- a program with a command more, where that was made
pub with_one_more : {E : Type 0} (made : Result Command E) (old new : Command) (app one : App)
    → IsOkAnd made (λ command. AddsSubcommand old command new) → app_of old ≡ app
    → IfOk made (λ command. app_of command ≡ one)
    → IfOk made (λ command. (fields_of command).has_globals ≡ false)
    → app_of new ≡ with_subcommand app one.top
with_one_more (Ok command) old new app one adds is told local =
    adds.shape local ∙ ap (λ (x : App). with_subcommand x (shape_of command)) is
    ∙ ap (λ (x : App). with_subcommand app x.top) told
with_one_more (Err e) old new app one adds is told local = absurd adds
