use Rattle.std.proofs.Common.{◌≡◌, ◌∙◌, ap, sym, inl, inr, map, string_bytes}
use Rattle.std.proofs.Common.{List, [], ◌⊎◌, true, option_and_then, subst}
use Rattle.std.proofs.lemmas.Result.{IfOk-weaker}
use Rattle.clap.specs.Faults.{fault_of, is_simple_and_free}
use Rattle.clap.specs.Simple.{App, is_simple, subcommand_of, subcommand_rows_of}
use Rattle.clap.specs.Kinds.{Kinds, IsAmong}
use Rattle.clap.specs.Values.{kind_of}
use Rattle.clap.specs.Walk.{Text}
use Rattle.clap.specs.declared.error.kind.ErrorKind.{ErrorKind}
use Rattle.clap.specs.declared.error.kind.ErrorKind.TheVariants.{OutOfMemory}
use Rattle.command_words.specs.CommandLine.{storyhost_app}
use Rattle.command_words.specs.Words.{asked_after, asked_alone, asked_in}
use Rattle.command_words.proofs.KindsLemmas.{alike_faults, asked_shown}
use Rattle.command_words.proofs.words.command_of.Goals as goal

-- a parse of the program's words fails by what `clap` has against them
free : (app : App) → app ≡ storyhost_app → is_simple_and_free app ≡ true
free app e = ap is_simple_and_free e

simple : (app : App) → app ≡ storyhost_app → is_simple app ≡ true
simple app e = ap is_simple e

among : (k : ErrorKind) (kinds : Kinds)
    → (k ≡ OutOfMemory) ⊎ IsAmong k kinds → ¬ (k ≡ OutOfMemory)
    → IsAmong k kinds
among k kinds (inl e) other = absurd (other e)
among k kinds (inr a) other = a

pub returns-in-Ok : goal.returns-in-Ok
returns-in-Ok c =
    let words : List Text = map string_bytes c.args.words.now in
    let app = c.in_ok-app.ensures in
    let none : fault_of storyhost_app words ≡ [] =
    ap (λ (a : App). fault_of a words) (sym app) ∙ c.in-Ok.ensures.kinds (free _ app) in
    let rows : subcommand_rows_of c.in-Ok.matches ≡ subcommand_of storyhost_app words =
    (c.in-Ok.ensures.matches (simple _ app)).1 ∙ ap (λ (a : App). subcommand_of a words) app in
    IfOk-weaker c.command_in.result _ _ (λ command e.
    e ∙ ap (option_and_then asked_in) rows ∙ sym (ap (λ (k : Kinds). asked_after k words) none))
    c.command_in.ensures

pub returns : goal.returns
returns c =
    let words : List Text = map string_bytes c.args.words.now in
    let app = c.in_ok-app.ensures in
    let has : (c.kind.result ≡ OutOfMemory) ⊎ IsAmong c.kind.result (fault_of storyhost_app words)
    = subst (λ (k : ErrorKind). (k ≡ OutOfMemory) ⊎ IsAmong k (fault_of storyhost_app words))
    (sym c.kind.ensures)
    (subst (λ (a : App).
    (kind_of c.in-Err.error ≡ OutOfMemory) ⊎ IsAmong (kind_of c.in-Err.error) (fault_of a words))
    app
    (c.in-Err.ensures.kinds (free _ app))) in
    c.command_alone.ensures ∙ ap asked_alone c.shown_by.ensures.value
    ∙ asked_shown (fault_of storyhost_app words) words c.topic_of.result c.kind.result
    (alike_faults words) (among _ _ has c.in_default.not-OutOfMemory) c.topic_of.ensures
