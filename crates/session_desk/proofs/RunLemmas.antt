-- What is left to do once a command was committed.
use Rattle.std.proofs.Common.{◌≡◌, true, false, List, [], ◌∷◌, ◌++◌, Option, is_none, refl}
use Rattle.gate_journal.specs.declared.command.Command.{Command}
use Rattle.gate_journal.specs.declared.command.Command.TheVariants as commands
use Rattle.story_run.specs.World.{WorldState}
use Rattle.session_core.specs.History.{game_of, is_in_use, last_of}
use Rattle.session_core.proofs.RepeatLemmas.{joined, game_of-append, game_of-append-open}
use Rattle.session_core.proofs.RepeatLemmas.{last_of-joined}
use Rattle.session_desk.specs.declared.held.Held.{Held}
use Rattle.session_desk.specs.declared.held.Held.TheVariants.{Nothing, Current, Previous}
use Rattle.session_desk.specs.Desk.{aside, changes_use, game, is_to_run, world_now, DeskState}
use Rattle.session_desk.proofs.AlikeLemmas.{IsReadyFor}

input_runs : (held : Held) (c : Command) (last : Option Command)
    → ((w : WorldState) → aside c (Current w) ≡ Previous w)
    → is_none (world_now held) ≡ false
    → is_to_run (aside c held) last ≡ true
input_runs Nothing c last sets e = absurd cc
input_runs (Current w) c last sets e = rw (sets w) refl
input_runs (Previous w) c last sets e = absurd cc

close_last : (g : List Command)
    → is_in_use g ≡ true
    → changes_use (last_of (joined g commands.Close)) ≡ true
close_last [] used = absurd cc
close_last (d ∷ ds) used = rw (last_of-joined d ds commands.Close) refl

pub to_run : (desk : DeskState) (c : Command) → IsReadyFor desk c
    → is_to_run (aside c desk.held) (last_of (game_of (desk.commands ++ c ∷ []))) ≡ true
to_run desk (commands.Open key story digest seed cols rows budget) ready =
    let c = commands.Open key story digest seed cols rows budget in
    rw (game_of-append-open desk.commands c refl) refl
to_run desk commands.Close ready =
    rw (game_of-append desk.commands commands.Close refl) (close_last (game desk) ready)
to_run desk (commands.Line win term text) ready =
    input_runs desk.held (commands.Line win term text) _ (λ w. refl) ready.1
to_run desk (commands.Char win code) ready =
    input_runs desk.held (commands.Char win code) _ (λ w. refl) ready.1
to_run desk (commands.File name) ready =
    input_runs desk.held (commands.File name) _ (λ w. refl) ready.1
to_run desk (commands.Size cols rows) ready =
    input_runs desk.held (commands.Size cols rows) _ (λ w. refl) ready.1
