-- What the live commands answer.
use Rattle.std.proofs.Common.{◌≡◌, ◌⊎◌, ◌≤◌, Bool, true, false, List, [], ◌++◌, length, sym, ◌∙◌}
use Rattle.std.proofs.Common.{ap, subst, arith, length-append}
use Rattle.std.specs.Prelude.{if◌then◌else◌}
use Rattle.gate_journal.specs.declared.command.Command.{Command}
use Rattle.gate_journal.specs.Rows.{commands_of, is_free}
use Rattle.session_core.specs.Answer.{answer}
use Rattle.session_core.specs.History.{game_of}
use Rattle.pack_laws.specs.Laws.{AnswersAsUnused, AnswersInUse, full}
use Rattle.pack_laws.proofs.GameLemmas.{as_shorter, game_of-game, length-game_of, same_more}
use Rattle.pack_laws.proofs.KeptLemmas.{live_games}

-- one of the two, as the session is free or in use
chosen : (free is : Bool) (game : List Command) → free ≡ is
    → (if free then [] else game) ≡ (if is then [] else game)
chosen free is game so = ap (λ (b : Bool). if b then [] else game) so

pub in_use : AnswersInUse
in_use stories rows s more request all isnt =
    let old = commands_of rows s in
    let game = game_of old in
    let same = live_games rows s all ∙ chosen (is_free old) false game isnt in
    let le : length (game ++ more) ≤ length (old ++ more) =
    omega (arith, length-game_of old, length-append game more, length-append old more) in
    subst (λ (l : List Command). (answer stories (l ++ more) request
    ≡ answer stories (old ++ more) request)
    ⊎ ((8192 ≤ length (old ++ more)) × (answer stories (old ++ more) request ≡ full))) (sym same)
    (as_shorter stories (old ++ more) (game ++ more) request
    (same_more game old more (game_of-game old)) le)

pub as_unused : AnswersAsUnused
as_unused stories rows s more request all is =
    let old = commands_of rows s in
    ap (λ (l : List Command). answer stories (l ++ more) request)
    (live_games rows s all ∙ chosen (is_free old) true (game_of old) is)
