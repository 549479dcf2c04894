use Rattle.std.proofs.Common.{◌≡◌, Some, rules}
use Rattle.gate_journal.specs.Rows.{commands_of}
use Rattle.session_core.specs.History.{game_of}
use Rattle.session_saves.specs.Agreement.{last_row, opens_of}
use Rattle.host_world.proofs.KeepingLemmas.{if_both, is_own}
use Rattle.host_world.proofs.keeping.due_snapshot.Goals as goal

pub returns-clause-own : goal.returns-clause-own
returns-clause-own c =
    let rows = c.args.rows.now in
    let last : last_row (opens_of rows c.args.s) ≡ Some c.in-Ok-Ok.place = search rules in
    let game_is : c.game_of-game.result.now ≡ game_of (commands_of rows c.args.s) =
    search rules in
    if_both c.snapshot_of.result
    (λ made is has. is_own c.args.stories.now rows c.args.s c.args.file.now c.in-Ok-Ok.place
    c.game_of-game.result.now made last game_is is has)
    c.snapshot_of.ensures.value c.snapshot_of.ensures.has
