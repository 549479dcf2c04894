use Rattle.std.proofs.Common.{rules}
use Rattle.std.proofs.lemmas.List.Edits.{map_over_more}
use Rattle.host_world.specs.Sessions.{without_turn}
use Rattle.host_world.proofs.sessions.end_turns.Goals as goal

pub loop-at-preserved : goal.loop-at-preserved
loop-at-preserved c = map_over_more without_turn c.args.sessions.now.items c.loop-at.sessions.items
    c.loop-at.at c.index_mut.result.now (search rules) c.loop-at.invariant (search rules)
