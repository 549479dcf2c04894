use Rattle.std.proofs.Common.{◌∙◌, ap, rules}
use Rattle.std.specs.Prelude.{set}
use Rattle.std.proofs.lemmas.List.Edits.{map_over_more}
use Rattle.store_events.specs.Events.{begins_opening}
use Rattle.store_events.specs.declared.state.StoreState.{StoreState}
use Rattle.host_world.proofs.files.open_files.Goals as goal

pub loop-at-preserved : goal.loop-at-preserved
loop-at-preserved c =
    ap (λ (x : StoreState). set c.loop-at.stores.items c.loop-at.at x) c.open_anew.ensures
    ∙ map_over_more begins_opening c.args.stores.now.items c.loop-at.stores.items
    c.loop-at.at c.index_mut.result.now (search rules) c.loop-at.invariant (search rules)
