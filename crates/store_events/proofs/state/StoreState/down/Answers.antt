use Rattle.std.proofs.Common.{◌≡◌, false, rules, subst}
use Rattle.store_events.specs.Events.{store_down_over}
use Rattle.store_events.specs.Steady.{IsSteady}
use Rattle.store_events.specs.declared.state.StoreState.{StoreState}
use Rattle.store_events.specs.declared.state.FileStep.TheVariants.{Idle}
use Rattle.store_events.proofs.SteadyLemmas.{down_steady}
use Rattle.store_events.proofs.state.StoreState.down.Goals as goal

pub returns-clause-steady : goal.returns-clause-steady
returns-clause-steady c =
    let value : store_down_over c.args.file.now ≡ record {
      up = false;
      disk = c.in_ok-settled.field-0;
      faults = 0;
      made = c.outline_of.result.made;
      slots = c.slots_in.result;
      step = Idle;
    } = search rules in
    subst (λ (w : StoreState). IsSteady w) value (down_steady c.args.file.now)
