use Rattle.std.proofs.Common.{◌≡◌, sym, subst, OnOk}
use Rattle.store_events.specs.Events.{file_after}
use Rattle.store_events.specs.declared.event.FileEvent.{FileEvent}
use Rattle.store_events.proofs.state.StoreState.happen.Goals as goal

pub returns-in-Keep : goal.returns-in-Keep
returns-in-Keep c =
    subst (λ (e : FileEvent). OnOk c.keep.result (c.keep.new.self ≡ file_after c.args.self.now e))
    (sym c.in-Keep.is) c.keep.ensures.ok

pub returns-in-Stop : goal.returns-in-Stop
returns-in-Stop c =
    subst (λ (e : FileEvent). OnOk c.stop.result (c.stop.new.self ≡ file_after c.args.self.now e))
    (sym c.in-Stop.is) c.stop.ensures.ok
