use Rattle.std.proofs.Common.{◌≡◌, ◌∙◌, Option, Some, Result, Ok, Err, subst, sym}
use Rattle.std.specs.Prelude.{IfSome, OnOk}
use Rattle.std.specs.List.{slice_get}
use Rattle.store_events.specs.declared.state.StoreState.{StoreState}
use Rattle.host_world.specs.Keeping.{IsOwnSnapshot}
use Rattle.host_world.specs.declared.keeping.Snapshot.{Snapshot}
use Rattle.host_world.proofs.Lists.{some_same}
use Rattle.host_world.proofs.whole.HostState.keep.Goals as goal

on_ok : {T E P : Type 0} (r : Result T E) → P → OnOk r P
on_ok (Ok x) p = p
on_ok (Err e) p = tt

pub returns-clause-own : goal.returns-clause-own
returns-clause-own c = on_ok c.keep_file.result
    (λ x snapshot at is.
    let own =
    subst (λ (o : Option Snapshot). IfSome o (λ z. (y : StoreState)
    → slice_get c.args.self.now.stores c.args.s ≡ Some y
    → IsOwnSnapshot c.args.stories.now c.args.self.now.host.rows c.args.s y z))
    c.in-Some.is c.in_ok-snapshot.ensures.own in
    subst (λ (z : Snapshot). IsOwnSnapshot c.args.stories.now c.args.self.now.host.rows c.args.s x z)
    (some_same c.in-Some.snapshot snapshot
    (sym c.in-Some.is ∙ c.in_ok-snapshot.ensures.value ∙ is)) (own x at))
