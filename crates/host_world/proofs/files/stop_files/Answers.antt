use Rattle.std.proofs.Common.{◌≡◌, ◌∙◌, ◌<◌, List, length, rules}
use Rattle.std.proofs.Common.{sym, ap, None, Some, Vec, Global, ℕ}
use Rattle.std.specs.List.{slice_get}
use Rattle.std.proofs.lemmas.Option.{slice_get-get_or, slice_get_past}
use Rattle.store_events.specs.declared.state.StoreState.{StoreState}
use Rattle.host_world.proofs.WholeCode.{skips_next, stops_end, stops_next}
use Rattle.host_world.proofs.files.stop_files.Goals.{then-at-images+in_ok-stop, else-at-images}
use Rattle.host_world.proofs.files.stop_files.Goals as goal

pub returns : goal.returns
returns c =
    stops_end c.args.stores.now.items c.loop-at.stores.items c.args.images.now c.loop-at.at
    (search rules) c.loop-at.invariant

pub loop-at-preserved : goal.loop-at-preserved
loop-at-preserved c =
    let within : c.loop-at.at < length c.args.stores.now.items = search rules in
    elim c.if-at-images.branch [
      | then-at-images+in_ok-stop w ↦
          let image = w.index-images-at.result in
          let named : slice_get c.args.images.now c.loop-at.at ≡ Some image =
          slice_get-get_or c.args.images.now c.loop-at.at image w.if-at-images.true
          ∙ ap (λ (l : List ℕ). Some l) (sym w.index-images-at.is) in
          ap (λ (v : Vec StoreState Global). v.items) w.stores-is
          ∙ stops_next c.args.stores.now.items c.loop-at.stores.items c.args.images.now c.loop-at.at
          w.index_mut.result.now w.stop.new.self image within c.loop-at.invariant
          (search rules) named w.in_ok-stop.ensures.ok
      | else-at-images w ↦
          let none : slice_get c.args.images.now c.loop-at.at ≡ None =
          slice_get_past c.args.images.now c.loop-at.at w.if-at-images.false in
          ap (λ (v : Vec StoreState Global). v.items) w.stores-is
          ∙ skips_next c.args.stores.now.items c.loop-at.stores.items c.args.images.now c.loop-at.at
          within c.loop-at.invariant none
    ]
