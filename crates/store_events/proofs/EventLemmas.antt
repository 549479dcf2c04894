-- What an event keeps, where each thing that it may do keeps it.
use Rattle.std.proofs.Common.{◌≡◌, ℕ, Bool, true, false, List, refl}
use Rattle.std.specs.Prelude.{◌&&◌, if◌then◌else◌, Some}
use Rattle.disk_model.specs.DiskState.{DiskState, IsDiskImage, settled}
use Rattle.disk_model.specs.Plain.{is_image}
use Rattle.disk_model.proofs.PlainLaws.{image_is}
use Rattle.snap_store.specs.File.{Stored}
use Rattle.snap_store.specs.Slots.{taken_side}
use Rattle.store_events.specs.declared.disk.DiskCall.{DiskCall}
use Rattle.store_events.specs.declared.disk.DiskCall.TheVariants.{Sync, Look}
use Rattle.store_events.specs.declared.state.OpeningStage.{OpeningStage}
use Rattle.store_events.specs.declared.state.OpeningStage.TheVariants.{FirstSync, AskSize, ReadFront}
use Rattle.store_events.specs.declared.state.OpeningStage.TheVariants.{ReadA, ReadB}
use Rattle.store_events.specs.declared.state.FileStep.{FileStep}
use Rattle.store_events.specs.declared.state.FileStep.TheVariants.{Idle, Put, Opening}
use Rattle.store_events.specs.declared.state.StoreState.{StoreState}
use Rattle.store_events.specs.Disk.{fault_counted, disk_after, may_work}
use Rattle.store_events.specs.Events.{begins_opening, has_room, keep_at, next_store_call}
use Rattle.store_events.specs.Events.{put_begins, store_called, store_comes_up, store_onward}
use Rattle.store_events.specs.Events.{store_stopped}
use Rattle.store_events.specs.Steady.{HasStep, IsSettled}
use Rattle.store_events.proofs.ImageLemmas.{look_leaves, stays_bad, sync_leaves}

module _ (P : StoreState → Type 0) (w : StoreState) (was : P w) where
  -- what isn't enabled leaves the file
  if_enabled : (b : Bool) (v : StoreState) → (b ≡ true → P v) → P (if b then v else w)
  if_enabled true v then_ = then_ refl
  if_enabled false v then_ = was

  pub keeps : (area : Stored) (step : FileStep)
      → ((w.up && w.made && has_room area) ≡ true → P (put_begins w (taken_side w.slots) area))
      → P (keep_at w area step)
  keeps area Idle begins =
      if_enabled (w.up && w.made && has_room area) (put_begins w (taken_side w.slots) area) begins
  keeps area (Put stage side other) begins = was
  keeps area (Opening reading) begins = was

  pub stops : (image : List ℕ) → (IsDiskImage w.disk image → P (store_stopped w image))
      → P (if is_image w.disk image then store_stopped w image else w)
  stops image then_ =
      if_enabled (is_image w.disk image) (store_stopped w image)
      (λ told. then_ (image_is w.disk image told))

  pub reopens : (up : Bool) → P (begins_opening w) → P (if up then w else begins_opening w)
  reopens true opens = was
  reopens false opens = opens

  -- ---- a call

  pub good_call : (step : FileStep) (call : DiskCall) (reads : List ℕ)
      → P (store_onward (record w { disk = disk_after call true reads w.disk }) step)
      → P (store_called w true reads step (Some call))
  good_call step call reads then_ =
      if_enabled (may_work call)
      (store_onward (record w { disk = disk_after call true reads w.disk }) step) (λ _. then_)

  -- after a bad one the disk is this
  abbrev pub fails : DiskState → StoreState
  fails q = record w { disk = q; faults = fault_counted w.faults; step = Idle }

  pub bad_call : (step : FileStep) (call : DiskCall) (reads : List ℕ)
      → (let q = disk_after call false reads w.disk in IsDiskImage q q.seen → P (fails q))
      → P (store_called w false reads step (Some call))
  bad_call step call reads then_ =
      if_enabled (is_image (disk_after call false reads w.disk) reads)
      (fails (disk_after call false reads w.disk))
      (λ told. then_ (stays_bad call reads w.disk told))

  -- ---- a call of an opening

  pub good_reading : (reading : OpeningStage) → HasStep w (Opening reading) → (reads : List ℕ)
      → P (record w { disk = settled w.disk.seen; step = Opening AskSize })
      → (IsSettled w.disk → (next : OpeningStage) → P (record w { step = Opening next }))
      → (IsSettled w.disk → P (store_comes_up w))
      → P (store_called w true reads (Opening reading) (next_store_call (Opening reading)))
  good_reading FirstSync has reads first next up = first
  good_reading AskSize has reads first next up = next has ReadFront
  good_reading ReadFront has reads first next up = next has ReadA
  good_reading ReadA has reads first next up = next has ReadB
  good_reading ReadB has reads first next up = up has

  -- a bad one leaves no image that is new
  pub bad_reading : (reading : OpeningStage) (reads : List ℕ) → IsDiskImage w.disk w.disk.seen
      → ((q : DiskState) → ((c : List ℕ) → IsDiskImage q c → IsDiskImage w.disk c)
      → IsDiskImage q q.seen → P (fails q))
      → P (store_called w false reads (Opening reading) (next_store_call (Opening reading)))
  bad_reading reading reads stays then_ = of reading
    where
      looks : P (store_called w false reads (Opening reading) (Some Look))
      looks =
          bad_call (Opening reading) Look reads
          (then_ (disk_after Look false reads w.disk)
          (λ c image. look_leaves false reads w.disk c image))

      of : (r : OpeningStage)
          → P (store_called w false reads (Opening r) (next_store_call (Opening r)))
      of FirstSync =
          bad_call (Opening FirstSync) Sync reads
          (then_ (disk_after Sync false reads w.disk)
          (λ c image. sync_leaves false reads w.disk c stays image))
      of AskSize = looks
      of ReadFront = looks
      of ReadA = looks
      of ReadB = looks
