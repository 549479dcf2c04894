-- What is so of each area stays so, through every event.
use Rattle.std.proofs.Common.{◌≡◌, ◌⊎◌, inl, inr, ◌∙◌, ℕ, Bool, true}
use Rattle.std.proofs.Common.{false, List, refl, sym, ap, subst}
use Rattle.std.specs.Prelude.{Some, IfSome}
use Rattle.std.proofs.lemmas.Bool.{cases_Bool}
use Rattle.std.proofs.lemmas.Option.{none-some, same_Some}
use Rattle.disk_model.specs.DiskState.{IsDiskImage}
use Rattle.snap_store.specs.declared.side.Side.{Side}
use Rattle.snap_store.specs.declared.side.Side.TheVariants.{A, B}
use Rattle.snap_store.specs.declared.slot.Slot.{Slot}
use Rattle.snap_store.specs.declared.slot.Slot.TheVariants.{Closed, Open, Unsure}
use Rattle.snap_store.specs.declared.slot.Slots.{Slots}
use Rattle.snap_store.specs.File.{Stored, openable_area, whole_area}
use Rattle.snap_store.specs.Images.{StandsOnSide, loosened}
use Rattle.snap_store.specs.Slots.{opposite_side, slot_in, slot_of, taken_side, with_slot}
use Rattle.snap_store.specs.Store.{area_held}
use Rattle.snap_store.proofs.PutLemmas.{slot_kept, slot_set}
use Rattle.snap_store.proofs.StoreLemmas.{held_in, held_is, laid_side, sound_images}
use Rattle.store_events.specs.declared.event.FileEvent.{FileEvent}
use Rattle.store_events.specs.declared.event.FileEvent.TheVariants.{Keep, Call, Stop, Recover}
use Rattle.store_events.specs.declared.state.PutStage.{PutStage}
use Rattle.store_events.specs.declared.state.PutStage.TheVariants.{CloseWrite, CloseSync, HeadWrite}
use Rattle.store_events.specs.declared.state.PutStage.TheVariants.{BytesWrite, AreaSync, OpenWrite}
use Rattle.store_events.specs.declared.state.PutStage.TheVariants.{OpenSync}
use Rattle.store_events.specs.declared.state.FileStep.{FileStep}
use Rattle.store_events.specs.declared.state.FileStep.TheVariants.{Idle, Put, Opening}
use Rattle.store_events.specs.declared.state.StoreState.{StoreState}
use Rattle.store_events.specs.Disk.{disk_after}
use Rattle.store_events.specs.Events.{file_after, store_called, store_comes_up}
use Rattle.store_events.specs.Events.{next_store_call, begins_opening}
use Rattle.store_events.specs.Events.{put_begins, put_call, put_onward, slots_in, store_stopped}
use Rattle.store_events.specs.Steady.{HasStage, HasStep, IsPutting, IsSteady}
use Rattle.store_events.specs.Steady.{state_words, store_of}
use Rattle.store_events.specs.Areas.{Brings, EachArea, EachOpenable, area_being_put}
use Rattle.store_events.proofs.ImageLemmas.{stays_after}
use Rattle.store_events.proofs.EventLemmas.{bad_call, bad_reading, good_call, good_reading, keeps}
use Rattle.store_events.proofs.EventLemmas.{reopens, stops}
use Rattle.store_events.proofs.PuttingLemmas.{put_leaves, side_of_both}

-- ---- both sides

pub same_or_other : (side s : Side) → (s ≡ side) ⊎ (s ≡ opposite_side side)
same_or_other A A = inl refl
same_or_other A B = inr refl
same_or_other B A = inr refl
same_or_other B B = inl refl

pub shown_side : (side : Side) (file : List ℕ) → slot_of (slots_in file) side ≡ slot_in side file
shown_side A file = refl
shown_side B file = refl

-- what is held once a file was read may open in it
pub shown_held : (side : Side) (file : List ℕ) (area : Stored)
    → area_held side (slot_of (slots_in file) side) file ≡ Some area
    → openable_area side file ≡ Some area
shown_held A file area is = sym (held_in A file) ∙ is
shown_held B file area is = sym (held_in B file) ∙ is

-- ---- what is held, as the disk reads otherwise

abbrev HeldBy : (Stored → Type 0) → Slots → List ℕ → Type 0
HeldBy P slots file =
    (side : Side) (area : Stored) → area_held side (slot_of slots side) file ≡ Some area → P area

-- each side stands there as it stood
abbrev pub StandsBy : Slots → List ℕ → List ℕ → Type 0
StandsBy slots file image =
    (side : Side) → StandsOnSide side (slot_of slots side) (whole_area side file) image

held_same : (P : Stored → Type 0) (slots : Slots) (file image : List ℕ) → StandsBy slots file file
    → StandsBy slots file image → HeldBy P slots file → HeldBy P slots image
held_same P slots file image here there all side area is =
    all side area
    (held_is side (slot_of slots side) (whole_area side file) file image (here side) (there side)
    ∙ is)

closed_side : (slots : Slots) → slots.a ≡ Closed → slots.b ≡ Closed → (side : Side)
    → slot_of slots side ≡ Closed
closed_side slots a b A = a
closed_side slots a b B = b

-- in each image, of a file with its header or without
pub stands_by : (w : StoreState) → IsSteady w → (c : List ℕ) → IsDiskImage w.disk c
    → StandsBy w.slots w.disk.seen c ⊎ ((side : Side) → slot_of w.slots side ≡ Closed)
stands_by w steady c image = elim (cases_Bool w.made) [
  | inl made ↦ inl (λ side. laid_side side w.slots w.disk.seen c
      (steady.sound.laid made refl c image))
  | inr unmade ↦ inr (closed_side w.slots (steady.sound.unmade unmade).0
      (steady.sound.unmade unmade).1)
]

held_closed : (P : Stored → Type 0) (slots : Slots) (file : List ℕ)
    → ((side : Side) → slot_of slots side ≡ Closed) → HeldBy P slots file
held_closed P slots file closed side area is =
    absurd (none-some area (sym (ap (λ (s : Slot). area_held side s file) (closed side)) ∙ is))

-- where it reads as one of its images
pub held_at : (P : Stored → Type 0) (w : StoreState) → IsSteady w → HeldBy P w.slots w.disk.seen
    → (c : List ℕ) → IsDiskImage w.disk c → HeldBy P w.slots c
held_at P w steady all c image = elim (stands_by w steady c image) [
  | inr closed ↦ held_closed P w.slots c closed
  | inl there ↦ elim (stands_by w steady w.disk.seen steady.reads) [
    | inr closed ↦ held_closed P w.slots c closed
    | inl here ↦ held_same P w.slots w.disk.seen c here there all
  ]
]

-- ---- a call of a put

module _ (P : Stored → Type 0) (w : StoreState) (steady : IsSteady w) (all : EachArea P w)
    (side : Side)
    (area : Stored) (putting : IsPutting w side area) (new : P area) where
  put_stands : (stage : PutStage) → HasStage w stage side area → (good : Bool) (reads : List ℕ)
      → (let q = disk_after (put_call stage side area) good reads w.disk in
      IsDiskImage q q.seen → StandsBy w.slots w.disk.seen q.seen)
  put_stands stage has good reads read =
      let q = disk_after (put_call stage side area) good reads w.disk in
      side_of_both side w.slots w.disk.seen q.seen
      (put_leaves w steady side area putting stage has good reads q.seen read)

  put_held : (stage : PutStage) → HasStage w stage side area → (good : Bool) (reads : List ℕ)
      → (let q = disk_after (put_call stage side area) good reads w.disk in
      IsDiskImage q q.seen → HeldBy P w.slots q.seen)
  put_held stage has good reads read =
      let q = disk_after (put_call stage side area) good reads w.disk in
      held_same P w.slots w.disk.seen q.seen
      (λ s. laid_side s w.slots w.disk.seen w.disk.seen
      (steady.sound.laid putting.made refl w.disk.seen steady.reads))
      (put_stands stage has good reads read) all.held

  -- once more is known of the gate
  known_held : (slot : Slot) → ((x : Stored) → area_held side slot w.disk.seen ≡ Some x → P x)
      → HeldBy P (with_slot w.slots side slot) w.disk.seen
  known_held slot here s x is = of (same_or_other side s)
    where
      of : (s ≡ side) ⊎ (s ≡ opposite_side side) → P x
      of (inl same) =
          here x
          (ap (λ (t : Slot). area_held side t w.disk.seen) (sym (slot_set side w.slots slot))
          ∙ subst
          (λ (t : Side). area_held t (slot_of (with_slot w.slots side slot) t) w.disk.seen ≡ Some x)
          same is)
      of (inr beside) =
          all.held (opposite_side side) x
          (ap (λ (t : Slot). area_held (opposite_side side) t w.disk.seen)
          (sym (slot_kept side w.slots slot))
          ∙ subst
          (λ (t : Side). area_held t (slot_of (with_slot w.slots side slot) t) w.disk.seen ≡ Some x)
          beside is)

  closed_held : (x : Stored) → area_held side Closed w.disk.seen ≡ Some x → P x
  closed_held x is = absurd (none-some x is)

  whole_held : whole_area side w.disk.seen ≡ Some area → (x : Stored)
      → whole_area side w.disk.seen ≡ Some x → P x
  whole_held there x is = subst P (same_Some area x (sym there ∙ is)) new

  put_areas : (stage : PutStage) → HasStage w stage side area → (reads : List ℕ)
      → (let q = disk_after (put_call stage side area) true reads w.disk in
      EachArea P (put_onward (record w { disk = q }) stage side area))
  put_areas stage has reads = of stage has
    where
      write_held : (s : PutStage) → HasStage w s side area
          → HeldBy P w.slots (disk_after (put_call s side area) true reads w.disk).seen
      write_held s has =
          put_held s has true reads (stays_after (put_call s side area) reads w.disk steady.reads)

      of : (s : PutStage) → HasStage w s side area
          → (let q = disk_after (put_call s side area) true reads w.disk in
          EachArea P (put_onward (record w { disk = q }) s side area))
      of CloseWrite has = record { held = write_held CloseWrite has; put = new }
      of CloseSync has = record { held = known_held Closed closed_held; put = new }
      of HeadWrite has = record { held = write_held HeadWrite has; put = new }
      of BytesWrite has = record { held = write_held BytesWrite has; put = new }
      of AreaSync has = record { held = known_held Unsure (whole_held has.1); put = new }
      of OpenWrite has = record { held = write_held OpenWrite has; put = new }
      of OpenSync has = record {
        held = known_held (Open area.place area.count) (whole_held has.1.1);
        put = tt;
      }

-- ---- every call

module _ (P : Stored → Type 0) where
  -- each area that may open in an image is one that is held
  pub in_image : (w : StoreState) → IsSteady w → EachArea P w → (image : List ℕ)
      → IsDiskImage w.disk image → EachOpenable P image
  in_image w steady all image is side area there =
      all.held side area
      ((sound_images state_words (store_of w) steady.sound refl image is).openable
      side area there)

  up_areas : (w : StoreState) → IsSteady w → EachArea P w → EachArea P (store_comes_up w)
  up_areas w steady all = record {
    held = λ side area is. in_image w steady all w.disk.seen steady.reads side area
        (shown_held side w.disk.seen area is);
    put = tt;
  }

  called_areas : (w : StoreState) → IsSteady w → EachArea P w → (good : Bool) (reads : List ℕ)
      → (step : FileStep) → HasStep w step → IfSome (area_being_put step) P
      → EachArea P (store_called w good reads step (next_store_call step))
  called_areas w steady all good reads Idle has put = all
  called_areas w steady all true reads (Put stage side area) has put =
      good_call (EachArea P) w all (Put stage side area) (put_call stage side area) reads
      (put_areas P w steady all side area has.0 put stage has.1 reads)
  called_areas w steady all false reads (Put stage side area) has put =
      bad_call (EachArea P) w all (Put stage side area) (put_call stage side area) reads (λ read.
      record {
        held = put_held P w steady all side area has.0 put stage has.1 false reads read;
        put = tt;
      })
  called_areas w steady all true reads (Opening reading) has put =
      good_reading (EachArea P) w all reading has reads (record { held = all.held; put = tt })
      (λ only next. record { held = all.held; put = tt }) (λ only. up_areas w steady all)
  called_areas w steady all false reads (Opening reading) has put =
      bad_reading (EachArea P) w all reading reads steady.reads (λ q narrower read. record {
        held = held_at P w steady all.held q.seen (narrower q.seen read);
        put = tt;
      })

  -- ---- the other events

  loosened_held : (side : Side) (slot : Slot) (file : List ℕ) (x : Stored)
      → area_held side (loosened slot) file ≡ Some x → area_held side slot file ≡ Some x
  loosened_held side Closed file x is = is
  loosened_held side Unsure file x is = is
  loosened_held side (Open place count) file x is = is

  begins_areas : (w : StoreState) (side : Side) (area : Stored) → EachArea P w → P area
      → EachArea P (put_begins w side area)
  begins_areas w side area all new = record {
    held = λ s x is. of side s (slot_of w.slots side) refl x is;
    put = new;
  }
    where
      of : (side s : Side) (slot : Slot) → slot_of w.slots side ≡ slot → (x : Stored)
          → area_held s (slot_of (with_slot w.slots side (loosened slot)) s) w.disk.seen ≡ Some x
          → P x
      of A A slot at x is = all.held A x
          (ap (λ (t : Slot). area_held A t w.disk.seen) at ∙ loosened_held A slot w.disk.seen x is)
      of A B slot at x is = all.held B x is
      of B A slot at x is = all.held A x is
      of B B slot at x is = all.held B x
          (ap (λ (t : Slot). area_held B t w.disk.seen) at ∙ loosened_held B slot w.disk.seen x is)

  pub stop_areas : (w : StoreState) → IsSteady w → EachArea P w → (image : List ℕ)
      → IsDiskImage w.disk image → EachArea P (store_stopped w image)
  stop_areas w steady all image is =
      record { held = held_at P w steady all.held image is; put = tt }

  pub opens_areas : (w : StoreState) → EachArea P w → EachArea P (begins_opening w)
  opens_areas w all = record { held = all.held; put = tt }

  pub after_areas : (w : StoreState) (event : FileEvent) → IsSteady w → Brings P event → EachArea P w
      → EachArea P (file_after w event)
  after_areas w (Keep place count bytes) steady brings all =
      let area : Stored = record { place = place; count = count; bytes = bytes } in
      keeps (EachArea P) w all area w.step
      (λ _. begins_areas w (taken_side w.slots) area all brings)
  after_areas w (Call good reads) steady brings all =
      called_areas w steady all good reads w.step steady.step all.put
  after_areas w (Stop image) steady brings all =
      stops (EachArea P) w all image (stop_areas w steady all image)
  after_areas w Recover steady brings all =
      reopens (EachArea P) w all w.up (opens_areas w all)
