-- Puts and openings, call by call.
use Rattle.std.proofs.Common.{◌≡◌, ℕ, List, [], ◌∷◌, ◌++◌, true, false, refl}
use Rattle.disk_model.specs.DiskState.{settled}
use Rattle.snap_store.specs.declared.slot.Slot.TheVariants.{Closed, Open, Unsure}
use Rattle.snap_store.specs.declared.slot.Slots.{Slots}
use Rattle.snap_store.specs.File.{has_header}
use Rattle.store_events.specs.Events.{store_down_over, run_store}
use Rattle.store_events.specs.declared.event.FileEvent.{FileEvent}
use Rattle.store_events.specs.declared.event.FileEvent.TheVariants.{Keep, Call, Recover}
use Rattle.store_events.specs.declared.state.FileStep.TheVariants.{Idle}
use Rattle.store_events.specs.declared.state.StoreState.{StoreState}

-- an opened file of which this is known
abbrev knowing : Slots → StoreState
knowing slots =
    record {
      up = true;
      disk = settled [];
      faults = 0;
      made = true;
      slots = slots;
      step = Idle;
    }

abbrev good : FileEvent
good = Call true []

abbrev three : List FileEvent
three = good ∷ good ∷ good ∷ []

abbrev put : ℕ → FileEvent
put count = Keep 16 count (7 ∷ [])

-- six calls where the gate is known to be closed, and seven where it isn't
closed_gate :
    (run_store (knowing (record { a = Closed; b = Closed })) (put 16 ∷ three ++ three)).slots
    ≡ record { a = Open 16 16; b = Closed }
closed_gate = refl

unsure_gate :
    (run_store (knowing (record { a = Unsure; b = Closed })) (put 16 ∷ good ∷ three ++ three)).slots
    ≡ record { a = Open 16 16; b = Closed }
unsure_gate = refl

-- the next one beside it, and then the older one's place
beside :
    (run_store (knowing (record { a = Open 16 16; b = Closed })) (put 32 ∷ three ++ three)).slots
    ≡ record { a = Open 16 16; b = Open 16 32 }
beside = refl

older : (run_store (knowing (record { a = Open 16 16; b = Open 16 32 })) (put 48 ∷ [])).slots
    ≡ record { a = Unsure; b = Open 16 32 }
older = refl

-- before the last call nothing is known of it
before_the_last : (run_store (knowing (record { a = Closed; b = Closed }))
    (put 16 ∷ three ++ good ∷ good ∷ [])).slots
    ≡ record { a = Unsure; b = Closed }
before_the_last = refl

-- one put at a time
one_at_a_time : run_store (knowing (record { a = Closed; b = Closed })) (put 16 ∷ put 32 ∷ [])
    ≡ run_store (knowing (record { a = Closed; b = Closed })) (put 16 ∷ [])
one_at_a_time = refl

-- there is no room for these numbers, so no put begins
counts_pass : run_store (knowing (record { a = Closed; b = Closed })) (Keep 16 4294967296 [] ∷ [])
    ≡ knowing (record { a = Closed; b = Closed })
counts_pass = refl

places_pass : run_store (knowing (record { a = Closed; b = Closed }))
    (Keep 18446744073709551616 16 [] ∷ [])
    ≡ knowing (record { a = Closed; b = Closed })
places_pass = refl

-- a call that fails ends it
failed_close : (run_store (knowing (record { a = Open 16 16; b = Open 16 32 }))
    (put 48 ∷ Call false [] ∷ [])).step
    ≡ Idle
failed_close = refl

failed_count : (run_store (knowing (record { a = Open 16 16; b = Open 16 32 }))
    (put 48 ∷ Call false [] ∷ [])).faults
    ≡ 1
failed_count = refl

-- an opening of a file without its header
opened_empty : (run_store (store_down_over []) (Recover ∷ good ∷ good ∷ three)).up ≡ true
opened_empty = refl

opened_unmade : (run_store (store_down_over []) (Recover ∷ good ∷ good ∷ three)).made ≡ false
unfolding has_header
opened_unmade = refl
