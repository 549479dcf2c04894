-- What is so of each area that may open (own).
use Rattle.std.specs.Prelude.{◌≡◌, ℕ, List, Option, Some, None, IfSome}
use Rattle.snap_store.specs.declared.side.Side.{Side}
use Rattle.snap_store.specs.File.{Stored, openable_area}
use Rattle.snap_store.specs.Store.{store_area}
use Rattle.store_events.specs.declared.event.FileEvent.{FileEvent}
use Rattle.store_events.specs.declared.event.FileEvent.TheVariants.{Keep, Call, Stop, Recover}
use Rattle.store_events.specs.declared.state.FileStep.{FileStep}
use Rattle.store_events.specs.declared.state.FileStep.TheVariants.{Idle, Put, Opening}
use Rattle.store_events.specs.declared.state.StoreState.{StoreState}
use Rattle.store_events.specs.Steady.{seen_of, store_of}

-- the area that a put is writing
abbrev pub area_being_put : FileStep → Option Stored
area_being_put Idle = None
area_being_put (Put stage side area) = Some area
area_being_put (Opening reading) = None

-- Each area that the store holds has this, and the one that a put is writing.
pub record EachArea (P : Stored → Type 0) (w : StoreState) : Type 0 where
  pub held :
      (side : Side) (area : Stored) → store_area seen_of (store_of w) side ≡ Some area → P area
  pub put : IfSome (area_being_put w.step) P

-- Each area that may open in a file has it.
abbrev pub EachOpenable : (Stored → Type 0) → List ℕ → Type 0
EachOpenable P file = (side : Side) (area : Stored) → openable_area side file ≡ Some area → P area

-- an event brings no area that doesn't
abbrev pub Brings : (Stored → Type 0) → FileEvent → Type 0
Brings P (Keep place count bytes) =
    P (record { place = place; count = count; bytes = bytes })
Brings P (Call good reads) = Unit {0}
Brings P (Stop image) = Unit {0}
Brings P Recover = Unit {0}
