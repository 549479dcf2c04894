-- The device calls of a put.
use Rattle.std.proofs.Common.{◌≡◌, ◌+◌, ◌<◌, ◌≤◌, ℕ, true, false, refl, arith}
use Rattle.snap_store.specs.File.{gate_of, side_start}
use Rattle.snap_store.specs.Slots.{closing_calls, is_closed}
use Rattle.snap_store.specs.declared.side.TheConstants.{GATE_A, GATE_B}
use Rattle.snap_store.specs.declared.side.Side.{Side}
use Rattle.snap_store.specs.declared.side.Side.TheVariants.{A, B}
use Rattle.snap_store.specs.declared.slot.Slot.{Slot}
use Rattle.snap_store.specs.declared.slot.Slot.TheVariants.{Closed, Open, Unsure}

pub closing_some : (slot : Slot) → 0 < closing_calls slot
closing_some Closed = omega arith
closing_some Unsure = omega arith
closing_some (Open place count) = omega arith

pub calls_shut : (slot : Slot) → is_closed slot ≡ true → closing_calls slot ≡ 1
calls_shut slot shut = rw shut refl

pub calls_open : (slot : Slot) → is_closed slot ≡ false → closing_calls slot ≡ 2
calls_open slot open_gate = rw open_gate refl

-- the gates stand before the areas
pub gate_low : (side : Side) (n : ℕ) → gate_of side + 1 ≤ side_start side + 16 + n
gate_low A n = omega arith
gate_low B n = omega arith
