-- The heap, undo, a restart and a save keep what memory has of its image.
use Rattle.std.proofs.Common.{arith, refl, ℕ, ◌-◌, ◌%◌, ◌^◌, ◌==◌, ◌||◌, not, nat_le, nat_lt}
use Rattle.std.proofs.Common.{Bool, true, false, List, [], length, Option, Some, None, cond}
use Rattle.std.specs.Prelude.{◌≡◌}
use Rattle.vm_memory.specs.MemoryMap.{MemoryMap, Origin, reset, resized}
use Rattle.vm_memory.specs.declared.memory.TheConstants.{MAX_SIZE}
use Rattle.vm_stack.specs.StackState.{StackState}
use Rattle.vm_stack.specs.Frame as frame
use Rattle.vm_stack.specs.Stub.{stub_bytes}
use Rattle.vm_heap.specs.Allocation.{freed, malloced}
use Rattle.vm_heap.specs.HeapMap.{HeapMap}
use Rattle.vm_undo.specs.Protection.{protected, protection_start, protection_end}
use Rattle.vm_undo.specs.UndoList.{before_newest, newest, without_newest}
use Rattle.vm_undo.specs.declared.saved.Saved.{Saved}
use Rattle.vm_operand.specs.declared.operand.Dest as d
use Rattle.vm_operand.specs.declared.operand.Dest.TheVariants as dest
use Rattle.vm_exec.specs.Machine.{IsHeldBy, IsWithin}
use Rattle.vm_exec.specs.Rows.Heap as heaps
use Rattle.vm_exec.specs.Rows.Undo as undo
use Rattle.vm_exec.specs.Rules as rules
use Rattle.vm_exec.specs.Start.{finished_at}
use Rattle.vm_exec.specs.declared.machine.Machine.{Machine}
use Rattle.vm_exec.specs.declared.step.Waiting as w
use Rattle.vm_exec.specs.declared.step.Waiting.TheVariants as waiting
use Rattle.vm_undo.proofs.ListLemmas.{before_all, before_limits, newest_all, saved_all}
use Rattle.vm_undo.proofs.ListLemmas.{saved_limits}
use Rattle.vm_exec.proofs.KeepingLemmas.{Base, Gives, Has, Lies, Over, RuleOver, SavedOver}
use Rattle.vm_exec.proofs.KeepingLemmas.{appended-within, has-called, has-stub_taken, in_memory}
use Rattle.vm_exec.proofs.KeepingLemmas.{in_mode, keeping, ok-bind, ok-both, ok-done, ok-fault}
use Rattle.vm_exec.proofs.KeepingLemmas.{ok-flowed, ok-if, ok-stacked, ok-then, on_stack}
use Rattle.vm_exec.proofs.KeepingRules.{over-goes, over-puts, over-stored_in, over-with_stub}

pub over-size_set : {o : Base} (m : Machine) (size : ℕ) (to : d.Dest)
    → Over o m → Gives (heaps.size_set m size to) (Over o)
over-size_set m size to k =
    ok-if (not (m.heap.start == 0) || not (size % 256 == 0) || nat_lt size m.memory.endmem)
    ok-fault
    (ok-if (nat_lt MAX_SIZE size) (over-stored_in 4 m to 1 k)
    (over-stored_in 4 (record m { memory = resized m.memory size }) to 0 k))

over-given : {o : Base} (m : Machine) (x : Option ℕ × HeapMap)
    → Over o m → Over o (heaps.block_given m x).0
over-given m (None, h) k = k
over-given m (Some at, h) k = k

pub over-mallocs : {o : Base} (m : Machine) (size : ℕ) (to : d.Dest)
    → Over o m → RuleOver o (heaps.mallocs m size to)
over-mallocs m size to k =
    let x = heaps.allocated m size in
    ok-if (size == 0) ok-fault
    (over-puts x.0 to x.1 (over-given m (malloced m.heap size (length m.memory.bytes)) k))

pub over-frees : {o : Base} (m : Machine) (at : ℕ) → Over o m → RuleOver o (heaps.frees m at)
over-frees m at k =
    over-goes {r = heaps.freed_at m at}
    (ok-then (heaps.heap_coded (freed m.heap at)) (λ h. ok-done k))

lies-if : {i : Origin} (t : Bool) (a b : MemoryMap)
    → Lies i a → Lies i b → Lies i (cond t a b)
lies-if true a b h k = h
lies-if false a b h k = k

lies-protected : {i : Origin} (a b : MemoryMap) (start count : ℕ)
    → Lies i b → Lies i (protected a b start count)
lies-protected a b start count h =
    lies-if (nat_lt (protection_start a b start) (protection_end a b start count)) _ b h h

has-loaded : {n : ℕ} (s : StackState) (bytes : List ℕ)
    → Has n s → Gives (frame.stack_loaded s bytes) (Has n)
has-loaded s bytes h = ok-if (nat_le (length bytes) s.limit) (ok-done h) ok-fault

pub over-with_state : {o : Base} (m : Machine) (s : Saved)
    → Over o m → Lies o.origin s.memory → Gives (undo.with_state m s) (Over o)
over-with_state m s k h =
    ok-bind (ok-stacked (has-loaded m.stack s.stack k.limit))
    (λ stack e. ok-done (on_stack (in_memory k
    (lies-protected m.memory s.memory m.protection.start m.protection.length h)) e))

pub over-came_back : {o : Base} (m : Machine) (x : ℕ)
    → Over o m → Gives (undo.came_back m x) (Over o)
over-came_back m x k =
    ok-bind (ok-stacked (has-stub_taken m.stack k.limit))
    (λ s h. ok-then (rules.stub_dest s.1)
    (λ to. over-stored_in 4 (record m { stack = s.0; pc = s.1.pc }) to x (on_stack k h)))

over-resumed : {o : Base} (m : Machine) (s : Saved)
    → Over o m → Lies o.origin s.memory → Gives (undo.resumed m s) (Over o)
over-resumed m s k h =
    ok-bind (over-with_state m s k h) (λ r. over-came_back r (2 ^ 32 - 1))

-- a stub was pushed, so the stack holds what is on it
held-with_stub : {n : ℕ} (m : Machine) (to : d.Dest)
    → Has n m.stack → Gives (rules.with_stub m to) (λ r. IsHeldBy n (undo.saved_state r))
held-with_stub m to h =
    ok-bind (ok-stacked (appended-within m.stack (stub_bytes (rules.stub_for m to)) h))
    (λ s k. ok-done k)

pub over-undo_saved : {o : Base} (m : Machine) (to : d.Dest)
    → Over o m → Gives (undo.undo_saved m to) (Over o)
over-undo_saved {o} m to k =
    ok-bind (ok-both (over-with_stub m to k) (held-with_stub m to k.limit))
    (λ r p. over-came_back (undo.state_kept r).0 (undo.save_answer (undo.state_kept r).1)
    (keeping p.0
    (saved_all (SavedOver o.origin) r.undo (undo.saved_state r) p.0.undo p.0.memory)
    (λ t. let w = p.0.within t in record {
      system = w.system;
      limits = saved_limits r.undo (undo.saved_state r) w.limits;
      held = saved_all (IsHeldBy o.limit) r.undo (undo.saved_state r) w.held p.1;
    })))

fewer : (n mode : ℕ) (states : List Saved)
    → IsWithin n mode states → IsWithin n mode (before_newest states)
fewer n mode states w = record {
  system = w.system;
  limits = before_limits states w.limits;
  held = before_all (IsHeldBy n) states w.held;
}

pub over-discards : {o : Base} (m : Machine)
    → Over o m → Over o (record m { undo = without_newest m.undo })
over-discards {o} m k =
    keeping k (before_all (SavedOver o.origin) m.undo.states k.undo)
    (λ t. fewer o.limit m.mode m.undo.states (k.within t))

-- a machine goes on with the state that was taken, if there was one
over-from : {o : Base} (m : Machine) (to : d.Dest) (taken : Option Saved)
    → ((s : Saved) → taken ≡ Some s → Lies o.origin s.memory) → Over o m
    → Gives (undo.restored_from m to taken) (Over o)
over-from m to None h k = over-stored_in 4 m to 1 k
over-from m to (Some s) h k = over-resumed m s k (h s refl)

pub over-restored : {o : Base} (m : Machine) (to : d.Dest) → Over o m
    → Gives (undo.undo_restored m to) (Over o)
over-restored {o} m to k =
    over-from (record m { undo = without_newest m.undo }) to (newest m.undo.states)
    (λ s e. newest_all (SavedOver o.origin) m.undo.states s k.undo e) (over-discards m k)

pub over-restarted : {o : Base} (m : Machine) → Over o m → Gives (undo.restarted m) (Over o)
over-restarted m k =
    ok-bind (ok-flowed (has-called (undo.sparing m (reset m.memory))
    (undo.stack_emptied m.stack) m.start_function [] k.limit))
    (λ x h. ok-done (in_mode (on_stack (in_memory k (lies-protected m.memory
    (reset m.memory) m.protection.start m.protection.length k.memory)) h) (omega arith)))

pub over-asks_save : {o : Base} (m : Machine) (stream : ℕ) (to : d.Dest)
    → Over o m → RuleOver o (undo.asks_save m stream to)
over-asks_save m stream to k =
    ok-if (m.mode == 2) (ok-bind (over-with_stub m to k) (λ r h. ok-done h)) (over-puts m to 1 k)

pub over-asks_restore : {o : Base} (m : Machine) (stream : ℕ) (to : d.Dest)
    → Over o m → RuleOver o (undo.asks_restore m stream to)
over-asks_restore m stream to k = ok-if (m.mode == 2) (ok-done k) (over-puts m to 1 k)

pub over-finished : {o : Base} (m : Machine) (w : w.Waiting) (x : ℕ)
    → Over o m → Gives (finished_at m w x) (Over o)
over-finished m (waiting.Store to) x k = over-stored_in 4 m to x k
over-finished m waiting.Stub x k =
    over-came_back (record m { waiting = waiting.Store dest.Discard }) x k
