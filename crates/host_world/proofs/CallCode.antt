-- A device call, as it is made.
use Rattle.std.proofs.Common.{Bool, List, None, Option, Some, ap}
use Rattle.std.proofs.Common.{false, refl, sym, true, ℕ, ◌==◌, ◌∙◌, ◌≡◌}
use Rattle.std.specs.Prelude.{if◌then◌else◌, slice_index, length}
use Rattle.gate_journal.specs.Rows.{journal_bytes, version_byte}
use Rattle.gate_journal.specs.declared.row.Row.{Row}
use Rattle.story_run.specs.declared.story.Story.{Story}
use Rattle.store_events.specs.Disk.{may_happen}
use Rattle.host_world.specs.Events.{begin_held}
use Rattle.host_world.specs.Journal.{call_ended, gate_closed, host_called, comes_up, is_idle}
use Rattle.host_world.specs.Journal.{looked, next_call, onward, with_disk}
use Rattle.host_world.specs.Reading.{rows_in}
use Rattle.store_events.specs.declared.disk.DiskCall.{DiskCall}
use Rattle.host_world.specs.declared.state.JournalHost.{JournalHost}
use Rattle.host_world.specs.declared.state.Step.{Step}
use Rattle.host_world.specs.declared.state.Step.TheVariants.{AskSize, CloseSync, CloseWrite}
use Rattle.host_world.specs.declared.state.Step.TheVariants.{FirstSync, GateSync, GateWrite, Idle}
use Rattle.host_world.specs.declared.state.Step.TheVariants.{ReadAll, RepairSync, RepairWrite}
use Rattle.host_world.specs.declared.state.Step.TheVariants.{RowSync, RowWrite}
use Rattle.host_world.specs.declared.state.Step.TheVariants.{VersionSync, VersionWrite}

-- where something is under way no append begins
pub busy_begins : (stories : List Story) (budget : ℕ) (w : JournalHost) (step : Step)
    (holder : Option ℕ) → is_idle step ≡ false → begin_held stories budget w step holder ≡ w
busy_begins stories budget w Idle holder is = absurd cc
busy_begins stories budget w (RepairWrite r from) holder is = refl
busy_begins stories budget w (RepairSync r from) holder is = refl
busy_begins stories budget w (RowWrite r from) holder is = refl
busy_begins stories budget w (RowSync r from) holder is = refl
busy_begins stories budget w (GateWrite r from) holder is = refl
busy_begins stories budget w (GateSync r from) holder is = refl
busy_begins stories budget w FirstSync holder is = refl
busy_begins stories budget w AskSize holder is = refl
busy_begins stories budget w ReadAll holder is = refl
busy_begins stories budget w (CloseWrite rows) holder is = refl
busy_begins stories budget w (CloseSync rows) holder is = refl
busy_begins stories budget w (VersionWrite rows) holder is = refl
busy_begins stories budget w (VersionSync rows) holder is = refl

pub idle_is : (step : Step) → is_idle step ≡ true → step ≡ Idle
idle_is Idle is = refl
idle_is (RepairWrite r from) is = absurd cc
idle_is (RepairSync r from) is = absurd cc
idle_is (RowWrite r from) is = absurd cc
idle_is (RowSync r from) is = absurd cc
idle_is (GateWrite r from) is = absurd cc
idle_is (GateSync r from) is = absurd cc
idle_is FirstSync is = absurd cc
idle_is AskSize is = absurd cc
idle_is ReadAll is = absurd cc
idle_is (CloseWrite rows) is = absurd cc
idle_is (CloseSync rows) is = absurd cc
idle_is (VersionWrite rows) is = absurd cc
idle_is (VersionSync rows) is = absurd cc

-- the step is taken out of the host before the call ends
abbrev without_step : JournalHost → JournalHost
without_step w = record w { step = Idle }

closed_on : (w : JournalHost) (rows : List Row)
    → gate_closed (without_step w) rows ≡ gate_closed w rows
closed_on w rows = of (version_byte w.disk.seen == 1)
  where
    of : (b : Bool)
        → (if b then comes_up (without_step w) rows
        else record (without_step w) { step = VersionWrite rows })
        ≡ (if b then comes_up w rows else record w { step = VersionWrite rows })
    of true = refl
    of false = refl

looks_on : (w : JournalHost) (read : Option (List Row)) → looked (without_step w) read ≡ looked w read
looks_on w None = refl
looks_on w (Some rows) = of (slice_index w.disk.seen (length (journal_bytes rows)) == 0)
  where
    of : (b : Bool)
        → (if b then gate_closed (without_step w) rows
        else record (without_step w) { step = CloseWrite rows })
        ≡ (if b then gate_closed w rows else record w { step = CloseWrite rows })
    of true = closed_on w rows
    of false = refl

onward_alike : (w : JournalHost) (step : Step) (call : DiskCall) → next_call w.rows step ≡ Some call
    → onward (without_step w) step ≡ onward w step
onward_alike w Idle call is = absurd cc
onward_alike w (RepairWrite r from) call is = refl
onward_alike w (RepairSync r from) call is = refl
onward_alike w (RowWrite r from) call is = refl
onward_alike w (RowSync r from) call is = refl
onward_alike w (GateWrite r from) call is = refl
onward_alike w (GateSync r from) call is = refl
onward_alike w FirstSync call is = refl
onward_alike w AskSize call is = refl
onward_alike w ReadAll call is = looks_on w (rows_in w.disk.seen)
onward_alike w (CloseWrite rows) call is = refl
onward_alike w (CloseSync rows) call is = closed_on w rows
onward_alike w (VersionWrite rows) call is = refl
onward_alike w (VersionSync rows) call is = refl

ended_alike : (w : JournalHost) (good : Bool) (step : Step) (call : DiskCall)
    → next_call w.rows step ≡ Some call
    → call_ended (without_step w) good step ≡ call_ended w good step
ended_alike w true step call is = onward_alike w step call is
ended_alike w false Idle call is = refl
ended_alike w false (RepairWrite r from) call is = refl
ended_alike w false (RepairSync r from) call is = refl
ended_alike w false (RowWrite r from) call is = refl
ended_alike w false (RowSync r from) call is = refl
ended_alike w false (GateWrite r from) call is = refl
ended_alike w false (GateSync r from) call is = refl
ended_alike w false FirstSync call is = refl
ended_alike w false AskSize call is = refl
ended_alike w false ReadAll call is = refl
ended_alike w false (CloseWrite rows) call is = refl
ended_alike w false (CloseSync rows) call is = refl
ended_alike w false (VersionWrite rows) call is = refl
ended_alike w false (VersionSync rows) call is = refl

may_happens : (w v : JournalHost) (good : Bool) (reads : List ℕ) (step : Step) (call : DiskCall)
    → may_happen call good reads v.disk ≡ true
    → host_called w v good reads step (Some call)
    ≡ call_ended (with_disk v call good reads) good step
may_happens w v true reads step call is = rw is refl
may_happens w v false reads step call is = rw is refl

-- a call that is made, of a step that was taken out
pub call_made : (w v u : JournalHost) (good : Bool) (reads : List ℕ) (call : DiskCall)
    → next_call v.rows v.step ≡ Some call → may_happen call good reads v.disk ≡ true
    → u ≡ without_step (with_disk v call good reads)
    → call_ended u good v.step
    ≡ host_called w v good reads v.step (next_call v.rows v.step)
call_made w v u good reads call next is alike =
    ap (λ (z : JournalHost). call_ended z good v.step) alike
    ∙ ended_alike (with_disk v call good reads) good v.step call next
    ∙ sym (may_happens w v good reads v.step call is)
    ∙ ap (λ (o : Option DiskCall). host_called w v good reads v.step o) (sym next)

-- one that isn't made
pub call_not_made : (w v : JournalHost) (good : Bool) (reads : List ℕ) (call : DiskCall)
    → next_call v.rows v.step ≡ Some call → may_happen call good reads v.disk ≡ false
    → w ≡ host_called w v good reads v.step (next_call v.rows v.step)
call_not_made w v true reads call next is = rw (next, is) refl
call_not_made w v false reads call next is = rw (next, is) refl
