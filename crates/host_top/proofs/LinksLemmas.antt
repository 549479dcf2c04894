-- What `serve` leaves of its disk, its output and its doors, from what its host says as it is
-- opened and ends.
use Rattle.std.proofs.Common.{◌≡◌, ◌⊎◌, inl, inr, ℕ, List, [], length, refl, sym}
use Rattle.std.proofs.Common.{◌∙◌, subst, arith, IsTrue}
use Rattle.gate_journal.specs.Log.{rows_of}
use Rattle.gate_journal.specs.Rows.{SpellsRows}
use Rattle.gate_journal.specs.declared.fault.JournalFault.{JournalFault}
use Rattle.gate_journal.specs.declared.fault.JournalFault.TheVariants as fault
use Rattle.gate_journal.specs.declared.row.Row.{Row}
use Rattle.host_serve.specs.Opening.{IsOpenedHost, roots}
use Rattle.host_serve.specs.declared.host.Host.{Host}
use Rattle.host_serve.specs.declared.host.Passes.{Passes}
use Rattle.host_serve.specs.Holders.{Holder}
use Rattle.host_serve.specs.Splitting.{AreRoots}
use Rattle.line_talk.specs.Streams.{SourceState, SinkState}
use Rattle.line_talk.specs.declared.sink.Stop.{Stop}
use Rattle.line_talk.specs.declared.sink.Stop.TheVariants as stop
use Rattle.line_talk.proofs.StreamsLemmas.{gave_none, wrote_none}
use Rattle.host_serve.proofs.RootLemmas.{roots_alone}
use Rattle.story_run.specs.declared.story.Story.{Story}
use Rattle.disk_model.specs.declared.disk.Disk.{Ghosts as DiskWords}
use Rattle.host_top.specs.DoorServed.{OfDoor}
use Rattle.host_top.specs.Files.{OutsideState}
use Rattle.host_top.specs.Piped.{StoresBack}
use Rattle.host_top.specs.LinksServed.{DoorsBy, LinksServed}
use Rattle.host_top.specs.Said.{SaysFault, SaysLine}
use Rattle.host_top.specs.Status.{status_of_stop}
use Rattle.host_top.specs.declared.door_call.DoorCall.{DoorCall}
use Rattle.host_top.specs.declared.status.Status.{Status}
use Rattle.host_top.specs.declared.status.Status.TheVariants as ends
use Rattle.host_top.proofs.ConversedLemmas.{EndsOn, counts, grows, journal_back, meanwhile, reaches}

-- ---- the journal

pub links_served : {D : Type 0} (disks : DiskWords D) (OnDoor : OfDoor D) (given back : D)
    (givens backs : List D) (stories : List Story) (budget workers : ℕ) (rows : List Row)
    (host : Host D) (first last : Passes D)
    → IsOpenedHost stories budget rows (record { disk = given; found = length rows }) host first
    → (end : EndsOn disks host last back backs)
    → (input : SourceState) (output : SinkState) (status : Status)
    → (status ≡ ends.Done) ⊎ (status ≡ ends.DoorFault) ⊎ (status ≡ ends.NoMemory)
    → (IsTrue (disks.tells given) → SpellsRows (disks.seen given) rows)
    → OnDoor status stories budget workers rows givens end.0.entries
    → (status ≡ ends.NoMemory → rows_of end.2.grows.0 ≡ [])
    → StoresBack disks stories rows (rows_of end.0.entries) givens backs
    → LinksServed disks OnDoor stories budget workers given givens back backs input input output
    output status
links_served disks OnDoor given back givens backs stories budget workers rows host first last
    opened end input output status how spells served idle stores = record {
      how = how;
      gave = gave_none input;
      wrote = wrote_none output;
      rows = rows;
      handed_in = spells;
      served = served;
      journal = end.0.entries;
      more = rows_of end.2.grows.0;
      grows = grows disks given back givens backs stories budget rows host first last opened end;
      idle = idle;
      faults = counts disks given back givens backs stories budget rows host first last opened end;
      uncertain = end.0.uncertain;
      images = end.4;
      left =
          journal_back disks given back givens backs stories budget rows host first last opened end;
      meanwhile =
          meanwhile disks given back givens backs stories budget rows host first last opened end;
      reaches =
          reaches disks given back givens backs stories budget rows host first last opened end;
      stores = stores;
    }

-- ---- passes

-- nothing was split off the passes of a host that was just opened
pub are_roots : (holders : List Holder) → holders ≡ roots → AreRoots 0 holders
are_roots holders is = subst (AreRoots 0) (sym is) roots_alone

-- ---- doors

-- with a status that is neither of the two the doors are left alone
pub no_doors : {D : Type 0} {call : DoorCall} (outside : OutsideState D) (status : Status)
    → (status ≡ ends.Done → ⊥) → (status ≡ ends.DoorFault → ⊥)
    → DoorsBy call outside outside status
no_doors outside status not_done no_fault = record {
  done = λ e. absurd (not_done e);
  not_done = λ e. refl;
  fault = λ e. absurd (no_fault e);
  asked = λ e. elim e [
    | inl done ↦ absurd (not_done done)
    | inr fault ↦ absurd (no_fault fault)
  ];
  unasked = λ d f. refl;
}

-- ---- a journal that isn't opened

line_kinds : (good : Status) (line : List ℕ) (output new : SinkState) (status bad : Status)
    → (good ≡ bad → ⊥) → ((cause : Stop) → status_of_stop cause ≡ bad → ⊥)
    → SaysLine good line output new status → status ≡ bad → ⊥
line_kinds good line output new status bad other stops (inl said) e = other (sym said.0 ∙ e)
line_kinds good line output new status bad other stops (inr stopped) e =
    stops stopped.0 (sym stopped.1 ∙ e)

stop_not_done : (cause : Stop) → status_of_stop cause ≡ ends.Done → ⊥
stop_not_done stop.Output e = absurd (grind (arith, e))
stop_not_done stop.Memory e = absurd (grind (arith, e))

stop_no_door : (cause : Stop) → status_of_stop cause ≡ ends.DoorFault → ⊥
stop_no_door stop.Output e = absurd (grind (arith, e))
stop_no_door stop.Memory e = absurd (grind (arith, e))

pub fault_not_done : (why : JournalFault) (output new : SinkState) (status : Status)
    → SaysFault why output new status → status ≡ ends.Done → ⊥
fault_not_done fault.NotJournal output new status says e =
    line_kinds _ _ output new status ends.Done (λ x. absurd (grind (arith, x))) stop_not_done says e
fault_not_done (fault.Corrupt place) output new status says e =
    line_kinds _ _ output new status ends.Done (λ x. absurd (grind (arith, x))) stop_not_done says e
fault_not_done (fault.DiskFault counts) output new status says e = absurd (grind (arith, says.0, e))
fault_not_done fault.NoMemory output new status says e = absurd (grind (arith, says.0, e))

pub fault_no_door : (why : JournalFault) (output new : SinkState) (status : Status)
    → SaysFault why output new status → status ≡ ends.DoorFault → ⊥
fault_no_door fault.NotJournal output new status says e =
    line_kinds _ _ output new status ends.DoorFault (λ x. absurd (grind (arith, x))) stop_no_door
    says e
fault_no_door (fault.Corrupt place) output new status says e =
    line_kinds _ _ output new status ends.DoorFault (λ x. absurd (grind (arith, x))) stop_no_door
    says e
fault_no_door (fault.DiskFault counts) output new status says e = absurd (grind (arith, says.0, e))
fault_no_door fault.NoMemory output new status says e = absurd (grind (arith, says.0, e))
