-- How a journal stays sound.
use Rattle.std.proofs.Common.{◌≡◌, ◌⊎◌, inl, inr, ℕ, ◌+◌, ◌<◌, ◌≤◌, Bool, List, [], ◌∷◌}
use Rattle.std.proofs.Common.{◌++◌, length, sym, ◌∙◌, ap, arith}
use Rattle.std.specs.Prelude.{Option, None, Some, IfSome}
use Rattle.disk_model.specs.Disk.{Rose, Holds}
use Rattle.disk_model.specs.Work.{LeavesOnly, EachImage}
use Rattle.disk_model.specs.declared.disk.Disk.{Ghosts as DiskWords}
use Rattle.disk_model.proofs.Moments.{weaker, and_then}
use Rattle.gate_journal.specs.declared.row.Row.{Row}
use Rattle.gate_journal.specs.declared.entry.Entry.{Entry}
use Rattle.gate_journal.specs.declared.entry.Entry.TheVariants.{Kept, Faulted}
use Rattle.gate_journal.specs.Gate.{IsShut, IsUnsure}
use Rattle.gate_journal.specs.Rows.{row_body, journal_bytes, IsJournal, IsNext}
use Rattle.gate_journal.specs.Log.{Log, IsSoundJournal, rows_of, StandsInImage, Meanwhile}
use Rattle.gate_journal.proofs.RowLemmas.{journal_push, shut_behind}
use Rattle.std.proofs.lemmas.List.{append-nil}
use Rattle.gate_journal.proofs.SinceLemmas.{rows_of-append}
use Rattle.gate_journal.proofs.LogLemmas.{rises-kept, rises-faulted, closed_shut, closed_unsure}
use Rattle.gate_journal.proofs.LogLemmas.{stands_well, stands_closed, end_push}

module _ {D : Type 0} (disks : DiskWords D) where
  -- after a fault
  pub sound_faulted : (log : Log D) (end : ℕ) (disk : D) (entries : List Entry)
      (uncertain : Option Row) (r : Row) (from to : ℕ) (steps : List D) (ready : Bool)
      → IsSoundJournal disks log end → entries ≡ log.entries ++ Faulted r from to ∷ []
      → disks.room disk ≡ disks.room log.disk → from ≡ disks.faults log.disk
      → to ≡ disks.faults disk → from ≤ to → Rose from to
      → IfSome uncertain (IsNext (rows_of log.entries))
      → EachImage disks disk (StandsInImage (rows_of log.entries) uncertain) → IsSoundJournal disks
      (record log {
        disk = disk;
        entries = entries;
        uncertain = uncertain;
        steps = steps;
        ready = ready;
      }) end
  sound_faulted log end disk entries uncertain r from to steps ready sound pushed same_room
      is_from is_to le rose next images =
      let same : rows_of log.entries ≡ rows_of entries =
      sym (ap rows_of pushed ∙ rows_of-append log.entries _ ∙ append-nil _) in
      record {
        journal = rw (← same) sound.journal;
        ends = rw (← same) sound.ends;
        within = omega (arith, sound.within, same_room);
        next = rw (← same) next;
        images = rw (← same) images;
        counts =
            rw (pushed, ← is_to) (rises-faulted log.entries r from to
            (disks.faults log.opening.disk)
            (rw is_from sound.counts) le rose);
      }

  -- after a row
  pub sound_kept : (log : Log D) (end later : ℕ) (disk : D) (entries : List Entry)
      (r : Row) (steps : List D) (ready : Bool)
      → IsSoundJournal disks log end → entries ≡ log.entries ++ Kept r ∷ []
      → disks.room disk ≡ disks.room log.disk → disks.faults log.disk ≤ disks.faults disk
      → later ≡ end + length (row_body r ++ 0 ∷ [])
      → later < disks.room disk → IsNext (rows_of log.entries) r
      → EachImage disks disk (IsShut (journal_bytes (rows_of log.entries ++ r ∷ [])))
      → IsSoundJournal disks
      (record log {
        disk = disk;
        entries = entries;
        uncertain = None;
        steps = steps;
        ready = ready;
      }) later
  sound_kept log end later disk entries r steps ready sound pushed same_room le is_later within
      next images =
      let same : rows_of log.entries ++ r ∷ [] ≡ rows_of entries =
      sym (ap rows_of pushed ∙ rows_of-append log.entries (Kept r ∷ [])) in
      record {
        journal = rw (← same) (journal_push (rows_of log.entries) r sound.journal next);
        ends = rw (← same) (is_later ∙ end_push (rows_of log.entries) r end sound.ends);
        within = within;
        next = tt;
        images = rw (← same) images;
        counts =
            rw pushed (rises-kept log.entries r (disks.faults log.opening.disk)
            (disks.faults log.disk)
            (disks.faults disk) sound.counts le);
      }

module _ {D : Type 0} (disks : DiskWords D) (rows : List Row) (uncertain : Option Row)
    (r : Row) (all : IsJournal rows) (next : IsNext rows r)
    (stood : IfSome uncertain (IsNext rows)) where
  pub settled : (old new : D)
      → LeavesOnly disks old new (StandsInImage rows uncertain)
      → LeavesOnly disks old new (Meanwhile rows uncertain r)
  settled old new leaves =
      weaker disks old new (StandsInImage rows uncertain) (Meanwhile rows uncertain r) leaves
      (λ c stands. (
        inl (stands_well rows uncertain c all stood stands),
        stands_closed rows uncertain c stood stands,
      ))

  pub appended : (old mid new : D) (past : List ℕ)
      → past ≡ row_body r ++ 0 ∷ []
      → LeavesOnly disks old mid (StandsInImage rows uncertain) → LeavesOnly disks mid new
      (λ c. IsShut (journal_bytes rows) c ⊎ IsUnsure (journal_bytes rows) past c)
      → LeavesOnly disks old new (Meanwhile rows uncertain r)
  appended old mid new past is first second =
      and_then disks old mid new (Meanwhile rows uncertain r) (settled old mid first)
      (weaker disks mid new
      (λ c. IsShut (journal_bytes rows) c ⊎ IsUnsure (journal_bytes rows) past c)
      (Meanwhile rows uncertain r) second each)
    where
      each : (c : List ℕ)
          → IsShut (journal_bytes rows) c ⊎ IsUnsure (journal_bytes rows) past c
          → Meanwhile rows uncertain r c
      each c (inl shut) =
          (inr (inl (closed_shut rows c all shut)), stands_closed rows None c tt shut)
      each c (inr unsure) =
          let stands = rw is at unsure in
          (inr (closed_unsure rows r c all next stands), stands_closed rows (Some r) c next stands)

pub opened_shut : (rows : List Row) (r : Row) (past c : List ℕ)
    → past ≡ row_body r ++ 0 ∷ []
    → Holds c 0 (journal_bytes rows ++ 1 ∷ past)
    → IsShut (journal_bytes (rows ++ r ∷ [])) c
opened_shut rows r past c is holds = shut_behind 1 rows r c (rw is at holds)
