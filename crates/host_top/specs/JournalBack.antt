-- The disk of a journal that a host hands back (own).
use Rattle.std.specs.Prelude.{IsTrue, List, IfSome, Option, drop, length}
use Rattle.turn_cell.specs.History.{Each}
use Rattle.disk_model.specs.Work.{EachImage}
use Rattle.disk_model.specs.declared.disk.Disk.{Ghosts as DiskWords}
use Rattle.gate_journal.specs.Log.{EndsInFaultOf, InTurn, IsOfSession, MayOpen, rows_kept, rows_of}
use Rattle.gate_journal.specs.Rows.{IsJournal}
use Rattle.gate_journal.specs.declared.entry.Entry.{Entry as JournalEntry}
use Rattle.gate_journal.specs.declared.row.Row.{Row}

-- The journal was opened with these rows, and then had these entries and an uncertain gate before
-- this row, if before one.
pub record JournalBack {D : Type 0} (disks : DiskWords D) (rows : List Row)
    (journal : List JournalEntry) (uncertain : Option Row) (back : D) : Type 0 where
  -- a journal may have its rows, each entry is of a session, and the next opening may meet each
  -- image
  pub stands : IsJournal (rows_of journal)
  pub numbers : Each IsOfSession journal
  pub opens : EachImage disks back (MayOpen (rows_of journal))
  -- a gate is uncertain only where the append of its row failed since the opening, and no row was
  -- kept behind that fault
  pub owner : IfSome uncertain (λ r. EndsInFaultOf r (drop (length rows) journal))
  -- the disk as the opening left it, and as it stood at each entry since: these came in turn
  pub start : D
  pub steps : List D
  pub in_turn :
      IsTrue (disks.tells back)
      → InTurn disks (rows_kept rows) start (drop (length rows) journal) steps back
