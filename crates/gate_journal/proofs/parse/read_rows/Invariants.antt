use Rattle.std.proofs.Common.{◌≡◌, ◌++◌, length}
use Rattle.gate_journal.specs.Rows.{journal_bytes, journal_front, AreInVersion, IsJournal}
use Rattle.gate_journal.specs.Seats.{CountsRows}
use Rattle.gate_journal.proofs.parse.read_rows.Given as goal

abbrev pub invariant-loop-rest : goal.invariant-loop-rest
invariant-loop-rest l = record {
  split : l.bytes ≡ journal_front l.version l.rows.items ++ l.rest;
  journal : IsJournal l.rows.items;
  versions : AreInVersion l.version l.rows.items;
  place : l.place ≡ length (journal_bytes l.rows.items);
  counted : CountsRows l.rows.items l.seats.counts l.seats.uses;
}

abbrev pub decreases-loop-rest : goal.decreases-loop-rest
decreases-loop-rest l = length l.rest
