use Rattle.std.proofs.Common.{◌≡◌, ◌++◌, [], ◌∷◌, take, drop}
use Rattle.gate_journal.specs.Rows.{rows_behind_open_gates}
use Rattle.journal_pack.specs.Live.{HaveRanges}
use Rattle.journal_pack.proofs.written.bytes_behind_header.Given as goal

abbrev pub invariant-loop-row : goal.invariant-loop-row
invariant-loop-row l = record {
  bytes : l.bytes.items ≡ rows_behind_open_gates (take l.row-index l.rows) ++ 0 ∷ [];
  ranges : HaveRanges (drop l.row-index l.rows);
}
