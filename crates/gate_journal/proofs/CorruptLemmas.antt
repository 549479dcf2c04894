-- Files that spell no rows.
use Rattle.std.proofs.Common.{◌≡◌, inl, inr, ℕ, ◌+◌, false, true, refl, List, [], ◌++◌, length}
use Rattle.std.proofs.Common.{get_or, drop, sym, ◌∙◌, ap, subst, arith, length-append}
use Rattle.std.specs.Prelude.{nat_eq}
use Rattle.std.specs.List.{starts_with}
use Rattle.std.proofs.lemmas.Bool.{false≢true}
use Rattle.std.proofs.lemmas.Bool.Decides.{Decides-eqb}
use Rattle.std.proofs.lemmas.Slice.Eq.{starts_is}
use Rattle.std.proofs.lemmas.List.{drop-drop}
use Rattle.disk_model.specs.Disk.{Holds}
use Rattle.gate_journal.specs.declared.row.Row.{Row}
use Rattle.gate_journal.specs.Rows.{header_with, row_body, journal_bytes, IsNext, IsJournal}
use Rattle.gate_journal.specs.Rows.{IsCorrupt, journal_front, rows_behind_open_gates}
use Rattle.gate_journal.specs.Rows.{version_byte, AreInVersion, IsInVersion}
use Rattle.gate_journal.specs.Parsing.{IsNoNext}
use Rattle.gate_journal.proofs.RowLemmas.{holds_split, holds_past, same_front, corrupt_ends}
use Rattle.gate_journal.proofs.RowLemmas.{HasRows, behind_rows, corrupt_rows, gate_at}
use Rattle.gate_journal.proofs.RowLemmas.{holds_all, rows_split}
use Rattle.gate_journal.proofs.VersionLemmas.{version_of}

-- a corrupt file has one place
pub one_place : (c : List ℕ) (p q : ℕ) → IsCorrupt c p → IsCorrupt c q → p ≡ q
one_place c p q first second =
    first.behind
    ∙ ap (λ (l : List Row). length (journal_bytes l))
    (same_front c first.rows second.rows (corrupt_rows c p first) (corrupt_rows c q second)
    (corrupt_ends c p first) (corrupt_ends c q second))
    ∙ sym second.behind

-- the file ends before a gate
pub corrupt_end : (v : ℕ) (rows : List Row) (bytes : List ℕ) (place : ℕ)
    → IsJournal rows → AreInVersion v rows → bytes ≡ journal_front v rows ++ []
    → place ≡ length (journal_bytes rows)
    → IsCorrupt bytes place
corrupt_end v rows bytes place journal are split at =
    let has = rows_split v rows bytes [] journal are split in
    record {
      rows = rows;
      journal = journal;
      versions = has.versions;
      front = has.front;
      behind = at;
      gate = inl (omega (arith, at, ap length split, length-append (journal_front v rows) []));
    }

-- behind an open gate is no row that may stand there
pub corrupt_row :
    (v : ℕ) (rows : List Row) (bytes rest : List ℕ) (place : ℕ)
    → IsJournal rows → AreInVersion v rows → bytes ≡ journal_front v rows ++ rest
    → place ≡ length (journal_bytes rows)
    → get_or rest 0 0 ≡ 1 → IsNoNext v rows (drop 1 rest) → IsCorrupt bytes place
corrupt_row v rows bytes rest place journal are split at is_open none = record {
  rows = rows;
  journal = journal;
  versions = has.versions;
  front = has.front;
  behind = at;
  gate =
      inr (ap (λ (k : ℕ). get_or bytes k 0) at ∙ gate_at v rows bytes rest split ∙ is_open, no_row);
}
  where
    has : HasRows bytes rows
    has = rows_split v rows bytes rest journal are split

    same : version_byte bytes ≡ v
    same =
        version_of v (rows_behind_open_gates rows ++ rest) bytes
        (subst (λ (l : List ℕ). Holds bytes 0 l) split (holds_all bytes))

    no_row :
        (r : Row) → IsNext rows r → IsInVersion (version_byte bytes) r.command
        → Holds bytes (place + 1) (row_body r) → ⊥
    no_row r next in_version holds =
        let past : drop (place + 1) bytes ≡ drop 1 rest =
        sym (drop-drop 1 place bytes) ∙ ap (λ (k : ℕ). drop 1 (drop k bytes)) at
        ∙ ap (λ (l : List ℕ). drop 1 l) (behind_rows v rows bytes rest split) in
        none r _ next (subst (λ (k : ℕ). IsInVersion k r.command) same in_version)
        (holds_split (drop 1 rest) (row_body r)
        (subst (λ (l : List ℕ). Holds l 0 (row_body r)) past (holds_past holds)))

-- the file doesn't begin with a header
pub no_header : (v : ℕ) (bytes : List ℕ)
    → starts_with nat_eq bytes (header_with v) ≡ false
    → Holds bytes 0 (header_with v) → ⊥
no_header v bytes other holds =
    let begins : starts_with nat_eq bytes (header_with v) ≡ true =
    (starts_is Decides-eqb bytes (header_with v) _ refl).1
    (drop 16 bytes) (holds_split bytes (header_with v) holds) in
    false≢true (sym other ∙ begins)
