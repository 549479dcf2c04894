-- What is known of the closing gate of a journal that is read.
use Rattle.std.proofs.Common.{Bool, List, None, Option, Some, [], ap, append_assoc, arith, drop, false}
use Rattle.std.proofs.Common.{get_or, inl, inr, length, refl, subst, suc, sym, true}
use Rattle.std.proofs.Common.{zero, ℕ, ◌++◌, ◌+◌, ◌<◌, ◌==◌, ◌∙◌, ◌∷◌, ◌≡◌, ◌≢◌, ◌≤◌}
use Rattle.std.proofs.lemmas.Bool.{cases_eq}
use Rattle.std.proofs.lemmas.Bool.Decides.{nat_tests}
use Rattle.std.proofs.lemmas.List.{drop_more}
use Rattle.std.specs.Prelude.{if◌then◌else◌, ◌&&◌, IfSome}
use Rattle.disk_model.proofs.Torn.{holds_both}
use Rattle.disk_model.specs.Disk.{Holds}
use Rattle.gate_journal.proofs.RowLemmas.{holds_past, holds_split, journal_push, opens, shut_zero}
use Rattle.gate_journal.proofs.RowLemmas.{spells_not_open, spells_shut}
use Rattle.gate_journal.proofs.VersionLemmas.{are_front}
use Rattle.gate_journal.specs.Log.{MayOpen, StandsInEither}
use Rattle.gate_journal.specs.Parsing.{BeginsWithRow, IsNoNext}
use Rattle.gate_journal.specs.Rows.{IsJournal, IsNext, SpellsRows}
use Rattle.gate_journal.specs.Rows.{journal_bytes, journal_front, row_body, version_byte}
use Rattle.gate_journal.specs.declared.row.Row.{Row}
use Rattle.host_world.specs.Reading.{begins_with, has_row, past_gate, row_at, row_behind_gate}
use Rattle.host_world.specs.Reading.{rows_in, unsure_row}
use Rattle.host_world.specs.Starts.{IsStart, down_over, rows_or_none}
use Rattle.host_world.proofs.ReadingLemmas.{found_rows, front_test, has_found, has_told, reads_rows}
use Rattle.host_world.proofs.ReadingLemmas.{row_is}
use Rattle.host_world.proofs.Runs.{down_well}

-- where no row stands behind the gate, nothing is unsure
none_test : (v : ℕ) (rows : List Row) (past : List ℕ) → IsNoNext v rows past → (b : Bool)
    → has_row v rows past (row_at rows past) ≡ b
    → None ≡ (if b && begins_with past (past_gate (row_at rows past)) then Some (row_at rows past)
    else None)
none_test v rows past none true test =
    let one = has_told v rows past (row_at rows past) refl test in
    absurd (none (row_at rows past) (drop (length (row_body (row_at rows past))) past) one.next
    one.in_version one.bytes)
none_test v rows past none false test = refl

-- what the test makes of the row that stands there
test_is : (v : ℕ) (rows : List Row) (past : List ℕ) (r : Row) → row_at rows past ≡ r
    → has_row v rows past r ≡ true
    → (if has_row v rows past (row_at rows past) && begins_with past (past_gate (row_at rows past))
    then Some (row_at rows past) else None)
    ≡ (if begins_with past (past_gate r) then Some r else None)
test_is v rows past r at has =
    ap (λ (q : Row). if has_row v rows past q && begins_with past (past_gate q) then Some q
    else None) at
    ∙ ap (λ (b : Bool). if b && begins_with past (past_gate r) then Some r else None) has

-- behind a gate that isn't 0
behind_some : (v : ℕ) (rows : List Row) (bytes : List ℕ) → 1 ≤ length bytes → get_or bytes 0 0 ≢ 0
    → unsure_row v rows bytes
    ≡ (if has_row v rows (drop 1 bytes) (row_at rows (drop 1 bytes))
    && begins_with (drop 1 bytes) (past_gate (row_at rows (drop 1 bytes)))
    then Some (row_at rows (drop 1 bytes)) else None)
behind_some v rows [] le some = absurd (omega (arith, le))
behind_some v rows (gate ∷ past) le some =
    let test : (gate == 0) ≡ false = grind (arith, nat_tests) in
    ap (λ (b : Bool). if b then None
    else if has_row v rows past (row_at rows past)
    && begins_with past (past_gate (row_at rows past)) then Some (row_at rows past) else None) test

pub unsure_none : (v : ℕ) (rows : List Row) (bytes : List ℕ) → 1 ≤ length bytes
    → get_or bytes 0 0 ≢ 0 → IsNoNext v rows (drop 1 bytes) → None ≡ unsure_row v rows bytes
unsure_none v rows bytes le some none =
    none_test v rows (drop 1 bytes) none
    (has_row v rows (drop 1 bytes) (row_at rows (drop 1 bytes))) refl
    ∙ sym (behind_some v rows bytes le some)

-- and where one does, it is unsure if a closed gate stands behind it
pub unsure_found : (v : ℕ) (rows : List Row) (bytes : List ℕ) (r : Row) → 1 ≤ length bytes
    → get_or bytes 0 0 ≢ 0 → BeginsWithRow v rows (drop 1 bytes) r
    → (if begins_with (drop 1 bytes) (past_gate r) then Some r else None) ≡ unsure_row v rows bytes
unsure_found v rows bytes r le some row =
    let past = drop 1 bytes in
    let rest = drop (length (row_body r)) (drop 1 bytes) in
    sym (behind_some v rows bytes le some
    ∙ test_is v rows past r (row_is rows r rest past row.next row.bytes)
    (has_found v rows r rest past row.next row.in_version row.bytes))

-- ---- a journal that an opening may meet

-- rows that are read are such as a journal may have
pub read_journal : (bytes : List ℕ) → IsJournal (rows_or_none (rows_in bytes))
read_journal bytes = of (rows_in bytes) refl
  where
    of : (o : Option (List Row)) → rows_in bytes ≡ o → IsJournal (rows_or_none o)
    of None is = tt
    of (Some rows) is = (found_rows bytes rows is).journal

-- what is read of such a journal, and what is known of its gate
record KnowsGate (bytes : List ℕ) (rows : List Row) (u : Option Row) : Type 0 where
  spells : SpellsRows bytes rows
  behind : u ≡ row_behind_gate bytes (Some rows)
  next : IfSome u (IsNext rows)
  stands : StandsInEither rows u bytes

starts_by : (bytes : List ℕ) (rows : List Row) (u : Option Row) → KnowsGate bytes rows u
    → IsStart (down_over bytes (rows_or_none (rows_in bytes))
    (row_behind_gate bytes (rows_in bytes)))
starts_by bytes rows u knows =
    let found : rows_in bytes ≡ Some rows = reads_rows bytes rows knows.spells in
    subst (λ (o : Option (List Row)).
    IsStart (down_over bytes (rows_or_none o) (row_behind_gate bytes o))) (sym found)
    (subst (λ (o : Option Row). IsStart (down_over bytes rows o)) knows.behind
    (inr (down_well bytes rows u knows.spells.journal knows.next knows.stands)))

-- the bytes from the gate on
from_gate : (bytes : List ℕ) (rows : List Row) → length (journal_bytes rows) < length bytes
    → drop (length (journal_bytes rows)) bytes
    ≡ get_or bytes (length (journal_bytes rows)) 0
    ∷ drop (length (journal_bytes rows) + 1) bytes
from_gate bytes rows within =
    drop_more bytes (length (journal_bytes rows)) 0 within
    ∙ ap (λ (n : ℕ). get_or bytes (length (journal_bytes rows)) 0 ∷ drop n bytes) (omega arith)

-- a gate that is 0
knows_shut : (bytes : List ℕ) (rows : List Row) → IsJournal rows → StandsInEither rows None bytes
    → KnowsGate bytes rows None
knows_shut bytes rows all shut =
    let spells = spells_shut rows bytes all shut in
    record {
      spells = spells;
      behind = sym
          (ap (λ (l : List ℕ). unsure_row (version_byte bytes) rows l)
          (from_gate bytes rows spells.within)
          ∙ ap (λ (n : ℕ). unsure_row (version_byte bytes) rows
          (n ∷ drop (length (journal_bytes rows) + 1) bytes))
          (shut_zero (journal_front (version_byte bytes) rows) bytes shut.1));
      next = tt;
      stands = shut;
    }

-- a gate before a row, that is 0 after all
closes : (bytes : List ℕ) (rows : List Row) (r : Row) → StandsInEither rows (Some r) bytes
    → get_or bytes (length (journal_bytes rows)) 0 ≡ 0 → StandsInEither rows None bytes
closes bytes rows r (are, unsure) zero_gate =
    let at = length (journal_bytes rows) in
    let gate : Holds bytes at (0 ∷ []) = record {
      within = omega (arith, unsure.behind.within);
      each = one;
    } in (
      (are_front (version_byte bytes) rows r are).0,
      holds_both {p = 0} (journal_front (version_byte bytes) rows) (0 ∷ []) (omega arith)
          unsure.before gate,
    )
  where
    one : (i : ℕ) → i < 1
        → get_or bytes (length (journal_bytes rows) + i) 0 ≡ get_or (0 ∷ []) i 0
    one zero lt = ap (λ (k : ℕ). get_or bytes k 0) (omega arith) ∙ zero_gate
    one (suc i) lt = absurd (omega arith)

-- one of which nothing is known
knows_unsure : (bytes : List ℕ) (rows : List Row) (r : Row) → IsJournal rows → IsNext rows r
    → StandsInEither rows (Some r) bytes
    → get_or bytes (length (journal_bytes rows)) 0 ≢ 0
    → get_or bytes (length (journal_bytes rows)) 0 ≢ 1 → KnowsGate bytes rows (Some r)
knows_unsure bytes rows r all next stands some shut =
    let v = version_byte bytes in
    let at = length (journal_bytes rows) in
    let spells = spells_not_open rows r bytes all stands shut in
    let past = drop (at + 1) bytes in
    let split : past ≡ past_gate r ++ drop (length (past_gate r)) past =
    holds_split past (past_gate r) (holds_past stands.1.behind) in
    let bodied : past ≡ row_body r ++ (0 ∷ drop (length (past_gate r)) past) =
    split ∙ append_assoc (row_body r) (0 ∷ []) (drop (length (past_gate r)) past) in
    let is : row_at rows past ≡ r =
    row_is rows r (0 ∷ drop (length (past_gate r)) past) past next bodied in
    let has : has_row v rows past r ≡ true =
    has_found v rows r (0 ∷ drop (length (past_gate r)) past) past next
    (are_front v rows r stands.0).1 bodied in
    let begins : begins_with past (past_gate r) ≡ true =
    front_test (past_gate r) (drop (length (past_gate r)) past) past split in
    let found : unsure_row v rows (get_or bytes at 0 ∷ past) ≡ Some r =
    behind_some v rows (get_or bytes at 0 ∷ past) (omega arith) some
    ∙ test_is v rows past r is has
    ∙ ap (λ (b : Bool). if b then Some r else None) begins in
    record {
      spells = spells;
      behind = sym
          (ap (λ (l : List ℕ). unsure_row v rows l) (from_gate bytes rows spells.within) ∙ found);
      next = next;
      stands = stands;
    }

-- over a journal that an opening may meet a list of events may begin
pub down_starts : (bytes : List ℕ) (rows : List Row) → IsJournal rows → MayOpen rows bytes
    → IsStart (down_over bytes (rows_or_none (rows_in bytes))
    (row_behind_gate bytes (rows_in bytes)))
down_starts bytes rows all (inl shut) =
    starts_by bytes rows None (knows_shut bytes rows all shut)
down_starts bytes rows all (inr (r, next, stands)) =
    elim (cases_eq (get_or bytes (length (journal_bytes rows)) 0) 0) [
      | inl zero_gate ↦
          starts_by bytes rows None
          (knows_shut bytes rows all (closes bytes rows r stands zero_gate))
      | inr some ↦ elim (cases_eq (get_or bytes (length (journal_bytes rows)) 0) 1) [
        | inl is_open ↦
            starts_by bytes (rows ++ r ∷ []) None
            (knows_shut bytes (rows ++ r ∷ []) (journal_push rows r all next)
            (opens rows r bytes stands is_open))
        | inr shut ↦
            starts_by bytes rows (Some r) (knows_unsure bytes rows r all next stands some shut)
      ]
    ]
