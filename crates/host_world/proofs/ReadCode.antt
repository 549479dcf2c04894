-- What is read of bytes, as it is read; and how many commands a journal has of a session.
use Rattle.std.proofs.Common.{Bool, List, None, Option, Some, [], ap, append_assoc, arith, drop}
use Rattle.std.proofs.Common.{false, inl, inr, true, ◌+◌, ◌==◌, length, length-append, refl, subst}
use Rattle.std.proofs.Common.{sym, ℕ, ◌++◌, ◌<◌, ◌∙◌, ◌∷◌, ◌≡◌, ◌≢◌, ◌≤◌}
use Rattle.std.proofs.lemmas.Bool.{cases_eq}
use Rattle.std.proofs.lemmas.Bool.Decides.{nat_tests}
use Rattle.std.proofs.lemmas.List.{append-nil, drop_all}
use Rattle.std.specs.Prelude.{if◌then◌else◌, slice_index}
use Rattle.disk_model.proofs.Torn.{holds_front}
use Rattle.gate_journal.proofs.RowLemmas.{length-body, never_both, spelled-push}
use Rattle.gate_journal.specs.Rows.{EachNext, HasNoHeader, IsCorrupt, IsJournal}
use Rattle.gate_journal.specs.Rows.{SpellsRows, row_body, commands_of, header_with, version_byte}
use Rattle.gate_journal.specs.Rows.{rows_behind_open_gates, payload_of, journal_bytes}
use Rattle.gate_journal.specs.declared.command.Command.{Command}
use Rattle.gate_journal.specs.declared.row.Row.{Row}
use Rattle.session_core.specs.Turning.{commands_in}
use Rattle.session_core.specs.declared.entry.Entry.{Entry}
use Rattle.host_world.specs.Journal.{comes_up, gate_closed, looked}
use Rattle.host_world.specs.Reading.{rows_in}
use Rattle.host_world.specs.Sessions.{history_found}
use Rattle.host_world.specs.declared.state.JournalHost.{JournalHost}
use Rattle.host_world.specs.declared.state.Step.TheVariants.{CloseWrite, Idle, VersionWrite}
use Rattle.host_world.proofs.ReadingLemmas.{found_rows}
use Rattle.host_world.proofs.RowsOf.{commands-found, rows-here, rows-other}

none_of : (bytes : List ℕ) (o : Option (List Row)) → rows_in bytes ≡ o
    → ((rows : List Row) → SpellsRows bytes rows → ⊥) → rows_in bytes ≡ None
none_of bytes None is none = is
none_of bytes (Some rows) is none = absurd (none rows (found_rows bytes rows is))

-- what is refused spells no rows
pub headless_none : (bytes : List ℕ) → HasNoHeader bytes → None ≡ rows_in bytes
headless_none bytes refuses =
    sym (none_of bytes (rows_in bytes) refl
    (λ rows spells.
    refuses (holds_front (header_with (version_byte bytes)) (rows_behind_open_gates rows)
    spells.front)))

pub corrupt_none : (bytes : List ℕ) (place : ℕ) → IsCorrupt bytes place → None ≡ rows_in bytes
corrupt_none bytes place refuses =
    sym (none_of bytes (rows_in bytes) refl
    (λ rows spells. never_both bytes rows place spells refuses))

-- what an opening does with what it read
pub looks_none : (w : JournalHost) → rows_in w.disk.seen ≡ None
    → record w { step = Idle } ≡ looked w (rows_in w.disk.seen)
looks_none w is = rw is refl

looks : (w : JournalHost) (rows : List Row) → rows_in w.disk.seen ≡ Some rows → (b : Bool)
    → (slice_index w.disk.seen (length (journal_bytes rows)) == 0) ≡ b
    → (if b then gate_closed w rows else record w { step = CloseWrite rows })
    ≡ looked w (rows_in w.disk.seen)
looks w rows is b gate = rw (is, gate) refl

pub looks_shut : (w : JournalHost) (rows : List Row) → rows_in w.disk.seen ≡ Some rows
    → slice_index w.disk.seen (length (journal_bytes rows)) ≡ 0
    → gate_closed w rows ≡ looked w (rows_in w.disk.seen)
looks_shut w rows is gate = looks w rows is true (grind (arith, nat_tests, gate))

pub looks_open : (w : JournalHost) (rows : List Row) → rows_in w.disk.seen ≡ Some rows
    → slice_index w.disk.seen (length (journal_bytes rows)) ≢ 0
    → record w { step = CloseWrite rows } ≡ looked w (rows_in w.disk.seen)
looks_open w rows is gate = looks w rows is false (grind (arith, nat_tests, gate))

pub closed_second : (w : JournalHost) (rows : List Row) → (version_byte w.disk.seen == 1) ≡ true
    → comes_up w rows ≡ gate_closed w rows
closed_second w rows is = rw is refl

pub closed_first : (w : JournalHost) (rows : List Row) → (version_byte w.disk.seen == 1) ≡ false
    → record w { step = VersionWrite rows } ≡ gate_closed w rows
closed_first w rows is = rw is refl

few_on : (s : ℕ) (rows more : List Row) → EachNext rows more → length (commands_of rows s) ≤ 8192
    → length (commands_of (rows ++ more) s) ≤ 8192
few_on s rows [] each few =
    subst (λ (l : List Row). length (commands_of l s) ≤ 8192) (sym (append-nil rows)) few
few_on s rows (r ∷ more) each few =
    subst (λ (l : List Row). length (commands_of l s) ≤ 8192) (append_assoc rows (r ∷ []) more)
    (few_on s (rows ++ r ∷ []) more each.1 (elim (cases_eq r.session s) [
      | inl same ↦ here same
      | inr other ↦
          omega (arith, few, ap (λ (l : List Command). length l) (rows-other s rows r other))
    ]))
  where
    here : r.session ≡ s → length (commands_of (rows ++ r ∷ []) s) ≤ 8192
    here same =
        let fewer : length (commands_of rows s) < 8192 =
        subst (λ (n : ℕ). length (commands_of rows n) < 8192) same each.0.stands.fewer in
        omega (
          arith,
          fewer,
          ap (λ (l : List Command). length l) (rows-here s rows r same),
          length-append (commands_of rows s) (r.command ∷ []),
        )

-- a journal has at most 8,192 commands of a session
pub journal_few : (s : ℕ) (rows : List Row) → IsJournal rows
    → length (commands_of rows s) ≤ 8192
journal_few s rows all = few_on s [] rows all (omega arith)

-- so has the history that an opening makes of its rows
pub found_few : (rows : List Row) (s i : ℕ) (entries : List Entry) → IsJournal rows
    → length rows ≤ i
    → entries ++ history_found (commands_of (drop i rows) s) ≡ history_found (commands_of rows s)
    → length (commands_in entries) ≤ 8192
found_few rows s i entries all past is =
    let done : entries ≡ history_found (commands_of rows s) =
    sym (append-nil entries)
    ∙ ap (λ (l : List Row). entries ++ history_found (commands_of l s)) (sym (drop_all i rows past))
    ∙ is in
    subst (λ (l : List Command). length l ≤ 8192)
    (sym (ap (λ (l : List Entry). commands_in l) done ∙ commands-found (commands_of rows s)))
    (journal_few s rows all)

-- one row more, behind those that were found
pub spelled_more : (found_rows added now : List Row) (r : Row) → now ≡ added ++ r ∷ []
    → length (journal_bytes (found_rows ++ now))
    ≡ length (journal_bytes (found_rows ++ added)) + (5 + length (payload_of r.command))
spelled_more found_rows added now r is =
    omega (
      arith,
      ap (λ (l : List Row). length (journal_bytes (found_rows ++ l))) is,
      ap (λ (l : List Row). length (journal_bytes l)) (append_assoc found_rows added (r ∷ [])),
      ap (λ (l : List ℕ). length l) (spelled-push (found_rows ++ added) r),
      length-append (journal_bytes (found_rows ++ added)) (1 ∷ row_body r),
      length-body r,
    )
