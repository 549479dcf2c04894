-- A journal with a closed gate, of which nothing is known but that its header may tell any version.
use Rattle.std.proofs.Common.{◌≡◌, inl, inr, ℕ, ◌+◌, List, [], ◌∷◌, ◌++◌, length, get_or}
use Rattle.std.proofs.Common.{drop, refl, sym, ◌∙◌, ap, subst, arith, append_assoc}
use Rattle.std.proofs.lemmas.List.{append-nil}
use Rattle.disk_model.specs.Disk.{Holds}
use Rattle.disk_model.proofs.Torn.{holds_front, holds_rest}
use Rattle.gate_journal.specs.declared.command.Command.{Command}
use Rattle.gate_journal.specs.declared.row.Row.{Row}
use Rattle.gate_journal.specs.Command.{IsCommand}
use Rattle.gate_journal.specs.Gate.{IsShut}
use Rattle.gate_journal.specs.Rows.{journal_front, journal_bytes, row_body, rows_behind_open_gates}
use Rattle.gate_journal.specs.Rows.{header_with, version_byte, AreInVersion, IsInVersion}
use Rattle.gate_journal.specs.Rows.{EachNext, IsJournal, IsCorrupt}
use Rattle.gate_journal.proofs.PayloadLemmas.{same_command}
use Rattle.gate_journal.proofs.RowLemmas.{body_parts, holds_past, holds_split, shut_zero, spells_shut}
use Rattle.gate_journal.proofs.VersionLemmas.{are_push, has_it}
use Rattle.journal_pack.specs.Images.{NoneOrAll, SpellsClosed}

-- of a version that has all rows
pub closed : (rows : List Row) (c : List ℕ) → IsJournal rows → AreInVersion (version_byte c) rows
    → IsShut (journal_front (version_byte c) rows) c → SpellsClosed rows c
closed rows c all are shut = record {
  spells = spells_shut rows c all (are, shut);
  gate = shut_zero (journal_front (version_byte c) rows) c shut;
}

-- the first of more rows, and those before it
rows_split : (front done more : List Row) → EachNext front (done ++ more)
    → EachNext front done × EachNext (front ++ done) more
rows_split front [] more each =
    (tt, subst (λ (l : List Row). EachNext l more) (sym (append-nil front)) each)
rows_split front (r ∷ done) more each =
    let rest = rows_split (front ++ r ∷ []) done more each.1 in (
      (each.0, rest.0),
      subst (λ (l : List Row). EachNext l more) (append_assoc front (r ∷ []) done) rest.1,
    )

opened-append : (a b : List Row)
    → rows_behind_open_gates (a ++ b) ≡ rows_behind_open_gates a ++ rows_behind_open_gates b
opened-append [] b = refl
opened-append (r ∷ a) b =
    ap (λ (l : List ℕ). 1 ∷ row_body r ++ l) (opened-append a b)
    ∙ ap (λ (l : List ℕ). 1 ∷ l)
    (sym (append_assoc (row_body r) (rows_behind_open_gates a) (rows_behind_open_gates b)))

-- two rows at one place have the same command
one_command : (c : List ℕ) (at : ℕ) (r s : Row) → IsCommand r.command → IsCommand s.command
    → Holds c at (row_body r) → Holds c at (row_body s) → r.command ≡ s.command
one_command c at r s first second here there =
    let past = drop at c in
    let one = body_parts r (drop (length (row_body r)) past) past first
    (holds_split past (row_body r) (holds_past here)) in
    let other = body_parts s (drop (length (row_body s)) past) past second
    (holds_split past (row_body s) (holds_past there)) in
    same_command r.command s.command first second (sym one.0 ∙ other.0) (sym one.2 ∙ other.2)

-- of a version that hasn't this row, and has those before it
stopped : (c : List ℕ) (done more : List Row) (r : Row) → IsJournal (done ++ r ∷ more)
    → AreInVersion (version_byte c) done → (IsInVersion (version_byte c) r.command → ⊥)
    → IsShut (journal_front (version_byte c) (done ++ r ∷ more)) c
    → IsCorrupt c (length (journal_bytes done))
stopped c done more r all are hasnt shut =
    let v = version_byte c in
    let place = length (journal_bytes done) in
    let rest = rows_behind_open_gates more ++ 0 ∷ [] in
    let split : journal_front v (done ++ r ∷ more) ++ 0 ∷ []
    ≡ journal_front v done ++ (1 ∷ (row_body r ++ rest)) =
    ap (λ (l : List ℕ). header_with v ++ l)
    (ap (λ (l : List ℕ). l ++ 0 ∷ []) (opened-append done (r ∷ more))
    ∙ append_assoc (rows_behind_open_gates done) (rows_behind_open_gates (r ∷ more)) (0 ∷ [])
    ∙ ap (λ (l : List ℕ). rows_behind_open_gates done ++ 1 ∷ l)
    (append_assoc (row_body r) (rows_behind_open_gates more) (0 ∷ []))) in
    let whole : Holds c 0 (journal_front v done ++ (1 ∷ (row_body r ++ rest))) =
    subst (λ (l : List ℕ). Holds c 0 l) split shut in
    let parts = rows_split [] done (r ∷ more) all in
    let behind : Holds c place (1 ∷ (row_body r ++ rest)) =
    holds_rest {p = 0} (journal_front v done) (1 ∷ (row_body r ++ rest)) (omega arith) whole in
    let body : Holds c (place + 1) (row_body r) =
    holds_front (row_body r) rest
    (holds_rest {p = place} (1 ∷ []) (row_body r ++ rest) (omega arith) behind) in
    record {
      rows = done;
      journal = parts.0;
      versions = are;
      front = holds_front (journal_front v done) (1 ∷ (row_body r ++ rest)) whole;
      behind = refl;
      gate = inr (
        ap (λ (k : ℕ). get_or c k 0) (omega arith) ∙ behind.each 0 (omega arith),
        λ s next in_version there.
            hasnt (subst (λ (x : Command). IsInVersion v x)
            (one_command c (place + 1) s r next.stands.ranges parts.1.0.stands.ranges there body)
            in_version),
      );
    }

-- row by row
walk : (c : List ℕ) (done more : List Row) → IsJournal (done ++ more)
    → AreInVersion (version_byte c) done
    → IsShut (journal_front (version_byte c) (done ++ more)) c → NoneOrAll (done ++ more) c
walk c done [] all are shut =
    inr (closed (done ++ []) c all
    (subst (λ (l : List Row). AreInVersion (version_byte c) l) (sym (append-nil done)) are) shut)
walk c done (r ∷ more) all are shut = elim (has_it (version_byte c) r.command) [
  | inr hasnt ↦
      inl (inr (length (journal_bytes done), stopped c done more r all are hasnt shut))
  | inl has ↦
      let one = append_assoc done (r ∷ []) more in
      subst (λ (l : List Row). NoneOrAll l c) one
      (walk c (done ++ r ∷ []) more (subst (λ (l : List Row). IsJournal l) (sym one) all)
      (are_push (version_byte c) done r are has)
      (subst (λ (l : List Row). IsShut (journal_front (version_byte c) l) c) (sym one) shut))
]

-- of either version: all rows are spelled, or the bytes are refused
pub in_any_version : (rows : List Row) (c : List ℕ) → IsJournal rows
    → IsShut (journal_front (version_byte c) rows) c → NoneOrAll rows c
in_any_version rows c all shut = walk c [] rows all tt shut
