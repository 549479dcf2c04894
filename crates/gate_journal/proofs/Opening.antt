-- What the device calls of an opening leave.
use Rattle.std.proofs.Common.{◌≡◌, ◌≢◌, ◌⊎◌, inl, inr, ⊎_elim, ℕ, ◌+◌, List, [], ◌∷◌, ◌++◌}
use Rattle.std.proofs.Common.{length, get_or, refl, sym, subst, ◌∙◌, ap, arith, ◌≤◌, Bool}
use Rattle.std.specs.Prelude.{if◌then◌else◌, ◌==◌}
use Rattle.gate_journal.specs.declared.fault.JournalFault.{JournalFault}
use Rattle.gate_journal.specs.declared.fault.JournalFault.TheVariants.{NotJournal, Corrupt, NoMemory}
use Rattle.gate_journal.specs.declared.fault.JournalFault.TheVariants.{DiskFault as on_disk}
use Rattle.gate_journal.specs.Faults.{RefusesBytes, IsDiskFault}
use Rattle.std.proofs.lemmas.Bool.{cases_eq, cases_Bool, eq-eqb, eqb-true}
use Rattle.disk_model.specs.Disk.{Elapses, Holds, Torn, file_written}
use Rattle.disk_model.specs.Work.{LeavesOnly}
use Rattle.disk_model.specs.declared.disk.Disk.{Ghosts as DiskWords}
use Rattle.disk_model.proofs.Moments.{started, goes_on, weaker, and_then}
use Rattle.disk_model.proofs.Torn.{holds_kept, holds_both, torn_written, holds_written}
use Rattle.disk_model.proofs.Torn.{written_below, written_within}
use Rattle.gate_journal.specs.declared.row.Row.{Row}
use Rattle.gate_journal.specs.Gate.{IsShut, IsUnsure}
use Rattle.gate_journal.specs.Rows.{SpellsRows, row_body, journal_bytes, IsJournal, IsNext}
use Rattle.gate_journal.specs.Rows.{rows_behind_open_gates, journal_front, version_byte}
use Rattle.gate_journal.specs.Rows.{AreInVersion}
use Rattle.std.specs.Prelude.{Option, Some, None, IfSome}
use Rattle.gate_journal.specs.Opening.{migrated, set_calls, with_byte}
use Rattle.gate_journal.specs.Log.{IsMigrating, MayOpen, StandsInEither}
use Rattle.gate_journal.proofs.RowLemmas.{one_list, shut_zero, spells_shut}
use Rattle.gate_journal.proofs.RowLemmas.{spells_not_open, opens, journal_push}
use Rattle.gate_journal.proofs.VersionLemmas.{are_front, header_torn, version_of, version_torn}
use Rattle.gate_journal.proofs.Steps.{unsure_torn, unsure_written}

module _ {D : Type 0} {disks : DiskWords D} where
  -- one call, before and after which a stop leaves what has the fact
  pub one_call :
      {old new : D} {P may_leave : List ℕ → Type 0}
      → ((c : List ℕ) → disks.left_since old (disks.moment old) c → P c)
      → Elapses (disks.moment old) (disks.moment new) (disks.left_since old) (disks.left_since new)
      may_leave
      → ((c : List ℕ) → may_leave c → P c)
      → LeavesOnly disks old new P
  one_call {old} {new} {P} {may_leave} first time =
      goes_on disks old old new P may_leave (started disks old P first) time

  -- and more calls, with a fact from which it follows
  pub and_more :
      {old mid new : D} {P Q : List ℕ → Type 0}
      → LeavesOnly disks old mid P → LeavesOnly disks mid new Q → ((c : List ℕ) → Q c → P c)
      → LeavesOnly disks old new P
  and_more {old} {mid} {new} {P} {Q} first second so =
      and_then disks old mid new P first (weaker disks mid new Q P second so)

-- a write of a place behind the header leaves the version
version_kept : (s f : List ℕ) (at : ℕ)
    → 9 ≤ length s → 9 ≤ at → Torn at 1 s f → version_byte f ≡ version_byte s
version_kept s f at long past torn = torn.below 8 (omega (arith, long)) (omega (arith, past))

-- so what stands before a gate of which nothing is known is left by a write of it
pub gate_torn : (rows : List Row) (r : Row) (end : ℕ) (s c : List ℕ)
    → end ≡ length (journal_bytes rows) → StandsInEither rows (Some r) s → Torn end 1 s c
    → StandsInEither rows (Some r) c
gate_torn rows r end s c is (are, unsure) torn =
    let version : version_byte c ≡ version_byte s =
    version_kept s c end (omega (arith, unsure.behind.within)) (omega (arith, is)) torn in (
      subst (λ (v : ℕ). AreInVersion v (rows ++ r ∷ [])) (sym version) are,
      subst (λ (v : ℕ). IsUnsure (journal_front v rows) (row_body r ++ 0 ∷ []) c) (sym version)
          (unsure_torn (journal_front (version_byte s) rows) (row_body r ++ 0 ∷ []) end (sym is) c s
          unsure torn),
    )

-- and closed by one that isn't cut short
pub gate_written : (rows : List Row) (r : Row) (end : ℕ) (s : List ℕ)
    → end ≡ length (journal_bytes rows) → StandsInEither rows (Some r) s
    → StandsInEither rows None (file_written s end (0 ∷ []))
gate_written rows r end s is (are, unsure) =
    let v = version_byte s in
    let shut =
    unsure_written (journal_front v rows) (row_body r ++ 0 ∷ []) end (sym is) s unsure in
    let version : version_byte (file_written s end (0 ∷ [])) ≡ v =
    version_of v (rows_behind_open_gates rows ++ 0 ∷ []) (file_written s end (0 ∷ [])) shut in (
      subst (λ (k : ℕ). AreInVersion k rows) (sym version) (are_front v rows r are).0,
      subst (λ (k : ℕ). IsShut (journal_front k rows) (file_written s end (0 ∷ []))) (sym version)
          shut,
    )

-- a journal whose gate is closed is made one of version 2
pub second_written : (rows : List Row) (s : List ℕ)
    → IsShut (journal_front (version_byte s) rows) s
    → IsShut (journal_bytes rows) (file_written s 8 (1 ∷ []))
second_written rows s shut =
    subst (λ (v : ℕ). IsShut (journal_front v rows) (file_written s 8 (1 ∷ [])))
    (written_within s 8 (1 ∷ []) 0 (omega arith))
    (header_torn (version_byte s) (rows_behind_open_gates rows ++ 0 ∷ []) s
    (file_written s 8 (1 ∷ [])) shut (torn_written s 8 (1 ∷ [])))

-- Where the rows that stand end at a gate that isn't 0, a write of that gate leaves them as they
-- stand, and this one behind an uncertain gate.
reclosed : (rows found : List Row) (u : Option Row) (s f : List ℕ) (end : ℕ)
    → IsJournal rows → IfSome u (IsNext rows) → StandsInEither rows u s → SpellsRows s found
    → get_or s end 0 ≢ 0 → end ≡ length (journal_bytes found)
    → Torn end 1 s f → StandsInEither rows u f
reclosed rows found None s f end all next shut stands set_gate is torn =
    let same : found ≡ rows = one_list s found rows stands (spells_shut rows s all shut) in
    absurd (set_gate
    (ap (λ (k : ℕ). get_or s k 0) (is ∙ ap (λ (l : List Row). length (journal_bytes l)) same)
    ∙ shut_zero (journal_front (version_byte s) rows) s shut.1))
reclosed rows found (Some r) s f end all next unsure stands set_gate is torn =
    elim (cases_eq (get_or s (length (journal_bytes rows)) 0) 1) [
      | inl is_open ↦
          let shut = opens rows r s unsure is_open in
          let same : found ≡ rows ++ r ∷ [] =
          one_list s found (rows ++ r ∷ []) stands
          (spells_shut (rows ++ r ∷ []) s (journal_push rows r all next) shut) in
          absurd (set_gate
          (ap (λ (k : ℕ). get_or s k 0) (is ∙ ap (λ (l : List Row). length (journal_bytes l)) same)
          ∙ shut_zero (journal_front (version_byte s) (rows ++ r ∷ [])) s shut.1))
      | inr not_open ↦
          let same : found ≡ rows =
          one_list s found rows stands (spells_not_open rows r s all unsure not_open) in
          gate_torn rows r end s f
          (is ∙ ap (λ (l : List Row). length (journal_bytes l)) same) unsure torn
    ]

-- a byte that stands there already, and one that doesn't
pub same_byte : (s : List ℕ) (place wanted : ℕ)
    → get_or s place 0 ≡ wanted → with_byte s place wanted ≡ s
same_byte s place wanted is =
    ap (λ (b : Bool). if b then s else file_written s place (wanted ∷ []))
    (eq-eqb (get_or s place 0) wanted is)

pub other_byte : (s : List ℕ) (place wanted : ℕ)
    → get_or s place 0 ≢ wanted → with_byte s place wanted ≡ file_written s place (wanted ∷ [])
other_byte s place wanted other = elim (cases_Bool (get_or s place 0 == wanted)) [
  | inl is ↦ absurd (other (eqb-true (get_or s place 0) wanted is))
  | inr not_it ↦ ap (λ (b : Bool). if b then s else file_written s place (wanted ∷ [])) not_it
]

-- how many device calls that takes
pub set_none : (now wanted : ℕ) → now ≡ wanted → 0 ≡ set_calls now wanted
set_none now wanted is =
    sym (ap (λ (b : Bool). if b then 0 else 2) (eq-eqb now wanted is))

pub set_two : (now wanted : ℕ) → now ≢ wanted → 2 ≡ set_calls now wanted
set_two now wanted other = elim (cases_Bool (now == wanted)) [
  | inl is ↦ absurd (other (eqb-true now wanted is))
  | inr not_it ↦ sym (ap (λ (b : Bool). if b then 0 else 2) not_it)
]

pub set_most : (now wanted : ℕ) → set_calls now wanted ≤ 2
set_most now wanted = elim (cases_eq now wanted) [
  | inl is ↦ omega (arith, set_none now wanted is)
  | inr other ↦ omega (arith, set_two now wanted other)
]

-- a gate behind the header is no part of the version
pub version_with : (s : List ℕ) (end wanted : ℕ)
    → 9 ≤ end → version_byte (with_byte s end wanted) ≡ version_byte s
version_with s end wanted past = elim (cases_eq (get_or s end 0) wanted) [
  | inl is ↦ ap version_byte (same_byte s end wanted is)
  | inr other ↦
      ap version_byte (other_byte s end wanted other)
      ∙ written_below s end (wanted ∷ []) 8 (omega (arith, past))
]

-- the rows that stand, with the gate closed
closed_stands : (rows found : List Row) (u : Option Row) (s : List ℕ) (end : ℕ)
    → IsJournal rows → IfSome u (IsNext rows) → StandsInEither rows u s → SpellsRows s found
    → end ≡ length (journal_bytes found) → StandsInEither rows u (with_byte s end 0)
closed_stands rows found u s end all next stood stands is = elim (cases_eq (get_or s end 0) 0) [
  | inl closed ↦
      subst (λ (l : List ℕ). StandsInEither rows u l) (sym (same_byte s end 0 closed)) stood
  | inr set_gate ↦
      subst (λ (l : List ℕ). StandsInEither rows u l) (sym (other_byte s end 0 set_gate))
      (reclosed rows found u s (file_written s end (0 ∷ [])) end all next stood stands set_gate is
      (torn_written s end (0 ∷ [])))
]

-- what stands in the bytes stands in each image while they are opened
pub migrating : (rows : List Row) (u : Option Row) (s c : List ℕ)
    → IsJournal rows → IfSome u (IsNext rows) → StandsInEither rows u s → IsMigrating s c
    → StandsInEither rows u c
migrating rows u s c all next stood (found, stands, inl (inl same)) =
    subst (λ (l : List ℕ). StandsInEither rows u l) (sym same) stood
migrating rows u s c all next stood (found, stands, inl (inr torn)) =
    reclosed rows found u s c (length (journal_bytes found)) all next stood stands torn.0 refl
    torn.1
migrating rows u s c all next stood (found, stands, inr (inl same)) =
    subst (λ (l : List ℕ). StandsInEither rows u l) (sym same)
    (closed_stands rows found u s (length (journal_bytes found)) all next stood stands refl)
migrating rows u s c all next stood (found, stands, inr (inr torn)) =
    version_torn rows u (with_byte s (length (journal_bytes found)) 0) c
    (closed_stands rows found u s (length (journal_bytes found)) all next stood stands refl)
    torn.0 torn.1

-- and so what an opening may meet
pub opens_again : (rows : List Row) (s c : List ℕ)
    → IsJournal rows → MayOpen rows s → IsMigrating s c → MayOpen rows c
opens_again rows s c all (inl shut) goes = inl (migrating rows None s c all tt shut goes)
opens_again rows s c all (inr (r, next, unsure)) goes =
    inr (r, next, migrating rows (Some r) s c all next unsure goes)

-- both said of a disk while it is opened, of which one image reads as these bytes
module _ {D : Type 0} {disks : DiskWords D} {given now : D} {may_leave : List ℕ → Type 0}
    {s : List ℕ} (reads : may_leave s) (rows : List Row) (all : IsJournal rows)
    (leaves : LeavesOnly disks given now (λ c. may_leave c ⊎ IsMigrating s c)) where
  pub keeps_standing : (u : Option Row) → IfSome u (IsNext rows)
      → ((c : List ℕ) → may_leave c → StandsInEither rows u c)
      → LeavesOnly disks given now (StandsInEither rows u)
  keeps_standing u next each =
      weaker disks given now _ (StandsInEither rows u) leaves
      (λ c. ⊎_elim (each c) (migrating rows u s c all next (each s reads)))

  pub keeps_open : ((c : List ℕ) → may_leave c → MayOpen rows c)
      → LeavesOnly disks given now (MayOpen rows)
  keeps_open each =
      weaker disks given now _ (MayOpen rows) leaves
      (λ c. ⊎_elim (each c) (opens_again rows s c all (each s reads)))

-- the gate is closed
pub gate_closed : (rows : List Row) (s : List ℕ) (end : ℕ)
    → SpellsRows s rows → end ≡ length (journal_bytes rows)
    → IsShut (journal_front (version_byte s) rows) (with_byte s end 0)
gate_closed rows s end stands is = elim (cases_eq (get_or s end 0) 0) [
  | inl closed ↦
      subst (λ (l : List ℕ). IsShut front l) (sym (same_byte s end 0 closed))
      (holds_both {p = 0} front (0 ∷ []) (omega arith) stands.front (record {
        within = omega (arith, stands.within);
        each = λ i lt.
            ap (λ (k : ℕ). get_or s k 0)
            (let here : length front + i ≡ end = omega (arith, is, lt) in here)
            ∙ closed
            ∙ (let zero_ : 0 ≡ i = omega (arith, lt) in
            ap (λ (k : ℕ). get_or (0 ∷ []) k 0) zero_);
      }))
  | inr set_gate ↦
      subst (λ (l : List ℕ). IsShut front l) (sym (other_byte s end 0 set_gate))
      (holds_both {p = 0} front (0 ∷ []) (omega arith)
      (holds_kept stands.front (torn_written s end (0 ∷ [])) (inl (omega (arith, is))))
      (subst (λ (k : ℕ). Holds (file_written s end (0 ∷ [])) k (0 ∷ []))
      (let here : end ≡ length front = is in here) (holds_written s end (0 ∷ []))))
]
  where
    front : List ℕ
    front = journal_front (version_byte s) rows

-- and then it is a journal of version 2
pub shut_second : (rows : List Row) (s : List ℕ) (end : ℕ)
    → SpellsRows s rows → end ≡ length (journal_bytes rows)
    → IsShut (journal_bytes rows) (migrated s end)
shut_second rows s end stands is = elim (cases_eq (version_byte closed) 1) [
  | inl second ↦
      subst (λ (l : List ℕ). IsShut (journal_bytes rows) l) (sym (same_byte closed 8 1 second))
      (subst (λ (v : ℕ). IsShut (journal_front v rows) closed) (sym version ∙ second) shut)
  | inr first ↦
      subst (λ (l : List ℕ). IsShut (journal_bytes rows) l) (sym (other_byte closed 8 1 first))
      (second_written rows closed
      (subst (λ (v : ℕ). IsShut (journal_front v rows) closed) (sym version) shut))
]
  where
    closed : List ℕ
    closed = with_byte s end 0

    shut : IsShut (journal_front (version_byte s) rows) closed
    shut = gate_closed rows s end stands is

    version : version_byte closed ≡ version_byte s
    version = version_of (version_byte s) (rows_behind_open_gates rows ++ 0 ∷ []) closed shut

-- bytes alone are refused for no fault of a disk
pub not_of_bytes : (bytes : List ℕ) (e : JournalFault) → RefusesBytes bytes e → IsDiskFault e → ⊥
not_of_bytes bytes NotJournal said is_fault = is_fault
not_of_bytes bytes (Corrupt place) said is_fault = is_fault
not_of_bytes bytes (on_disk fault) said is_fault = said
not_of_bytes bytes NoMemory said is_fault = is_fault
