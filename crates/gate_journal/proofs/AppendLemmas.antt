-- What an append leaves, over plain variables: `log` is the journal by its parts, `old` the same as
-- contracts see it.
use Rattle.std.proofs.Common.{◌≡◌, ◌⊎◌, ℕ, ◌+◌, ◌<◌, ◌≤◌, Bool, List, [], ◌∷◌, ◌++◌, length}
use Rattle.std.proofs.Common.{refl, sym, ◌∙◌, ap, arith}
use Rattle.std.specs.Prelude.{IsTrue, Option, Some, None, IfSome, Result, Ok}
use Rattle.disk_model.specs.Work.{LeavesOnly, EachImage, Triple}
use Rattle.disk_model.specs.Disk.{Rose, Holds}
use Rattle.disk_model.specs.declared.disk.Disk.{Ghosts as DiskWords}
use Rattle.gate_journal.specs.declared.command.Command.{Command}
use Rattle.gate_journal.specs.declared.row.Row.{Row}
use Rattle.gate_journal.specs.declared.entry.Entry.{Entry}
use Rattle.gate_journal.specs.declared.entry.Entry.TheVariants.{Kept, Faulted}
use Rattle.gate_journal.specs.Gate.{IsShut, IsUnsure}
use Rattle.gate_journal.specs.Rows.{row_body, journal_bytes, IsNext, MayStand}
use Rattle.gate_journal.specs.Log.{Log, IsSoundJournal, rows_of, next_row}
use Rattle.gate_journal.specs.Log.{StandsInImage, Meanwhile, MaySpell, MayOpen}
use Rattle.std.proofs.lemmas.List.{append-nil}
use Rattle.gate_journal.proofs.SinceLemmas.{rows_of-append}
use Rattle.gate_journal.proofs.LogLemmas.{stands_well, stands_closed}
use Rattle.gate_journal.proofs.Sound.{sound_faulted, sound_kept, settled, appended, opened_shut}

-- what a row or a fault adds to the rows
pub faulted_rows :
    {D : Type 0} {log old : Log D} {entries : List Entry} (q : Row) (from to : ℕ)
    → log ≡ old → entries ≡ log.entries ++ Faulted q from to ∷ []
    → rows_of entries ≡ rows_of old.entries
faulted_rows {D = D} {log = log} q from to is pushed =
    ap rows_of pushed ∙ rows_of-append log.entries (Faulted q from to ∷ [])
    ∙ append-nil (rows_of log.entries)
    ∙ ap (λ (l : Log D). rows_of l.entries) is

module _ {D : Type 0} {disks : DiskWords D} {log old : Log D} {end : ℕ} (is : log ≡ old)
    (sound : IsSoundJournal disks log end) where
  -- what the images of each journal spell, and that they may be opened
  pub images_spell : (disk : D)
      → log.disk ≡ disk
      → EachImage disks disk (MaySpell (rows_of old.entries) old.uncertain)
  images_spell disk same =
      rw (← same, ← is) (λ told c now.
      stands_well (rows_of log.entries) log.uncertain c sound.journal sound.next
      (sound.images told c now))

  pub images_open : (disk : D)
      → log.disk ≡ disk
      → EachImage disks disk (MayOpen (rows_of old.entries))
  images_open disk same =
      rw (← same, ← is) (λ told c now.
      stands_closed (rows_of log.entries) log.uncertain c sound.next (sound.images told c now))

  -- what stands in them, by name
  pub images_stand : (disk : D)
      → log.disk ≡ disk
      → EachImage disks disk (StandsInImage (rows_of old.entries) old.uncertain)
  images_stand disk same = rw (← same, ← is) sound.images

  pub uncertain_next : IfSome old.uncertain (IsNext (rows_of old.entries))
  uncertain_next = rw (← is) sound.next

-- the row at this end
abbrev row_at : ℕ → ℕ → Command → Row
row_at end session command =
    record { place = end; session = session; by = session + 1; command = command }

module _ {D : Type 0} {disks : DiskWords D} {log old : Log D} {end session : ℕ}
    {command : Command} (is : log ≡ old)
    (sound : IsSoundJournal disks log end)
    (stands : MayStand (rows_of old.entries) session command) where
  abbrev rows : List Row
  rows = rows_of log.entries

  abbrev r : Row
  r = next_row rows session command

  next : IsNext rows r
  next = record {
    place = refl;
    by = refl;
    stands = rw is stands;
  }

  pub row_is : {q : Row} → q ≡ row_at end session command → q ≡ r
  row_is made = made ∙ ap (λ (k : ℕ). row_at k session command) sound.ends

  -- what the repair says, and the writing of the row
  abbrev Repairs : {T E : Type 0} → Result T E → D → Type 0
  Repairs result mid =
      (l : List Row) → end ≡ length (journal_bytes l)
      → Triple disks result log.disk mid (StandsInImage l log.uncertain)
      (StandsInImage l log.uncertain) (StandsInImage l None)

  abbrev Writes :
      {T E : Type 0} → List ℕ → Result T E → D → D → Type 0
  Writes past result mid new =
      (front : List ℕ) → length front ≡ end
      → Triple disks result mid new (IsShut front)
      (λ c. IsShut front c ⊎ IsUnsure front past c) (λ c. Holds c 0 (front ++ 1 ∷ past))

  abbrev After : D → D → (List ℕ → List ℕ → Type 0) → Type 0
  After mid new P =
      (front : List ℕ) → length front ≡ end → EachImage disks mid (IsShut front)
      → EachImage disks new (P front)

  -- meanwhile, until the repair ends
  pub crash_repair :
      {T E : Type 0} {result : Result T E} {mid : D}
      → Repairs result mid → IsTrue (disks.tells old.disk) → LeavesOnly disks old.disk mid
      (Meanwhile (rows_of old.entries) old.uncertain
      (next_row (rows_of old.entries) session command))
  crash_repair {mid = mid} crash =
      rw (← is) (λ told.
      settled disks rows log.uncertain r sound.journal next sound.next log.disk mid
      ((crash rows sound.ends).meanwhile told (sound.images told)))

  -- the entries with the row's fault
  pub faulted_entry :
      {entries : List Entry} {q : Row} (from to : ℕ)
      → entries ≡ log.entries ++ Faulted q from to ∷ [] → q ≡ row_at end session command
      → entries
      ≡ old.entries ++ Faulted (next_row (rows_of old.entries) session command) from to ∷ []
  faulted_entry from to pushed made =
      rw (← is) (pushed ∙ ap (λ (x : Row). log.entries ++ Faulted x from to ∷ []) (row_is made))

  -- the rows with one more
  pub kept_rows :
      {entries : List Entry} {q : Row} → entries ≡ log.entries ++ Kept q ∷ []
      → q ≡ row_at end session command
      → rows_of entries ≡ rows_of old.entries ++ next_row (rows_of old.entries) session command ∷ []
  kept_rows {q = q} pushed made =
      rw (← is) (ap rows_of pushed ∙ rows_of-append log.entries (Kept q ∷ [])
      ∙ ap (λ (x : Row). rows ++ x ∷ []) (row_is made))

  -- the journal is sound with a fault more, which came after this much was done
  abbrev Faults : D → D → List Entry → Option Row → Row → ℕ → ℕ → List D → Bool → Type 0
  Faults mid new entries uncertain q from to steps ready =
      entries ≡ log.entries ++ Faulted q from to ∷ [] → disks.room new ≡ disks.room log.disk
      → from ≡ disks.faults log.disk → to ≡ disks.faults new
      → disks.faults mid ≡ disks.faults log.disk
      → (disks.faults mid ≤ disks.faults new) × Rose (disks.faults mid) (disks.faults new)
      → IsSoundJournal disks
      (record log {
        disk = new;
        entries = entries;
        uncertain = uncertain;
        steps = steps;
        ready = ready;
      }) end

  -- a fault, after which the gate is known so
  faulted :
      {mid new : D} {entries : List Entry} {uncertain : Option Row} {from to : ℕ} {steps : List D}
      {ready : Bool} (q : Row) (known : Option Row)
      → uncertain ≡ known → IfSome known (IsNext rows)
      → EachImage disks new (StandsInImage rows known)
      → Faults mid new entries uncertain q from to steps ready
  faulted {new = new} {entries = entries} {from = from} {to = to} {steps = steps} {ready = ready} q
      known so next_one images pushed size is_from is_to none_yet counts =
      rw so (sound_faulted disks log end new entries known q from to steps
      ready sound pushed size is_from is_to (omega (arith, is_from, is_to, none_yet, counts.0))
      (omega (arith, is_from, is_to, none_yet, counts.1)) next_one images)

  -- of the repair: the gate stays as it was
  pub sound_unrepaired :
      {new : D} {entries : List Entry} {uncertain : Option Row} {from to : ℕ} {steps : List D}
      {ready : Bool} (q : Row)
      → uncertain ≡ log.uncertain → EachImage disks new (StandsInImage rows log.uncertain)
      → Faults log.disk new entries uncertain q from to steps ready
  sound_unrepaired q so images = faulted {mid = log.disk} q log.uncertain so sound.next images

  -- where the repair ended Ok
  module _ {T E : Type 0} {value : T} {mid : D} (repairs : Repairs {E = E} (Ok value) mid)
      (same : disks.tells mid ≡ disks.tells log.disk) where
    -- it leaves a closed gate
    shut : EachImage disks mid (IsShut (journal_bytes rows))
    shut told =
        let told_then = rw same at told in
        (repairs rows sound.ends).ended told_then (sound.images told_then)

    -- before the gate's write: it is closed
    pub sound_before :
        {new : D} {entries : List Entry} {uncertain : Option Row} {from to : ℕ} {steps : List D}
        {ready : Bool} (q : Row)
        → uncertain ≡ None → After mid new IsShut
        → Faults mid new entries uncertain q from to steps ready
    sound_before q none after =
        faulted {mid = mid} q None none tt (after (journal_bytes rows) (sym sound.ends) shut)

    module _
        {q : Row} {past : List ℕ} (made : q ≡ row_at end session command)
        (bytes : past ≡ row_body q ++ 0 ∷ []) where
      -- meanwhile, until the row's writing ends
      pub crash_row :
          {S F : Type 0} {result : Result S F} {new : D}
          → Writes past result mid new → IsTrue (disks.tells old.disk)
          → LeavesOnly disks old.disk new
          (Meanwhile (rows_of old.entries) old.uncertain
          (next_row (rows_of old.entries) session command))
      crash_row {new = new} writes =
          rw (← is) (λ told.
          let told_then = rw (← same) at told in
          appended disks rows log.uncertain r sound.journal next sound.next log.disk mid new past
          (bytes ∙ ap (λ (x : Row). row_body x ++ 0 ∷ []) (row_is made))
          ((repairs rows sound.ends).meanwhile told (sound.images told))
          ((writes (journal_bytes rows) (sym sound.ends)).meanwhile told_then (shut told_then)))

      -- in the gate's write: it is uncertain, before the row
      pub sound_at_gate :
          {new : D} {entries : List Entry} {uncertain : Option Row} {from to : ℕ} {steps : List D}
          {ready : Bool}
          → uncertain ≡ Some q → After mid new (λ front. IsUnsure front past)
          → Faults mid new entries uncertain q from to steps ready
      sound_at_gate so after =
          faulted {mid = mid} q (Some q) so (rw (row_is made) next)
          (rw bytes at (after (journal_bytes rows) (sym sound.ends) shut))

      -- the row is there
      pub sound_row :
          {S F : Type 0} {wrote : S} {new : D} {entries : List Entry} {uncertain : Option Row}
          {steps : List D} {ready : Bool} {later : ℕ}
          → uncertain ≡ None → Writes {E = F} past (Ok wrote) mid new
          → disks.tells new ≡ disks.tells mid
          → entries ≡ log.entries ++ Kept q ∷ [] → disks.room new ≡ disks.room log.disk
          → disks.faults log.disk ≤ disks.faults new → later ≡ end + length past
          → later < disks.room new
          → IsSoundJournal disks
          (record log {
            disk = new;
            entries = entries;
            uncertain = uncertain;
            steps = steps;
            ready = ready;
          }) later
      sound_row {new = new} {entries = entries} {steps = steps} {ready = ready} {later = later} none
          writes same_then pushed size le is_later within =
          rw none
          (sound_kept disks log end later new entries q steps ready sound
          pushed size le (is_later ∙ ap (λ (l : List ℕ). end + length l) bytes) within
          (rw (row_is made) next)
          (λ told c now. let told_then = rw same_then at told in
          opened_shut rows q past c bytes
          ((writes (journal_bytes rows) (sym sound.ends)).ended told_then (shut told_then) c now)))
