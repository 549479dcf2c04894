-- What holds of a journal since it was opened, with one entry more.
use Rattle.std.proofs.Common.{◌≡◌, ◌⊎◌, inl, inr, ⊎_elim, ℕ, ◌+◌, ◌≤◌, max, Bool}
use Rattle.std.proofs.Common.{List, [], ◌∷◌, ◌++◌, length, take, drop, refl, sym, subst, ◌∙◌, ap}
use Rattle.std.proofs.Common.{arith, append_assoc, length-append, Option, Some, None}
use Rattle.std.specs.Prelude.{IsTrue, IfSome}
use Rattle.std.proofs.Math.Seq.{take-length, drop-length}
use Rattle.std.proofs.lemmas.List.{take-append-le, take-append-drop, drop-append-le}
use Rattle.disk_model.specs.Work.{EachImage, LeavesOnly, SameDisk}
use Rattle.disk_model.specs.declared.disk.Disk.{Ghosts as DiskWords}
use Rattle.disk_model.proofs.Moments.{started, weaker}
use Rattle.gate_journal.proofs.Opening.{and_more}
use Rattle.turn_cell.specs.History.{Each}
use Rattle.turn_cell.proofs.HistoryLemmas.{each_append}
use Rattle.gate_journal.specs.declared.command.Command.{Command}
use Rattle.gate_journal.specs.declared.row.Row.{Row}
use Rattle.gate_journal.specs.declared.entry.Entry.{Entry}
use Rattle.gate_journal.specs.declared.entry.Entry.TheVariants.{Kept, Faulted}
use Rattle.gate_journal.specs.Rows.{row_body, payload_of, rows_behind_open_gates}
use Rattle.gate_journal.specs.Rows.{journal_bytes, EachNext, IsJournal, MayStand}
use Rattle.gate_journal.specs.Log.{Log, IsBetween, IsOfSession, IsSinceOpened, entry_number}
use Rattle.gate_journal.specs.Gate.{IsShut}
use Rattle.gate_journal.specs.Log.{EndsInFaultOf, InTurn, StandsBehind, row_in, IsSoundJournal}
use Rattle.gate_journal.specs.Log.{rows_kept, MayOpen, MaySpell, Meanwhile, next_row, rows_of}
use Rattle.gate_journal.proofs.InTurnLemmas.{number_in, one_turn_more, owned}
use Rattle.gate_journal.proofs.LimitLemmas.{payload_most}
use Rattle.gate_journal.proofs.LogLemmas.{closed_shut, stands_closed, stands_well}

pub rows_of-append : (xs ys : List Entry) → rows_of (xs ++ ys) ≡ rows_of xs ++ rows_of ys
rows_of-append [] ys = refl
rows_of-append (Kept r ∷ xs) ys = ap (λ (x : List Row). r ∷ x) (rows_of-append xs ys)
rows_of-append (Faulted r from to ∷ xs) ys = rows_of-append xs ys

opened_grows : (rows more : List Row)
    → length (rows_behind_open_gates rows) ≤ length (rows_behind_open_gates (rows ++ more))
opened_grows [] more = omega arith
opened_grows (r ∷ rows) more =
    let rest : length (rows_behind_open_gates rows)
    ≤ length (rows_behind_open_gates (rows ++ more)) = opened_grows rows more in
    omega (
      arith,
      rest,
      length-append (row_body r) (rows_behind_open_gates rows),
      length-append (row_body r) (rows_behind_open_gates (rows ++ more)),
    )

-- more rows are no shorter
pub spelled_grows :
    (first last more : List Row) → last ≡ first ++ more
    → length (journal_bytes first) ≤ length (journal_bytes last)
spelled_grows first last more grows =
    rw grows (omega (arith, opened_grows first more))

-- an image of the time up to a row is one of the time up to a later one
pub between_later :
    (first mid last more : List Row) (c : List ℕ) → last ≡ mid ++ more
    → IsBetween first mid c → IsBetween first last c
between_later first mid last more c grows b = record {
  since = b.since;
  after = b.after ++ more;
  grows = grows ∙ ap (λ (x : List Row). x ++ more) b.grows
      ∙ append_assoc (first ++ b.since) b.after more;
  one_more = b.one_more;
  spells = b.spells;
  opens = b.opens;
}

-- the images of one append
between_meanwhile :
    (first since rows last more : List Row) (uncertain : Option Row) (r : Row) (c : List ℕ)
    → rows ≡ first ++ since → last ≡ rows ++ more → Meanwhile rows uncertain r c
    → IsBetween first last c
between_meanwhile first since rows last more uncertain r c is grows (spells, opens) =
    of spells
  where
    one : (one_more : Option Row) → MaySpell rows one_more c → IsBetween first last c
    one one_more spelled_so = record {
      since = since;
      after = more;
      grows = grows ∙ ap (λ (x : List Row). x ++ more) is;
      one_more = one_more;
      spells = rw is at spelled_so;
      opens = rw is at opens;
    }

    of : MaySpell rows uncertain c ⊎ MaySpell rows (Some r) c → IsBetween first last c
    of (inl old) = one uncertain old
    of (inr new) = one (Some r) new

-- the rows found come first
rows_after :
    (found : ℕ) (entries : List Entry)
    → rows_of entries ≡ rows_of (take found entries) ++ rows_of (drop found entries)
rows_after found entries =
    sym (ap rows_of (take-append-drop found entries))
    ∙ rows_of-append (take found entries) (drop found entries)

-- no gate is uncertain
pub unsure_none :
    {uncertain : Option Row} (P : Row → Type 0) → uncertain ≡ None → IfSome uncertain P
unsure_none P so = rw so tt

faulted_again :
    (uncertain : Option Row) (entries : List Entry) (r : Row) (from to : ℕ)
    → IfSome uncertain (λ q. EndsInFaultOf q entries)
    → IfSome uncertain (λ q. EndsInFaultOf q (entries ++ Faulted r from to ∷ []))
faulted_again None entries r from to unsure = tt
faulted_again (Some q) entries r from to unsure = record {
  front = unsure.front;
  from = unsure.from;
  to = unsure.to;
  later = unsure.later ++ Faulted r from to ∷ [];
  fault =
      ap (λ (es : List Entry). es ++ Faulted r from to ∷ []) unsure.fault
      ∙ append_assoc unsure.front (Faulted q unsure.from unsure.to ∷ unsure.later)
      (Faulted r from to ∷ []);
  no_row =
      rows_of-append unsure.later (Faulted r from to ∷ [])
      ∙ ap (λ (rows : List Row). rows ++ []) unsure.no_row;
}

-- one piece of work on a disk after another
pub same_then :
    {D : Type 0} (disks : DiskWords D) {a b c : D} → SameDisk disks a b → SameDisk disks b c
    → SameDisk disks a c
same_then disks p q = record {
  telling = q.telling ∙ p.telling;
  size = q.size ∙ p.size;
  name = q.name ∙ p.name;
}

module _ {D : Type 0} {disks : DiskWords D} {log old : Log D} {session : ℕ}
    {command : Command} (is : log ≡ old)
    (since : IsSinceOpened disks log)
    (stands : MayStand (rows_of old.entries) session command) where
  abbrev rows : List Row
  rows = rows_of log.entries

  abbrev found_in : List Entry → List Row
  found_in entries = rows_of (take log.opening.found entries)

  -- the entries since the opening, with one more
  dropped :
      (entries : List Entry) (e : Entry) → entries ≡ log.entries ++ e ∷ []
      → drop log.opening.found entries ≡ drop log.opening.found log.entries ++ e ∷ []
  dropped entries e pushed =
      ap (λ (es : List Entry). drop log.opening.found es) pushed
      ∙ drop-append-le log.opening.found log.entries (e ∷ []) since.many

  -- a gate stays uncertain behind one fault more
  pub unsure_still :
      {entries : List Entry} {uncertain : Option Row} (r : Row) (from to : ℕ)
      → entries ≡ log.entries ++ Faulted r from to ∷ [] → uncertain ≡ log.uncertain
      → IfSome uncertain (λ q. EndsInFaultOf q (drop log.opening.found entries))
  unsure_still {entries = entries} r from to pushed so =
      rw (so, dropped entries (Faulted r from to) pushed)
      (faulted_again log.uncertain (drop log.opening.found log.entries) r from to since.unsure)

  -- it becomes so with the fault of its row
  pub unsure_now :
      {entries : List Entry} {uncertain : Option Row} (q : Row) (from to : ℕ)
      → entries ≡ log.entries ++ Faulted q from to ∷ [] → uncertain ≡ Some q
      → IfSome uncertain (λ q. EndsInFaultOf q (drop log.opening.found entries))
  unsure_now {entries = entries} q from to pushed so =
      rw (so, dropped entries (Faulted q from to) pushed) (record {
        front = drop log.opening.found log.entries;
        from = from;
        to = to;
        later = [];
        fault = refl;
        no_row = refl;
      })

  -- one entry more, of the row that was asked for, after the calls of an append
  pub since_more :
      {disk : D} {entries : List Entry} {steps : List D} {ready : Bool} {end : ℕ}
      (uncertain : Option Row) (e : Entry)
      → entries ≡ log.entries ++ e ∷ [] → row_in e ≡ next_row rows session command
      → steps ≡ log.steps ++ disk ∷ []
      → IfSome uncertain (λ q. EndsInFaultOf q (drop log.opening.found entries))
      → SameDisk disks log.disk disk
      → (IsTrue (disks.tells old.disk) → LeavesOnly disks old.disk disk
      (Meanwhile (rows_of old.entries) old.uncertain
      (next_row (rows_of old.entries) session command)))
      → disks.reach disk ≤ max (disks.reach log.disk)
      (length (journal_bytes (rows_of log.entries)) + 4110)
      → ((c : List ℕ) → disks.left_since disk (disks.moment disk) c → disks.may_leave disk c)
      → IsSoundJournal disks
      (record log {
        disk = disk;
        entries = entries;
        uncertain = uncertain;
        steps = steps;
        ready = ready;
      }) end
      → IsSinceOpened disks
      (record log {
        disk = disk;
        entries = entries;
        uncertain = uncertain;
        steps = steps;
        ready = ready;
      })
  since_more {disk = disk} {entries = entries} {steps = steps} uncertain e pushed made stepped unsure
      same leaves asked only_now sound = record {
        same = same_then disks since.same same;
        many = omega (arith, since.many, ap length pushed, length-append log.entries (e ∷ []));
        numbers = rw pushed (each_append IsOfSession log.entries (e ∷ []) since.numbers (
          (omega (arith, numbered), omega (arith, numbered, stands.below)),
          tt,
        ));
        unsure = unsure;
        meanwhile = λ start journal may told. images start journal may told;
        in_turn = λ told. turns told;
        reaches = omega (arith, since.reaches, asked, longer);
      }
    where
      numbered : entry_number e ≡ session + 1
      numbered = number_in e ∙ ap (λ (r : Row). r.by) made

      taken : take log.opening.found entries ≡ take log.opening.found log.entries
      taken =
          ap (λ (es : List Entry). take log.opening.found es) pushed
          ∙ take-append-le log.opening.found log.entries (e ∷ []) since.many

      here :
          IsTrue (disks.tells log.disk) → LeavesOnly disks log.disk disk
          (Meanwhile rows log.uncertain (next_row rows session command))
      here = rw is leaves

      -- the images of the append, and those behind it
      asks : (c : List ℕ) → Meanwhile rows log.uncertain (next_row rows session command) c
          → StandsBehind log.entries (Some (row_in e)) c
      asks c (inl old, opens) = record {
        one_more = log.uncertain;
        owner = owned log.opening.found log.entries (Some (row_in e)) log.uncertain since.unsure;
        spells = old;
        opens = opens;
      }
      asks c (inr new, opens) = record {
        one_more = Some (next_row rows session command);
        owner = inl (ap Some made);
        spells = new;
        opens = opens;
      }

      stands_now : IsTrue (disks.tells disk) → (c : List ℕ)
          → disks.left_since disk (disks.moment disk) c
          → StandsBehind (log.entries ++ e ∷ []) None c
      stands_now told c left =
          subst (λ (es : List Entry). StandsBehind es None c) pushed (record {
            one_more = uncertain;
            owner = owned log.opening.found entries None uncertain unsure;
            spells =
                stands_well (rows_of entries) uncertain c sound.journal sound.next
                (sound.images told c (only_now c left));
            opens =
                stands_closed (rows_of entries) uncertain c sound.next
                (sound.images told c (only_now c left));
          })

      turns :
          IsTrue (disks.tells disk) → InTurn disks (take log.opening.found entries) log.start
          (drop log.opening.found entries) steps disk
      turns told =
          let told_then : IsTrue (disks.tells log.disk) = rw same.telling at told in
          rw (taken, dropped entries e pushed, stepped)
          (one_turn_more disks (take log.opening.found log.entries) log.start log.disk
          disk (drop log.opening.found log.entries) log.steps e log.entries
          (take-append-drop log.opening.found log.entries) (since.in_turn told_then)
          (weaker disks log.disk disk (Meanwhile rows log.uncertain (next_row rows session command))
          (StandsBehind log.entries (Some (row_in e))) (here told_then) asks)
          (started disks disk (StandsBehind (log.entries ++ e ∷ []) None) (stands_now told)))

      grows : rows_of entries ≡ rows ++ rows_of (e ∷ [])
      grows = ap rows_of pushed ∙ rows_of-append log.entries (e ∷ [])

      longer : length (journal_bytes rows) ≤ length (journal_bytes (rows_of entries))
      longer = spelled_grows rows (rows_of entries) (rows_of (e ∷ [])) grows

      same_found : found_in log.entries ≡ found_in entries
      same_found = sym (ap rows_of taken)

      images :
          (start : List Row) → IsJournal start
          → EachImage disks log.opening.disk (MayOpen start) → IsTrue (disks.tells log.opening.disk)
          → LeavesOnly disks log.opening.disk disk
          (λ c. MayOpen start c ⊎ IsBetween (found_in entries) (rows_of entries) c)
      images start journal may told =
          let P : List ℕ → Type 0
          = λ c. MayOpen start c ⊎ IsBetween (found_in entries) (rows_of entries) c
          in
          let told_now = rw (← since.same.telling) at told in
          and_more
          (weaker disks log.opening.disk log.disk
          (λ c. MayOpen start c ⊎ IsBetween (found_in log.entries) rows c) P
          (since.meanwhile start journal may told)
          (λ c. ⊎_elim (λ opens. inl opens)
          (λ b. inr (rw (← same_found) (between_later (found_in log.entries) rows (rows_of entries)
          (rows_of (e ∷ [])) c grows b)))))
          (here told_now)
          (λ c m. inr (rw (← same_found) (between_meanwhile (found_in log.entries)
          (rows_of (drop log.opening.found log.entries)) rows (rows_of entries) (rows_of (e ∷ []))
          log.uncertain (next_row rows session command) c
          (rows_after log.opening.found log.entries) grows m)))

  -- how far a row is written behind a repair
  pub asked_row :
      (before mid now end : ℕ) {q : Row} {past : List ℕ}
      → end ≡ length (journal_bytes (rows_of log.entries))
      → q ≡ record { place = end; session = session; by = session + 1; command = command }
      → past ≡ row_body q ++ 0 ∷ [] → mid ≤ max before (end + 1)
      → now ≤ max mid (end + 1 + length past)
      → now ≤ max before (length (journal_bytes (rows_of log.entries)) + 4110)
  asked_row before mid now end {q} {past} ends made bytes first second =
      omega (
        arith,
        ends,
        first,
        second,
        ap length bytes,
        length-append (payload_of q.command) (0 ∷ []),
        ap (λ (r : Row). length (payload_of r.command)) made,
        payload_most command stands.ranges,
      )

-- of a journal that was just opened
pub since_begun :
    {D : Type 0} {disks : DiskWords D} {given now : D} {start : D} {entries : List Entry}
    {steps : List D} {ready : Bool} (found : ℕ)
    → found ≡ length entries → entries ≡ rows_kept (rows_of entries) → IsJournal (rows_of entries)
    → SameDisk disks given now
    → ((start : List Row) → IsJournal start → EachImage disks given (MayOpen start)
    → IsTrue (disks.tells given) → LeavesOnly disks given now (MayOpen start))
    → disks.reach now ≤ max (disks.reach given) (length (journal_bytes (rows_of entries)) + 1)
    → EachImage disks now (IsShut (journal_bytes (rows_of entries)))
    → ((c : List ℕ) → disks.left_since now (disks.moment now) c → disks.may_leave now c)
    → start ≡ now → steps ≡ []
    → IsSinceOpened disks (record {
      disk = now;
      entries = entries;
      uncertain = None;
      opening = record { disk = given; found = found };
      start = start;
      steps = steps;
      ready = ready;
    })
since_begun {D} {disks} {given} {now} {start} {entries} {steps} found many fresh journal same crash
    asked shut only_now is_start no_steps = record {
      same = same;
      many = omega (arith, many);
      numbers = rw fresh (numbers_of [] (rows_of entries) journal);
      unsure = tt;
      meanwhile = λ start is_journal may told.
          weaker disks given now (MayOpen start)
          (λ c. MayOpen start c ⊎ IsBetween (rows_of (take found entries)) (rows_of entries) c)
          (crash start is_journal may told) (λ c opens. inl opens);
      in_turn = λ told. begins told;
      reaches = omega (arith, asked);
    }
  where
    stands : IsTrue (disks.tells now) → (c : List ℕ) → disks.left_since now (disks.moment now) c
        → StandsBehind entries None c
    stands told c left = record {
      one_more = None;
      owner = tt;
      spells = closed_shut (rows_of entries) c journal (shut told c (only_now c left));
      opens = stands_closed (rows_of entries) None c tt (shut told c (only_now c left));
    }

    begins :
        IsTrue (disks.tells now)
        → InTurn disks (take found entries) start (drop found entries) steps now
    begins told =
        rw (is_start, no_steps, many, take-length entries, drop-length entries)
        (started disks now (StandsBehind entries None) (stands told))

    numbers_of :
        (before rows : List Row) → EachNext before rows → Each IsOfSession (rows_kept rows)
    numbers_of before [] all = tt
    numbers_of before (r ∷ rows) all = (
      (omega (arith, all.0.by), omega (arith, all.0.by, all.0.stands.below)),
      numbers_of (before ++ r ∷ []) rows all.1,
    )

-- room is no part of what holds
pub reserved :
    {D : Type 0} {disks : DiskWords D} {log : Log D} {entries : List Entry} {steps : List D}
    {end : ℕ} {ready : Bool} → entries ≡ log.entries → steps ≡ log.steps
    → IsSoundJournal disks log end × IsSinceOpened disks log → IsSoundJournal disks
    (record log { entries = entries; steps = steps; ready = ready }) end
    × IsSinceOpened disks (record log { entries = entries; steps = steps; ready = ready })
reserved same as_many (sound, since) = rw (same, as_many) assumption
