-- A journal is packed into that of a new folder, behind its stores.
use Rattle.std.proofs.Common.{◌≡◌, ◌⊎◌, inl, inr, ℕ, ◌+◌, ◌/◌, ◌%◌, ◌<◌, ◌≤◌, List, [], ◌∷◌, ◌++◌}
use Rattle.std.proofs.Common.{length, arith, refl, sym, ap, ◌∙◌, subst, Option, None, Some, Bool}
use Rattle.std.proofs.Common.{false, IsTrue, Err, IsErrOf, codes, reverse}
use Rattle.std.proofs.lemmas.List.{append_cancel_right, reverse-append}
use Rattle.std.specs.Prelude.{slice_index}
use Rattle.std.specs.Str.{bytes_eq}
use Rattle.disk_model.specs.Disk.{NoneNew, Only, Rose as Rises}
use Rattle.disk_model.specs.Work.{LeavesOnly, OnlyLooks, SameDisk}
use Rattle.disk_model.specs.declared.disk.Disk.{Ghosts as DiskWords}
use Rattle.disk_model.proofs.Moments.{and_then, weaker}
use Rattle.gate_journal.specs.Faults.{IsFault}
use Rattle.gate_journal.specs.declared.row.Row.{Row}
use Rattle.journal_pack.specs.Faults.{Counts, HasPackCause, IsNoOldFault, Refuses, Told}
use Rattle.journal_pack.specs.Images.{IsRefused, closed_journal}
use Rattle.journal_pack.specs.Live.{packed}
use Rattle.journal_pack.specs.declared.fault.PackFault.{PackFault}
use Rattle.journal_pack.specs.declared.fault.PackFault.TheVariants as fault
use Rattle.journal_pack.proofs.ImageLemmas.{short_refused}
use Rattle.line_talk.specs.Causes.{Rose}
use Rattle.line_talk.specs.Streams.{SourceState, SinkState}
use Rattle.line_talk.proofs.StreamsLemmas.{gave_none, wrote_none}
use Rattle.turn_cell.specs.History.{Each}
use Rattle.host_top.specs.Begun.{IsLookedAt, MakesAll, MakesStores, TriesStores, Unmade, not_empty}
use Rattle.host_top.specs.Borrowed.{AreNamed, Borrowed, CountsFaults, IsOther, Lending, NotLent}
use Rattle.host_top.specs.Borrowed.{journal_in, loan_by, snap_in, snaps_below}
use Rattle.host_top.specs.Files.{IsLent, IsLentFrom, Lends, OutsideState, TakesDiskBack}
use Rattle.host_top.specs.Packed.{AreOldRows, IsNotPacked, IsPacked, Journals, LeavesBoth, Packs}
use Rattle.host_top.specs.Packed.{PacksFolders, PacksInto, PacksNew, PacksOver, SaysPackFault}
use Rattle.host_top.specs.Packed.{journal_loan, line_of}
use Rattle.host_top.specs.Said.{SaysLine}
use Rattle.host_top.specs.Status.{status_of_fetch}
use Rattle.host_top.specs.declared.loan.Loan.{Loan}
use Rattle.host_top.specs.declared.outside.Fetch.{Fetch}
use Rattle.host_top.specs.declared.outside.Fetch.TheVariants as fetch
use Rattle.host_top.specs.declared.status.Status.{Status}
use Rattle.host_top.specs.declared.status.Status.TheVariants as ends
use Rattle.host_top.proofs.BegunLemmas.{fetch_cause}
use Rattle.host_top.proofs.BorrowLemmas.{lent_loan, lent_one, loan_still, one_back, together}
use Rattle.host_top.proofs.BorrowLemmas.{same_name, turned_about}
use Rattle.host_top.proofs.InitLemmas.{all_named, counts_then}
use Rattle.host_top.proofs.LoansLemmas.{counts_one, counts_out, lent_nothing}
use Rattle.host_top.proofs.ReplayLemmas.{seen_unless}
use Rattle.host_top.proofs.NameLemmas.{name_of, snap_each, told_apart, two_digits}

-- ---- names of two folders

-- the journals of folders with other names have other names
pub other_journal : (old new : List ℕ) → bytes_eq old new ≡ false
    → bytes_eq (journal_in new) (journal_in old) ≡ false
other_journal old new other =
    turned_about (journal_in old) (journal_in new)
    (told_apart (journal_in old) (journal_in new) (λ e.
    absurd (not_same (append_cancel_right old new (codes "/journal") e))))
  where
    not_same : old ≡ new → ⊥
    not_same e = never (subst (λ (n : List ℕ). bytes_eq old n ≡ false) (sym e) other)
      where
        never : bytes_eq old old ≡ false → ⊥
        never isnt = absurd (grind (arith, sym (same_name old) ∙ isnt))

-- and no store has the name of a journal
pub no_store : (old new : List ℕ) (s : ℕ) → s < 64
    → bytes_eq (journal_in old) (snap_in new s) ≡ false
no_store old new s low =
    told_apart (journal_in old) (snap_in new s) (λ e.
    let last : 108 ≡ 48 + s % 10 =
    ap (λ (l : List ℕ). slice_index l 0)
    (sym (reverse-append old (codes "/journal")) ∙ ap reverse (e ∙ ended) ∙ reverse-append new
    (codes "/snap" ++ (48 + s / 10) ∷ (48 + s % 10) ∷ [])) in
    absurd (omega (arith, last)))
  where
    ended : snap_in new s ≡ new ++ (codes "/snap" ++ (48 + s / 10) ∷ (48 + s % 10) ∷ [])
    ended = name_of new s ∙ ap (λ (l : List ℕ). new ++ (codes "/snap" ++ l)) (two_digits s low)

pub no_stores : (old new : List ℕ)
    → Each (λ n. bytes_eq n (journal_in old) ≡ false) (snaps_below new 64)
no_stores old new =
    snap_each (λ n. bytes_eq n (journal_in old) ≡ false) new 64
    (λ t low. turned_about (journal_in old) (snap_in new t) (no_store old new t low))

-- ---- what a packing leaves

-- unless its disk failed the old journal reads as before
pub seen_unless_old : (why : PackFault) (T P : Type 0) (output after : SinkState)
    (status : Status) → SaysPackFault why output after status → (IsNoOldFault why → T → P)
    → T → (status ≡ ends.DiskFault) ⊎ P
seen_unless_old (fault.Old journal) T P output after status says seen told =
    seen_unless journal P output after status says (λ no. seen no told)
seen_unless_old fault.NotEmpty T P output after status says seen told = inr (seen tt told)
seen_unless_old (fault.New counts) T P output after status says seen told = inr (seen tt told)
seen_unless_old fault.NoMemory T P output after status says seen told = inr (seen tt told)

-- the counts of both disks' faults, as they were given and as they were put back
abbrev given_counted : {D : Type 0} → DiskWords D → Journals D → Counts
given_counted disks both =
    record { old = disks.faults both.old; new = disks.faults both.new }

abbrev now_counted : {D : Type 0} → DiskWords D → Journals D → Counts
now_counted disks both =
    record { old = disks.faults both.old_back; new = disks.faults both.new_back }

pub is_packed : {D : Type 0} (disks : DiskWords D) (both : Journals D) (rows : List Row)
    → AreOldRows disks both rows
    → (IsTrue (disks.tells both.new)
    → (disks.seen both.new ≡ [])
    × Only (closed_journal (packed rows)) (disks.may_leave both.new_back))
    → now_counted disks both ≡ given_counted disks both
    → (output after : SinkState) (status : Status)
    → SaysLine ends.Done (line_of rows) output after status
    → IsPacked disks both output after status
is_packed disks both rows are ends_so same output after status says = record {
  rows = rows;
  are = are;
  empty = λ told. (ends_so told).0;
  holds = λ told. (ends_so told).1;
  old_count = ap (λ (c : Counts). c.old) same;
  new_count = ap (λ (c : Counts). c.new) same;
  says = says;
}

-- ---- a packing behind a look at the new journal's disk

-- an empty file is no journal
nothing : (f : List ℕ) → f ≡ [] → IsRefused f
nothing f is = subst (λ (l : List ℕ). IsRefused l) (sym is) (short_refused [] (omega arith))

module _ {D : Type 0} (disks : DiskWords D) (given mid : D) (looks : IsLookedAt disks given mid)
    (images : IsTrue (disks.tells given) → NoneNew (disks.may_leave given) (disks.may_leave mid))
    (same : SameDisk disks given mid) where
  still_told : IsTrue (disks.tells given) → IsTrue (disks.tells mid)
  still_told told = subst (λ (b : Bool). IsTrue b) (sym same.telling) told

  module _ (empty : IsTrue (disks.tells given) → disks.seen given ≡ [])
      (seen : IsTrue (disks.tells given) → disks.seen mid ≡ disks.seen given)
      (faults : disks.faults mid ≡ disks.faults given) (old old_back back : D)
      (output after : SinkState) (status : Status) where
    abbrev at_mid : Journals D
    at_mid = record { old = old; old_back = old_back; new = mid; new_back = back }

    abbrev at_given : Journals D
    at_given = record { old = old; old_back = old_back; new = given; new_back = back }

    packed_from : IsPacked disks at_mid output after status
        → IsPacked disks at_given output after status
    packed_from p = record {
      rows = p.rows;
      are = p.are;
      empty = empty;
      holds = λ told. p.holds (still_told told);
      old_count = p.old_count;
      new_count = p.new_count ∙ faults;
      says = p.says;
    }

    refuses_from : (first : Told) (why : PackFault)
        → Refuses first (record { tells = disks.tells mid; bytes = disks.seen mid }) why
        → Refuses first (record { tells = disks.tells given; bytes = disks.seen given }) why
    refuses_from first (fault.Old journal) r = (r.0, r.1, empty)
    refuses_from first fault.NotEmpty r =
        λ told. subst (λ (l : List ℕ). 0 < length l) (seen told) (r (still_told told))
    refuses_from first (fault.New counts) r = tt
    refuses_from first fault.NoMemory r = empty

    cause_from : (why : PackFault)
        → HasPackCause (record { old = disks.faults old; new = disks.faults mid })
        (record { old = disks.faults old_back; new = disks.faults back }) why
        → HasPackCause (record { old = disks.faults old; new = disks.faults given })
        (record { old = disks.faults old_back; new = disks.faults back }) why
    cause_from (fault.Old journal) c = (c.0, c.1 ∙ faults)
    cause_from fault.NotEmpty c =
        c ∙ ap (λ (n : ℕ). record { old = disks.faults old; new = n }) faults
    cause_from (fault.New counts) c =
        (c.0, subst (λ (n : ℕ). IsFault counts n (disks.faults back)) faults c.1)
    cause_from fault.NoMemory c =
        c ∙ ap (λ (n : ℕ). record { old = disks.faults old; new = n }) faults

    looks_from : IsLookedAt disks mid back → IsLookedAt disks given back
    looks_from l = (
      l.0 ∙ looks.0,
      λ told.
          and_then disks given mid back (disks.may_leave given) (looks.1 told)
          (weaker disks mid back (disks.may_leave mid)
          (disks.may_leave given) (l.1 (still_told told)) (images told)),
    )

    not_packed_from : IsNotPacked disks at_mid output after status
        → IsNotPacked disks at_given output after status
    not_packed_from n = record {
      fault = n.fault;
      refuses = refuses_from _ n.fault n.refuses;
      cause = cause_from n.fault n.cause;
      looks = λ before. looks_from (n.looks before);
      says = n.says;
    }

    over_from : PacksOver disks at_mid output after status
        → PacksOver disks at_given output after status
    over_from over = record {
      looks = over.looks;
      seen = over.seen;
      meanwhile = λ told only.
          and_then disks given mid back _
          (weaker disks given mid (disks.may_leave given) _
          (looks.1 told) (λ c is. inl (nothing c (only c is))))
          (over.meanwhile (still_told told) (λ c is. only c (images told c is)));
      reaches = elim over.reaches [
        | inl none ↦ inl (none ∙ looks.0)
        | inr some ↦ inr (some.0, some.1, omega (arith, some.2, looks.0))
      ];
      does = elim over.does [
        | inl p ↦ inl (packed_from p)
        | inr n ↦ inr (not_packed_from n)
      ];
    }

    pub packs_over : (folder : List ℕ) (a b : OutsideState D)
        → MakesStores disks (snaps_below folder 64) a b
        → PacksOver disks at_mid output after status
        → (stores : List (Lending D)) × Packs disks folder at_given stores stores a b output after
        status
    packs_over folder a b made over = (
      made.stores,
      record {
        borrowed = made.borrowed;
        named = all_named disks folder made.stores made.names_are;
        tried = made.tried;
        later = made.counts.later;
        does =
            inl (
              made.counts,
              inl (
                over_from over,
                record { empty = empty; names = made.names_are; each = made.made },
              ),
            );
      },
    )

  module _ (folder : List ℕ) (old : D) (output : SinkState) where
    abbrev left : Journals D
    left = record { old = old; old_back = old; new = given; new_back = mid }

    pub packs_unmade : (a b : OutsideState D) (why : Fetch) (status : Status)
        → (IsTrue (disks.tells given) → disks.seen given ≡ [])
        → TriesStores disks (snaps_below folder 64) a b → status ≡ status_of_fetch why
        → (IsErrOf {T = Unit {0}} (Err why) fetch.Failed → Rose a.disk_faults b.disk_faults)
        → a.disk_faults ≤ b.disk_faults
        → (stores : List (Lending D)) × Packs disks folder left stores stores a b output output
        status
    packs_unmade a b why status empty tries is rose later = (
      tries.stores,
      record {
        borrowed = tries.borrowed;
        named = tries.named;
        tried = tries.tried;
        later = later;
        does =
            inr (
              record {
                empty = empty;
                looks = looks;
                cause = fetch_cause why status a b is rose;
                wrote = wrote_none output;
              },
              record { old = refl; new = looks },
            );
      },
    )

    packs_none : (a : OutsideState D) (after : SinkState) (status : Status)
        → IsNotPacked disks left output after status
        → (stores : List (Lending D)) × Packs disks folder left stores stores a a output after
        status
    packs_none a after status n = (
      [],
      record {
        borrowed = lent_nothing disks a a (λ other. (refl, refl));
        named = λ other away. tt;
        tried = tt;
        later = omega arith;
        does =
            inl (
              record { rose = tt; stays = λ none. refl; later = omega arith },
              inr (n, record { old = refl; new = looks }, refl),
            );
      },
    )

    pub packs_in_use : (a : OutsideState D) (after : SinkState) (status : Status)
        → (IsTrue (disks.tells given) → 0 < length (disks.seen given))
        → disks.faults mid ≡ disks.faults given
        → SaysLine ends.BadFolder not_empty output after status
        → (stores : List (Lending D)) × Packs disks folder left stores stores a a output after
        status
    packs_in_use a after status some faults says =
        packs_none a after status (record {
          fault = fault.NotEmpty;
          refuses = some;
          cause = ap (λ (n : ℕ). record { old = disks.faults old; new = n }) faults;
          looks = λ before. looks;
          says = says;
        })

    pub packs_failed : (a : OutsideState D) → disks.faults given ≤ disks.faults mid
        → Rises (disks.faults given) (disks.faults mid)
        → (stores : List (Lending D)) × Packs disks folder left stores stores a a output output
        ends.DiskFault
    packs_failed a later rose =
        packs_none a output ends.DiskFault (record {
          fault = fault.New (record { from = disks.faults given; to = disks.faults mid });
          refuses = tt;
          cause = (
            refl,
            record { at_start = refl; at_end = refl; no_lower = later; rose = rose },
          );
          looks = λ before. looks;
          says = (refl, wrote_none output);
        })

-- ---- a journal's disk is lent before, and put back behind

module _ {D : Type 0} (disks : DiskWords D) where
  abbrev out : List ℕ → D → Lending D
  out name given = record { name = name; given = given; back = None }

  module _ (name : List ℕ) (given back : D) (o a b beyond : OutsideState D)
      (lends : Lends disks name given o a)
      (lent : IsTrue (disks.tells given)
      → IsLentFrom disks (o.disk name) given) (same : SameDisk disks given back)
      (takes : TakesDiskBack disks.faults name back b beyond) (ls : List (Lending D))
      (borrowed : Borrowed disks a b ls) (far : Each (IsOther name) ls) where
    abbrev around : List (Lending D)
    around = record { name = name; given = given; back = Some back } ∷ ls

    both_lent : Borrowed disks o b (out name given ∷ ls)
    both_lent =
        together disks o a b (out name given ∷ []) ls (lent_one disks name given o a lends lent)
        borrowed (far, tt)

    loan_there : b.loan name ≡ Some (loan_by disks (out name given))
    loan_there = both_lent.each.0.loan

    pub around_borrowed : Borrowed disks o beyond around
    around_borrowed = one_back disks o b beyond [] (out name given) ls back both_lent tt far takes same

    pub around_counted : CountsFaults disks a b ls → CountsFaults disks o beyond around
    around_counted counts =
        counts_one disks o b beyond [] (out name given) ls back
        (counts_then disks o a b (out name given ∷ []) ls
        (counts_out disks o a (out name given ∷ []) (refl, tt) lends.count) counts) refl
        loan_there takes

    pub around_later : b.disk_faults ≤ beyond.disk_faults
    around_later =
        (counts_one disks b b beyond [] (out name given) [] back
        (counts_out disks b b (out name given ∷ []) (refl, tt) refl) refl loan_there takes).later

    pub around_cause : (status : Status)
        → (status ≡ ends.DiskFault) × Rose a.disk_faults b.disk_faults ⊎ (status ≡ ends.NoMemory)
        → (status ≡ ends.DiskFault) × Rose o.disk_faults beyond.disk_faults
        ⊎ (status ≡ ends.NoMemory)
    around_cause status (inl failed) =
        let up = around_later in inl (failed.0, omega (arith, failed.1, up, lends.count))
    around_cause status (inr wanted) = inr wanted

  pub packs_around : (name : List ℕ) (given back : D) (o a b beyond : OutsideState D)
      (folder : List ℕ) (both : Journals D) (stores lent : List (Lending D))
      (output after : SinkState) (status : Status)
      → Lends disks name given o a
      → (IsTrue (disks.tells given) → IsLentFrom disks (o.disk name) given)
      → SameDisk disks given back → TakesDiskBack disks.faults name back b beyond
      → Each (IsOther name) lent
      → Packs disks folder both stores lent a b output after status
      → Packs disks folder both stores
      (record { name = name; given = given; back = Some back } ∷ lent) o beyond output after status
  packs_around name given back o a b beyond folder both stores lent output after status lends from
      same takes far p =
      let up = around_later name given back o a b beyond lends from same takes lent p.borrowed far
      in
      record {
        borrowed =
            around_borrowed name given back o a b beyond lends from same takes lent p.borrowed far;
        named = p.named;
        tried = p.tried;
        later = omega (arith, lends.count, p.later, up);
        does = elim p.does [
          | inl done ↦ inl (
            around_counted name given back o a b beyond lends from same takes lent p.borrowed far
                done.0,
            done.1,
          )
          | inr u ↦ inr (
            record {
              empty = u.0.empty;
              looks = u.0.looks;
              cause =
                  around_cause name given back o a b beyond lends from same takes lent p.borrowed
                  far status u.0.cause;
              wrote = u.0.wrote;
            },
            u.1,
          )
        ];
      }

  -- the new folder's journal
  pub new_around : (folder first second : List ℕ) (old old_back given back : D)
      (o a b beyond : OutsideState D) (output after : SinkState) (status : Status)
      → first ≡ journal_in folder → second ≡ journal_in folder
      → Lends disks first given o a
      → (IsTrue (disks.tells given) → IsLentFrom disks (o.disk first) given)
      → SameDisk disks given back → (stores : List (Lending D)) × Packs disks folder
      (record { old = old; old_back = old_back; new = given; new_back = back }) stores stores a b
      output after status
      → TakesDiskBack disks.faults second back b beyond
      → PacksInto disks folder old old_back o beyond output after status
  new_around folder first second old old_back given back o a b beyond output after status is again
      lends lent same packs takes = record {
        new = given;
        new_back = back;
        stores = packs.0;
        packs =
            packs_around (journal_in folder) given back o a b beyond folder _ packs.0 packs.0 output
            after status
            (subst (λ (n : List ℕ). Lends disks n given o a) is lends)
            (subst (λ (n : List ℕ). IsTrue (disks.tells given)
            → IsLentFrom disks (o.disk n) given) is lent)
            same (subst (λ (n : List ℕ). TakesDiskBack disks.faults n back b beyond) again takes)
            (packs.1.named (journal_in folder) (no_stores folder folder)) packs.1;
      }

  -- a disk that was lent, while others were, may be put back
  pub put_there : (name second : List ℕ) (given back : D) (o a b : OutsideState D)
      (ls : List (Lending D)) → second ≡ name
      → Lends disks name given o a
      → (IsTrue (disks.tells given) → IsLentFrom disks (o.disk name) given)
      → SameDisk disks given back → Borrowed disks a b ls → Each (IsOther name) ls
      → IsLent (b.loan second) (disks.label back)
  put_there name second given back o a b ls again lends lent same borrowed far =
      subst (λ (n : List ℕ). IsLent (b.loan n) (disks.label back)) (sym again)
      (loan_still disks o b [] (out name given) ls back
      (together disks o a b (out name given ∷ []) ls (lent_one disks name given o a lends lent)
      borrowed (far, tt)) refl same)

  -- so it may be put back
  pub new_lent : (folder first second : List ℕ) (old old_back given back : D)
      (o a b : OutsideState D) (output after : SinkState) (status : Status)
      → first ≡ journal_in folder → second ≡ journal_in folder
      → Lends disks first given o a
      → (IsTrue (disks.tells given) → IsLentFrom disks (o.disk first) given)
      → SameDisk disks given back → (stores : List (Lending D)) × Packs disks folder
      (record { old = old; old_back = old_back; new = given; new_back = back }) stores stores a b
      output after status
      → IsLent (b.loan second) (disks.label back)
  new_lent folder first second old old_back given back o a b output after status is again lends
      lent same packs =
      put_there (journal_in folder) second given back o a b packs.0 again
      (subst (λ (n : List ℕ). Lends disks n given o a) is lends)
      (subst (λ (n : List ℕ). IsTrue (disks.tells given)
      → IsLentFrom disks (o.disk n) given) is lent)
      same packs.1.borrowed (packs.1.named (journal_in folder) (no_stores folder folder))

  -- ---- the old folder's journal, around all that

  -- the disks of the new folder that were lent, and that the old journal's isn't among them
  pub lent_new : (folder : List ℕ) (old old_back : D) (a b : OutsideState D) (input : SourceState)
      (output after : SinkState) (status : Status) (name : List ℕ)
      → bytes_eq (journal_in folder) name ≡ false
      → Each (λ n. bytes_eq n name ≡ false) (snaps_below folder 64)
      → PacksNew disks folder old old_back a b input output after status
      → (ls : List (Lending D)) × Borrowed disks a b ls × Each (IsOther name) ls
  lent_new folder old old_back a b input output after status name apart stores (inl none) =
      (none.0.loans, none.0.borrowed, none.0.named name (apart, tt))
  lent_new folder old old_back a b input output after status name apart stores (inr into) = (
    journal_loan folder into.new into.new_back ∷ into.stores,
    into.packs.borrowed,
    (apart, into.packs.named name stores),
  )

  pub old_lent : (from folder first second : List ℕ) (given back : D) (o a b : OutsideState D)
      (input : SourceState) (output after : SinkState) (status : Status)
      → bytes_eq from folder ≡ false
      → first ≡ journal_in from → second ≡ journal_in from
      → Lends disks first given o a
      → (IsTrue (disks.tells given) → IsLentFrom disks (o.disk first) given)
      → SameDisk disks given back → PacksNew disks folder given back a b input output after status
      → IsLent (b.loan second) (disks.label back)
  old_lent from folder first second given back o a b input output after status other is again lends
      lent same packs =
      let ls =
      lent_new folder given back a b input output after status (journal_in from)
      (other_journal from folder other) (no_stores from folder) packs in
      put_there (journal_in from) second given back o a b ls.0 again
      (subst (λ (n : List ℕ). Lends disks n given o a) is lends)
      (subst (λ (n : List ℕ). IsTrue (disks.tells given)
      → IsLentFrom disks (o.disk n) given) is lent) same ls.1 ls.2

  pub old_around : (from folder first second : List ℕ) (given back : D)
      (o a b beyond : OutsideState D) (input : SourceState) (output after : SinkState)
      (status : Status) → bytes_eq from folder ≡ false
      → first ≡ journal_in from → second ≡ journal_in from
      → Lends disks first given o a
      → (IsTrue (disks.tells given) → IsLentFrom disks (o.disk first) given)
      → SameDisk disks given back → PacksNew disks folder given back a b input output after status
      → TakesDiskBack disks.faults second back b beyond
      → NotLent disks (journal_in from ∷ journal_in folder ∷ []) o beyond input input output after
      status
      ⊎ PacksFolders disks from folder o beyond input input output after status
  old_around from folder first second given back o a b beyond input output after status other is
      again lends lent same (inl none) takes =
      let name = journal_in from in
      let lends' = subst (λ (n : List ℕ). Lends disks n given o a) is lends in
      let lent' =
      subst (λ (n : List ℕ). IsTrue (disks.tells given)
      → IsLentFrom disks (o.disk n) given) is lent in
      let takes' = subst (λ (n : List ℕ). TakesDiskBack disks.faults n back b beyond) again takes in
      let far = none.0.named name (other_journal from folder other, tt) in
      inl (record {
        cause =
            around_cause name given back o a b beyond lends' lent' same takes' none.0.loans
            none.0.borrowed far status none.0.cause;
        gave = none.0.gave;
        wrote = none.0.wrote;
        loans = record { name = name; given = given; back = Some back } ∷ none.0.loans;
        named = λ n away. (away.0, none.0.named n away.1);
        given = (ap (λ (d : D). Some d) none.1, none.0.given);
        borrowed =
            around_borrowed name given back o a b beyond lends' lent' same takes' none.0.loans
            none.0.borrowed far;
      })
  old_around from folder first second given back o a b beyond input output after status other is
      again lends lent same (inr into) takes =
      inr (record {
        both = record {
          old = given;
          old_back = back;
          new = into.new;
          new_back = into.new_back;
        };
        stores = into.stores;
        packs =
            packs_around (journal_in from) given back o a b beyond folder _ into.stores _ output
            after status
            (subst (λ (n : List ℕ). Lends disks n given o a) is lends)
            (subst (λ (n : List ℕ). IsTrue (disks.tells given)
            → IsLentFrom disks (o.disk n) given) is lent)
            same (subst (λ (n : List ℕ). TakesDiskBack disks.faults n back b beyond) again takes) (
              other_journal from folder other,
              into.packs.named (journal_in from)
                  (no_stores from folder),
            ) into.packs;
        gave = gave_none input;
      })
