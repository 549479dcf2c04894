-- The journal of a new folder is begun, behind its stores.
use Rattle.std.proofs.Common.{◌≡◌, ◌⊎◌, inl, inr, ℕ, ◌<◌, ◌≤◌, List, [], ◌∷◌, length}
use Rattle.std.proofs.Common.{arith, refl, sym, ap, ◌∙◌, subst, Option, None, Some, Bool}
use Rattle.std.proofs.Common.{false, IsTrue, Err, IsErrOf}
use Rattle.std.specs.Str.{bytes_eq}
use Rattle.disk_model.specs.Disk.{Rose as Rises}
use Rattle.disk_model.specs.Work.{SameDisk}
use Rattle.gate_journal.specs.Faults.{HasInitCause, IsFault}
use Rattle.gate_journal.specs.declared.fault.InitFault.{InitFault}
use Rattle.gate_journal.specs.declared.fault.InitFault.TheVariants as fault
use Rattle.line_talk.specs.Causes.{Rose}
use Rattle.line_talk.specs.Streams.{SourceState, SinkState}
use Rattle.line_talk.proofs.StreamsLemmas.{gave_none, wrote_none}
use Rattle.turn_cell.specs.History.{Each}
use Rattle.host_top.specs.Begun.{Begun, Inits, InitsFolder, InitsOver, IsLookedAt, LooksOnly}
use Rattle.host_top.specs.Begun.{MakesAll, MakesStores, NotBegun, SaysRefusal, TriesStores, Unmade}
use Rattle.host_top.specs.Borrowed.{AreNamed, Borrowed, CountsFaults, IsOther, Lending}
use Rattle.host_top.specs.Borrowed.{NotLent, journal_in, loan_by, snap_in, snaps_below}
use Rattle.disk_model.specs.declared.disk.Disk.{Ghosts as DiskWords}
use Rattle.host_top.specs.Files.{IsLent, IsLentFrom, Lends, OutsideState, TakesDiskBack}
use Rattle.host_top.specs.declared.loan.Loan.{Loan}
use Rattle.host_top.specs.Status.{status_of_fetch}
use Rattle.host_top.specs.declared.outside.Fetch.{Fetch}
use Rattle.host_top.specs.declared.outside.Fetch.TheVariants as fetch
use Rattle.host_top.specs.declared.status.Status.{Status}
use Rattle.host_top.specs.declared.status.Status.TheVariants as ends
use Rattle.host_top.proofs.BorrowLemmas.{out_still}
use Rattle.host_top.proofs.LoansLemmas.{counts_one, counts_out, lent_nothing}
use Rattle.host_top.proofs.BorrowLemmas.{lent_one, one_back, together, turned_about}
use Rattle.host_top.proofs.NameLemmas.{each_snap, journal_apart, snap_each}
use Rattle.host_top.proofs.InitLemmas.{counts_then, all_named}

-- ---- the journal, behind a look at its disk

module _ {D : Type 0} (disks : DiskWords D) (given mid : D) (looks : IsLookedAt disks given mid)
    (same : SameDisk disks given mid) where
  still_told : IsTrue (disks.tells given) → IsTrue (disks.tells mid)
  still_told told = subst (λ (b : Bool). IsTrue b) (sym same.telling) told

  module _ (empty : IsTrue (disks.tells given) → disks.seen given ≡ [])
      (seen : IsTrue (disks.tells given) → disks.seen mid ≡ disks.seen given)
      (faults : disks.faults mid ≡ disks.faults given) (back : D) (output new : SinkState)
      (status : Status) where
    begun_from : Begun disks mid back output new status → Begun disks given back output new status
    begun_from b = record {
      empty = empty;
      holds = λ told. b.holds (still_told told);
      count = b.count ∙ faults;
      says = b.says;
    }

    cause_from : (why : InitFault)
        → HasInitCause (disks.tells mid) (disks.seen mid) (disks.faults mid) (disks.faults back) why
        → HasInitCause (disks.tells given) (disks.seen given) (disks.faults given)
        (disks.faults back) why
    cause_from fault.NotEmpty c = (
      (λ told. subst (λ (s : List ℕ). 0 < length s) (seen told) (c.0 (still_told told))),
      c.1
          ∙ faults,
    )
    cause_from (fault.DiskFault f) c = subst (λ (n : ℕ). IsFault f n (disks.faults back)) faults c

    looks_from : (why : InitFault)
        → HasInitCause (disks.tells mid) (disks.seen mid) (disks.faults mid) (disks.faults back) why
        → LooksOnly disks mid back why → LooksOnly disks given back why
    looks_from fault.NotEmpty c l = (
      l.0 ∙ looks.0,
      λ told. let some : 0 < length (disks.seen mid) =
          c.0 (still_told told) in absurd (omega (arith, some, ap length (seen told ∙ empty told))),
    )
    looks_from (fault.DiskFault f) c l = tt

    not_begun_from : NotBegun disks mid back output new status
        → NotBegun disks given back output new status
    not_begun_from n = record {
      fault = n.fault;
      cause = cause_from n.fault n.cause;
      looks = looks_from n.fault n.cause n.looks;
      says = n.says;
    }

    pub inits_over : (folder : List ℕ) (a b : OutsideState D)
        → MakesStores disks (snaps_below folder 64) a b → InitsOver disks mid back output new status
        → (stores : List (Lending D)) × Inits disks folder given back stores stores a b output new
        status
    inits_over folder a b made over =
        let all : MakesAll disks folder given made.stores =
        record { empty = empty; names = made.names_are; each = made.made } in (
          made.stores,
          record {
            borrowed = made.borrowed;
            named = all_named disks folder made.stores made.names_are;
            tried = made.tried;
            reaches = omega (arith, over.reaches, looks.0);
            later = made.counts.later;
            does = inl (
              made.counts,
              elim over.does [
                | inl begun ↦ inl (begun_from begun, all)
                | inr not ↦ inr (not_begun_from not, inr all)
              ],
            );
          },
        )

  unmade_so : (why : Fetch) (status : Status) (a b : OutsideState D) → status ≡ status_of_fetch why
      → (IsErrOf {T = Unit {0}} (Err why) fetch.Failed → Rose a.disk_faults b.disk_faults)
      → (status ≡ ends.DiskFault) × Rose a.disk_faults b.disk_faults ⊎ (status ≡ ends.NoMemory)
  unmade_so fetch.Failed status a b is rose = inl (is, rose refl)
  unmade_so fetch.NoMemory status a b is rose = inr is

  pub inits_unmade : (folder : List ℕ) (a b : OutsideState D) (output : SinkState) (why : Fetch)
      (status : Status) → (IsTrue (disks.tells given) → disks.seen given ≡ [])
      → TriesStores disks (snaps_below folder 64) a b → status ≡ status_of_fetch why
      → (IsErrOf {T = Unit {0}} (Err why) fetch.Failed → Rose a.disk_faults b.disk_faults)
      → a.disk_faults ≤ b.disk_faults
      → (stores : List (Lending D)) × Inits disks folder given mid stores stores a b output output
      status
  inits_unmade folder a b output why status empty tries is rose later = (
    tries.stores,
    record {
      borrowed = tries.borrowed;
      named = tries.named;
      tried = tries.tried;
      reaches = omega (arith, looks.0);
      later = later;
      does =
          inr (record {
            empty = empty;
            looks = looks;
            cause = unmade_so why status a b is rose;
            wrote = wrote_none output;
          });
    },
  )

  none_named : (names : List (List ℕ)) → AreNamed {D = D} names []
  none_named names other away = tt

  not_begun_alone : (folder : List ℕ) (a : OutsideState D) (output new : SinkState)
      (status : Status) → NotBegun disks given mid output new status
      → (stores : List (Lending D)) × Inits disks folder given mid stores stores a a output new
      status
  not_begun_alone folder a output new status n = (
    [],
    record {
      borrowed = lent_nothing disks a a (λ other. (refl, refl));
      named = none_named (snaps_below folder 64);
      tried = tt;
      reaches = omega (arith, looks.0);
      later = omega arith;
      does =
          inl (record { rose = tt; stays = λ none. refl; later = omega arith }, inr (n, inl refl));
    },
  )

  pub inits_in_use : (folder : List ℕ) (a : OutsideState D) (output new : SinkState)
      (status : Status) → (IsTrue (disks.tells given) → 0 < length (disks.seen given))
      → disks.faults mid ≡ disks.faults given → SaysRefusal fault.NotEmpty output new status
      → (stores : List (Lending D)) × Inits disks folder given mid stores stores a a output new
      status
  inits_in_use folder a output new status some faults says =
      not_begun_alone folder a output new status
      (record { fault = fault.NotEmpty; cause = (some, faults); looks = looks; says = says })

  pub inits_failed : (folder : List ℕ) (a : OutsideState D) (output : SinkState)
      → disks.faults given ≤ disks.faults mid → Rises (disks.faults given) (disks.faults mid)
      → (stores : List (Lending D)) × Inits disks folder given mid stores stores a a output output
      ends.DiskFault
  inits_failed folder a output later rose =
      not_begun_alone folder a output output ends.DiskFault (record {
        fault = fault.DiskFault (record { from = disks.faults given; to = disks.faults mid });
        cause = record { at_start = refl; at_end = refl; no_lower = later; rose = rose };
        looks = tt;
        says = (refl, wrote_none output);
      })

-- ---- the journal's disk is lent before, and put back behind

module _ {D : Type 0} (disks : DiskWords D) where
  pub folder_inits : (folder first second : List ℕ) (given back : D) (o a b beyond : OutsideState D)
      (input : SourceState) (output new : SinkState) (status : Status)
      → first ≡ journal_in folder → second ≡ journal_in folder
      → Lends disks first given o a
      → (IsTrue (disks.tells given) → IsLentFrom disks (o.disk first) given)
      → SameDisk disks given back
      → (stores : List (Lending D)) × Inits disks folder given back stores stores a b output new
      status → TakesDiskBack disks.faults second back b beyond
      → InitsFolder disks folder o beyond input input output new status
  folder_inits folder first second given back o a b beyond input output new status is again lends
      lent same init takes =
      let name : List ℕ = journal_in folder in
      let lends' = subst (λ (n : List ℕ). Lends disks n given o a) is lends in
      let lent' =
      subst (λ (n : List ℕ). IsTrue (disks.tells given)
      → IsLentFrom disks (o.disk n) given) is lent in
      let takes' = subst (λ (n : List ℕ). TakesDiskBack disks.faults n back b beyond) again takes in
      let stores : List (Lending D) = init.0 in
      let i : Inits disks folder given back stores stores a b output new status = init.1 in
      let l : Lending D = record { name = name; given = given; back = None } in
      let far : Each (IsOther name) stores =
      i.named name (snap_each (λ n. bytes_eq n name ≡ false) folder 64
      (λ t low. turned_about name (snap_in folder t)
      (each_snap (λ n. bytes_eq name n ≡ false) folder 64 t (journal_apart folder 64) low))) in
      let both : Borrowed disks o b (l ∷ stores) =
      together disks o a b (l ∷ []) stores (lent_one disks name given o a lends' lent')
      i.borrowed (far, tt) in
      record {
        given = given;
        back = back;
        stores = stores;
        inits = record {
          borrowed = one_back disks o b beyond [] l stores back both tt far takes' same;
          named = i.named;
          tried = i.tried;
          reaches = i.reaches;
          later = later_so lends' i takes' (both.each.0.loan);
          does = does_so lends' i takes' (both.each.0.loan);
        };
        gave = gave_none input;
      }
    where
      counted : (stores : List (Lending D))
          → Lends disks (journal_in folder) given o a → CountsFaults disks a b stores
          → TakesDiskBack disks.faults (journal_in folder) back b beyond
          → b.loan (journal_in folder) ≡ Some
          (loan_by disks (record { name = journal_in folder; given = given; back = None }))
          → CountsFaults disks o beyond (record {
            name = journal_in folder;
            given = given;
            back = Some back;
          } ∷ stores)
      counted stores lends counts takes loan =
          let l : Lending D = record { name = journal_in folder; given = given; back = None } in
          counts_one disks o b beyond [] l stores back
          (counts_then disks o a b (l ∷ []) stores
          (counts_out disks o a (l ∷ []) (refl, tt) lends.count) counts) refl loan takes

      rises : Lends disks (journal_in folder) given o a
          → TakesDiskBack disks.faults (journal_in folder) back b beyond
          → b.loan (journal_in folder) ≡ Some
          (loan_by disks (record { name = journal_in folder; given = given; back = None }))
          → b.disk_faults ≤ beyond.disk_faults
      rises lends takes loan =
          let l : Lending D = record { name = journal_in folder; given = given; back = None } in
          let c =
          counts_one disks b b beyond [] l [] back
          (counts_out disks b b (l ∷ []) (refl, tt) refl) refl loan takes in c.later

      later_so : {stores : List (Lending D)}
          → Lends disks (journal_in folder) given o a
          → Inits disks folder given back stores stores a b output new status
          → TakesDiskBack disks.faults (journal_in folder) back b beyond
          → b.loan (journal_in folder) ≡ Some
          (loan_by disks (record { name = journal_in folder; given = given; back = None }))
          → o.disk_faults ≤ beyond.disk_faults
      later_so lends i takes loan = let up =
          rises lends takes loan in omega (arith, lends.count, i.later, up)

      cause_so : Lends disks (journal_in folder) given o a
          → TakesDiskBack disks.faults (journal_in folder) back b beyond
          → b.loan (journal_in folder) ≡ Some
          (loan_by disks (record { name = journal_in folder; given = given; back = None }))
          → (status ≡ ends.DiskFault) × Rose a.disk_faults b.disk_faults ⊎ (status ≡ ends.NoMemory)
          → (status ≡ ends.DiskFault) × Rose o.disk_faults beyond.disk_faults
          ⊎ (status ≡ ends.NoMemory)
      cause_so lends takes loan (inl failed) = let up =
          rises lends takes loan in inl (failed.0, omega (arith, failed.1, up, lends.count))
      cause_so lends takes loan (inr wanted) = inr wanted

      does_so : {stores : List (Lending D)}
          → Lends disks (journal_in folder) given o a
          → Inits disks folder given back stores stores a b output new status
          → TakesDiskBack disks.faults (journal_in folder) back b beyond
          → b.loan (journal_in folder) ≡ Some
          (loan_by disks (record { name = journal_in folder; given = given; back = None }))
          → CountsFaults disks o beyond (record {
            name = journal_in folder;
            given = given;
            back = Some back;
          } ∷ stores)
          × (Begun disks given back output new status × MakesAll disks folder given stores
          ⊎ NotBegun disks given back output new status
          × ((stores ≡ []) ⊎ MakesAll disks folder given stores))
          ⊎ Unmade disks given back o beyond output new status
      does_so {stores} lends i takes loan = elim i.does [
        | inl done ↦ inl (counted stores lends done.0 takes loan, done.1)
        | inr u ↦ inr (record {
          empty = u.empty;
          looks = u.looks;
          cause = cause_so lends takes loan u.cause;
          wrote = u.wrote;
        })
      ]

  -- it is out while the stores' disks are lent and put back
  pub journal_out : (folder : List ℕ) (given : D) (o a b : OutsideState D)
      (stores : List (Lending D))
      → Lends disks (journal_in folder) given o a
      → AreNamed (snaps_below folder 64) stores → Borrowed disks a b stores
      → b.loan (journal_in folder)
      ≡ Some
      (loan_by disks (record { name = journal_in folder; given = given; back = None }))
  journal_out folder given o a b stores lends named borrowed =
      let name : List ℕ = journal_in folder in
      out_still disks name given o a b stores lends borrowed
      (named name (snap_each (λ n. bytes_eq n name ≡ false) folder 64
      (λ t low. turned_about name (snap_in folder t)
      (each_snap (λ n. bytes_eq name n ≡ false) folder 64 t (journal_apart folder 64) low))))

  pub folder_lent : (folder first second : List ℕ) (given back : D) (o a b : OutsideState D)
      (output new : SinkState) (status : Status)
      → first ≡ journal_in folder → second ≡ journal_in folder
      → Lends disks first given o a → SameDisk disks given back
      → (stores : List (Lending D)) × Inits disks folder given back stores stores a b output new
      status → IsLent (b.loan second) (disks.label back)
  folder_lent folder first second given back o a b output new status is again lends same init =
      subst (λ (n : List ℕ). IsLent (b.loan n) (disks.label back)) (sym again)
      (subst (λ (x : Option Loan). IsLent x (disks.label back))
      (sym (journal_out folder given o a b init.0
      (subst (λ (n : List ℕ). Lends disks n given o a) is lends)
      init.1.named init.1.borrowed)) (sym same.name, refl))

  pub no_folder : (names : List (List ℕ)) (outside beyond : OutsideState D) (input : SourceState)
      (output : SinkState) (status : Status)
      → ((other : List ℕ) → (beyond.disk other ≡ outside.disk other)
      × (beyond.loan other ≡ outside.loan other))
      → (status ≡ ends.DiskFault) × Rose outside.disk_faults beyond.disk_faults
      ⊎ (status ≡ ends.NoMemory) → NotLent disks names outside beyond input input output output
      status
  no_folder names outside beyond input output status same cause = record {
    cause = cause;
    gave = gave_none input;
    wrote = wrote_none output;
    loans = [];
    named = λ other away. tt;
    given = tt;
    borrowed = lent_nothing disks outside beyond same;
  }

pub fetch_cause : {D T : Type 0} (why : Fetch) (status : Status) (a b : OutsideState D)
    → status ≡ status_of_fetch why
    → (IsErrOf {T = T} (Err why) fetch.Failed → Rose a.disk_faults b.disk_faults)
    → (status ≡ ends.DiskFault) × Rose a.disk_faults b.disk_faults ⊎ (status ≡ ends.NoMemory)
fetch_cause fetch.Failed status a b is rose = inl (is, rose refl)
fetch_cause fetch.NoMemory status a b is rose = inr is
