-- What `pipe` leaves of its disk, its input and its output, from what its host says as it is
-- opened, serves and ends.
use Rattle.std.proofs.Common.{◌≡◌, ◌⊎◌, ℕ, ◌+◌, ◌<◌, ◌≤◌, max, List, [], ◌∷◌, ◌++◌, length, map}
use Rattle.std.proofs.Common.{take, drop, IfSome, sym, ap, ◌∙◌, subst, Bool, IsTrue, arith}
use Rattle.std.proofs.lemmas.List.{length-map}
use Rattle.std.proofs.Math.Seq.{take-append_seam}
use Rattle.std.proofs.lemmas.Option.{same_Some}
use Rattle.std.specs.Prelude.{Some, slice_get}
use Rattle.disk_model.specs.Work.{EachImage, LeavesOnly, SameDisk}
use Rattle.disk_model.proofs.Moments.{and_then, weaker}
use Rattle.gate_journal.specs.Log.{IsBetween, IsSinceOpened, Log, MayOpen, MaySpell, Opening, Rises}
use Rattle.gate_journal.specs.Log.{EndsInFaultOf, InTurn, rows_kept, rows_found, rows_of}
use Rattle.gate_journal.proofs.LogLemmas.{rows_of-all}
use Rattle.gate_journal.proofs.SinceLemmas.{rows_of-append}
use Rattle.gate_journal.specs.Rows.{SpellsRows, IsJournal, journal_bytes}
use Rattle.gate_journal.specs.declared.entry.Entry.{Entry as JournalEntry}
use Rattle.gate_journal.specs.declared.row.Row.{Row}
use Rattle.host_serve.specs.Chain.{AnswersInOrder}
use Rattle.host_serve.specs.Ending.{AreAgreedDisks, EndsWith, GivesBack, KeepFiles, KeepsFileOf}
use Rattle.host_serve.specs.Hosts.{IsSound, rows_at_opening, opened_stores}
use Rattle.host_serve.specs.Holders.{Holder, holder_at, holders, seen_at, seens}
use Rattle.host_serve.specs.Opening.{AreAgreed, IsOpenedHost, IsStoreOf, histories_in_rows, roots}
use Rattle.snap_store.specs.Store.{Snapshots}
use Rattle.std.specs.List.{AllZip}
use Rattle.host_serve.specs.declared.host.Host.{Host}
use Rattle.host_serve.specs.declared.host.Passes.{Passes}
use Rattle.line_talk.specs.declared.ended.Ended.{Ended}
use Rattle.line_talk.specs.Streams.{SourceState, SinkState}
use Rattle.session_core.specs.Turning.{commands_in}
use Rattle.session_core.specs.declared.entry.Entry.{Entry}
use Rattle.session_desk.specs.Shared.{unnumbered}
use Rattle.session_desk.specs.Turn.{history_in}
use Rattle.session_desk.proofs.HistoryLemmas.{commands_in-history}
use Rattle.story_run.specs.declared.story.Story.{Story}
use Rattle.host_top.specs.Between.{ServesBetween}
use Rattle.disk_model.specs.declared.disk.Disk.{Ghosts as DiskWords}
use Rattle.host_top.specs.Folder.{AreSame}
use Rattle.host_top.specs.JournalBack.{JournalBack}
use Rattle.host_top.specs.Piped.{Conversed, IsStoreBack, StoresBack, StaysSound}
use Rattle.session_saves.specs.Agreement.{AgreesWithBeginning}
use Rattle.session_saves.specs.Saves.{HasOpenSince}
use Rattle.host_serve.proofs.StoreLemmas.{slot_since, zip_at}
use Rattle.host_serve.proofs.AloneLemmas.{AreOwn, alone_there, many_histories, own_all, own_rows}
use Rattle.host_top.proofs.MeetLemmas.{led_all, led_alone}

-- what the end of a host says of the disks that it hands back
abbrev pub EndsOn : {D : Type 0} → DiskWords D → Host D → Passes D → D → List D → Type 0
EndsOn {D} disks host passes back backs =
    (log : Log D) × (back ≡ log.disk) × EndsWith host passes log
    × IsJournal (rows_of log.entries)
    × EachImage disks back (MaySpell (rows_of log.entries) log.uncertain)
    × EachImage disks back (MayOpen (rows_of log.entries))
    × Rises (disks.faults log.opening.disk) log.entries (disks.faults back)
    × IsSinceOpened disks log
    × (IsSound disks host → AreAgreedDisks disks host.stories.now (rows_of log.entries) backs)
    × (IsSound disks host → KeepFiles disks host.stories.now (rows_at_opening host)
    (rows_of log.entries) (opened_stores host) backs)

-- the journal of a host that was opened had these rows then
pub opened_rows : {D : Type 0} (stories : List Story) (budget : ℕ) (rows : List Row)
    (opening : Opening D) (host : Host D) (first : Passes D)
    → IsOpenedHost stories budget rows opening host first → rows_at_opening host ≡ rows
opened_rows stories budget rows opening host first opened =
    ap rows_of opened.begins ∙ rows_of-all rows

module _ {D : Type 0} (disks : DiskWords D) where
  pub same_zip : (gs : List D) (ss : List (Snapshots D)) (bs : List D)
      → AllZip (IsStoreOf disks) gs ss → AllZip (GivesBack disks) ss bs → AreSame disks gs bs
  same_zip [] [] [] of gives = tt
  same_zip [] [] (b ∷ bs) of gives = absurd gives
  same_zip [] (s ∷ ss) bs of gives = absurd of
  same_zip (g ∷ gs) [] bs of gives = absurd of
  same_zip (g ∷ gs) (s ∷ ss) [] of gives = absurd gives
  same_zip (g ∷ gs) (s ∷ ss) (b ∷ bs) of gives = (
    record {
      telling = gives.0.same.telling ∙ of.0.kept.same.telling;
      size = gives.0.same.size ∙ of.0.kept.same.size;
      name = gives.0.same.name ∙ of.0.kept.same.name;
    },
    same_zip gs ss bs of.1 gives.1,
  )

  pub back_zip : (gs : List D) (ss : List (Snapshots D)) (bs : List D)
      → AllZip (IsStoreOf disks) gs ss → AllZip (GivesBack disks) ss bs
      → AllZip (IsStoreBack disks) gs bs
  back_zip [] [] [] of gives = tt
  back_zip [] [] (b ∷ bs) of gives = absurd gives
  back_zip [] (s ∷ ss) bs of gives = absurd of
  back_zip (g ∷ gs) [] bs of gives = absurd of
  back_zip (g ∷ gs) (s ∷ ss) [] of gives = absurd gives
  back_zip (g ∷ gs) (s ∷ ss) (b ∷ bs) of gives = (
    record {
      counts = omega (arith, of.0.counts, gives.0.counts);
      reaches = omega (arith, of.0.kept.asked, gives.0.reaches);
    },
    back_zip gs ss bs of.1 gives.1,
  )

module _ {D : Type 0} (disks : DiskWords D) (given back : D) (givens backs : List D)
    (stories : List Story) (budget : ℕ) (rows : List Row) (host : Host D) (first last : Passes D)
    (opened : IsOpenedHost stories budget rows (record { disk = given; found = length rows }) host
    first)
    (end : EndsOn disks host last back backs) where
  abbrev since : IsSinceOpened disks end.0
  since = end.7

  -- it is the journal that was opened on this disk, with these rows
  opening : end.0.opening ≡ record { disk = given; found = length rows }
  opening =
      sym (same_Some (record { disk = given; found = length rows }) end.0.opening
      (sym opened.root ∙ end.2.opening))

  opened_on : end.0.opening.disk ≡ given
  opened_on = ap (λ (o : Opening D). o.disk) opening

  all_rows : end.0.entries ≡ rows_kept rows ++ end.2.grows.0
  all_rows = end.2.grows.1 ∙ ap (λ (es : List JournalEntry). es ++ end.2.grows.0) opened.begins

  pub grows : rows_of end.0.entries ≡ rows ++ rows_of end.2.grows.0
  grows =
      ap rows_of all_rows ∙ rows_of-append (rows_kept rows) end.2.grows.0
      ∙ ap (λ (rs : List Row). rs ++ rows_of end.2.grows.0) (rows_of-all rows)

  found : rows_found end.0 ≡ rows
  found =
      let many : end.0.opening.found ≡ length (rows_kept rows) =
      ap (λ (o : Opening D). o.found) opening ∙ sym (length-map rows _) in
      ap (λ (n : ℕ). rows_of (take n end.0.entries)) many
      ∙ ap (λ (es : List JournalEntry). rows_of (take (length (rows_kept rows)) es)) all_rows
      ∙ ap rows_of (take-append_seam (rows_kept rows) end.2.grows.0) ∙ rows_of-all rows

  many : end.0.opening.found ≡ length rows
  many = ap (λ (o : Opening D). o.found) opening

  found_entries : take (length rows) end.0.entries ≡ rows_kept rows
  found_entries =
      let as_many : length rows ≡ length (rows_kept rows) = sym (length-map rows _) in
      ap (λ (n : ℕ). take n end.0.entries) as_many
      ∙ ap (λ (es : List JournalEntry). take (length (rows_kept rows)) es) all_rows
      ∙ take-append_seam (rows_kept rows) end.2.grows.0

  pub journal_back : JournalBack disks rows end.0.entries end.0.uncertain back
  journal_back = record {
    stands = end.3;
    numbers = since.numbers;
    opens = end.5;
    owner =
        subst (λ (n : ℕ).
        IfSome end.0.uncertain (λ (r : Row). EndsInFaultOf r (drop n end.0.entries))) many
        since.unsure;
    start = end.0.start;
    steps = end.0.steps;
    in_turn =
        subst (λ (d : D).
        IsTrue (disks.tells d)
        → InTurn disks (rows_kept rows) end.0.start
        (drop (length rows) end.0.entries) end.0.steps d) (sym end.1)
        (λ told. subst (λ (es : List JournalEntry).
        InTurn disks es end.0.start (drop (length rows) end.0.entries)
        end.0.steps end.0.disk) found_entries
        (subst (λ (n : ℕ).
        InTurn disks (take n end.0.entries) end.0.start
        (drop n end.0.entries) end.0.steps end.0.disk) many (since.in_turn told)));
  }

  pub same_back : SameDisk disks given back
  same_back =
      subst (λ (d : D). SameDisk disks given d) (sym end.1)
      (subst (λ (d : D). SameDisk disks d end.0.disk) opened_on since.same)

  pub counts : Rises (disks.faults given) end.0.entries (disks.faults back)
  counts =
      subst (λ (d : D). Rises (disks.faults d) end.0.entries (disks.faults back)) opened_on end.6

  pub meanwhile : (start : List Row) → IsJournal start
      → EachImage disks given (MayOpen start) → IsTrue (disks.tells given)
      → LeavesOnly disks given back
      (λ c. MayOpen start c ⊎ IsBetween rows (rows_of end.0.entries) c)
  meanwhile start journal may tells =
      let leaves =
      since.meanwhile start journal (subst
      (λ (d : D). EachImage disks d (MayOpen start)) (sym opened_on) may)
      (subst (λ (d : D). IsTrue (disks.tells d)) (sym opened_on) tells) in
      subst (λ (d : D). LeavesOnly disks given d
      (λ c. MayOpen start c ⊎ IsBetween rows (rows_of end.0.entries) c)) (sym end.1)
      (subst (λ (d : D). LeavesOnly disks d end.0.disk
      (λ c. MayOpen start c ⊎ IsBetween rows (rows_of end.0.entries) c)) opened_on
      (subst (λ (rs : List Row). LeavesOnly disks end.0.opening.disk
      end.0.disk (λ c. MayOpen start c ⊎ IsBetween rs (rows_of end.0.entries) c)) found leaves))

  pub reaches : disks.reach back ≤ max (disks.reach given)
      (length (journal_bytes (rows_of end.0.entries)) + 4110)
  reaches =
      subst (λ (d : D). disks.reach d ≤ max (disks.reach given)
      (length (journal_bytes (rows_of end.0.entries)) + 4110)) (sym end.1)
      (subst (λ (d : D). disks.reach end.0.disk ≤ max (disks.reach d)
      (length (journal_bytes (rows_of end.0.entries)) + 4110)) opened_on since.reaches)

  at_opening : rows_at_opening host ≡ rows
  at_opening = opened_rows stories budget rows _ host first opened

  -- ---- the stores

  module _ (stores : AllZip (IsStoreOf disks) givens (opened_stores host))
      (returned : AllZip (GivesBack disks) (opened_stores host) backs) where
    pub same_stores : AreSame disks givens backs
    same_stores = same_zip disks givens (opened_stores host) backs stores returned

    abbrev Agreed : Type 0
    Agreed = AreAgreed disks stories (rows_at_opening host) givens → IsSound disks host

    is_sound : Agreed → AreAgreed disks stories rows givens → IsSound disks host
    is_sound sound agreed =
        sound (subst (λ (rs : List Row). AreAgreed disks stories rs givens) (sym at_opening) agreed)

    -- the file of one session
    stays : ((d : D) → disks.may_leave d (disks.seen d)) → Agreed
        → AreAgreed disks stories rows givens → AreAgreedDisks disks stories rows givens
        → (s : ℕ) (given' back' : D) → slice_get givens s ≡ Some given'
        → slice_get backs s ≡ Some back'
        → StaysSound disks stories rows (rows_of end.0.entries) s given' back'
    stays may_stay sound agreed each s given' back' there there' =
        let after = rows_of end.0.entries in
        let store =
        zip_at (GivesBack disks) (opened_stores host) backs s back' returned there' in
        let found =
        zip_at (IsStoreOf disks) givens (opened_stores host) s store.0 stores store.1 in
        let same : found.0 ≡ given' = same_Some found.0 given' (sym found.1 ∙ there) in
        let of =
        subst (λ (d : D). IsStoreOf disks d store.0) same
        found.2 in
        let told = (agreed s given' there).0 in
        let looks = of.kept.moments told in
        let kept =
        subst (λ (x : List Story × List Row). KeepsFileOf disks x.0 x.1
        after s store.0 back') (λ i. (opened.stories i, at_opening i))
        (end.9 (is_sound sound agreed) s store.0 back' store.1 there') in
        record {
          agreed =
              and_then disks given' store.0.disk back' (AgreesWithBeginning stories after s)
              (weaker disks given' store.0.disk (disks.may_leave given')
              (AgreesWithBeginning stories after s) looks
              (λ file may. record {
                first = rows;
                more = rows_of end.2.grows.0;
                all = grows;
                agreed = each s given' there told file may;
              }))
              kept.agreed;
          newest = λ none place least last has.
              and_then disks given' store.0.disk back' (HasOpenSince place least)
              (weaker disks given' store.0.disk (disks.may_leave given')
              (HasOpenSince place least) looks (λ file may. has told file may))
              (kept.newest end.3 none place least last
              (slot_since disks given' store.0 place least of told
              (has told (disks.seen given') (may_stay given'))));
        }

    pub stores_back : ((d : D) → disks.may_leave d (disks.seen d)) → Agreed
        → StoresBack disks stories rows (rows_of end.0.entries) givens backs
    stores_back may_stay sound = record {
      each = back_zip disks givens (opened_stores host) backs stores returned;
      agreed =
          λ agreed. subst (λ (s : List Story). AreAgreedDisks disks s
          (rows_of end.0.entries) backs) opened.stories (end.8 (is_sound sound agreed));
      meanwhile = stays may_stay sound;
    }

  -- ---- the lines between the two

  module _ (holds : holders last.desks.items ≡ holders first.desks.items) {input now : SourceState}
      {output new : SinkState} (served : Ended)
      (lines : ServesBetween (IsSound disks host) host first last input now output new served) where
    abbrev Sound : Type 0
    Sound = IsSound disks host

    chain : AnswersInOrder stories budget Sound roots (histories_in_rows rows) lines.turns
        (seens last.desks.items)
    chain =
        subst (λ (h : List (List Entry)). AnswersInOrder stories budget Sound roots h lines.turns
        (seens last.desks.items)) opened.histories
        (subst (λ (h : List Holder). AnswersInOrder stories budget Sound h (seens first.desks.items)
        lines.turns (seens last.desks.items)) opened.alone
        (subst (λ (b : ℕ). AnswersInOrder stories b Sound (holders first.desks.items)
        (seens first.desks.items) lines.turns (seens last.desks.items)) opened.budget
        (subst (λ (s : List Story). AnswersInOrder s host.budget Sound (holders first.desks.items)
        (seens first.desks.items) lines.turns (seens last.desks.items)) opened.stories
        lines.chain)))

    own : AreOwn stories budget (seens last.desks.items)
    own =
        own_all stories budget Sound (histories_in_rows rows) lines.turns (seens last.desks.items)
        (many_histories rows) (own_rows stories budget rows) chain

    entries : (s : ℕ) → s < 64 → history_in end.0.entries s ≡ seen_at (seens last.desks.items) s
    entries s below =
        let alone =
        subst (λ (h : List Holder). seen_at end.2.finals s ≡ seen_at (seens last.desks.items) s)
        holds
        ((end.2.each s below).alone (subst
        (λ (h : List Holder). ((holder_at h s).number ≡ 0) × ((holder_at h s).made ≡ 0))
        (sym (holds ∙ opened.alone)) (alone_there s below))) in
        end.2.kept s below ∙ ap (map unnumbered) alone ∙ own s

    pub conversed : (IsTrue (disks.tells given) → SpellsRows (disks.seen given) rows)
        → (AreAgreed disks stories (rows_at_opening host) givens → Sound)
        → StoresBack disks stories rows (rows_of end.0.entries) givens backs
        → Conversed disks stories budget given givens back backs input now output new served
    conversed spells sound stores = record {
      rows = rows;
      handed_in = spells;
      read = lines.tells.read;
      turns = lines.turns;
      written = lines.tells.written;
      gave = lines.tells.gave;
      within = lines.tells.within;
      which = lines.tells.lines;
      wrote = lines.tells.wrote;
      writes = lines.tells.replies;
      histories = seens last.desks.items;
      led =
          led_all stories budget Sound (histories_in_rows rows) lines.turns (seens last.desks.items)
          (many_histories rows) chain;
      sound =
          λ agreed. led_alone stories budget Sound
          (sound (subst (λ (rs : List Row). AreAgreed disks stories rs givens)
          (sym at_opening) agreed))
          (histories_in_rows rows) lines.turns (seens last.desks.items) (many_histories rows) chain;
      journal = end.0.entries;
      entries = entries;
      faults = counts;
      accepted =
          λ s below. sym (commands_in-history end.0.entries s) ∙ ap commands_in (entries s below);
      more = rows_of end.2.grows.0;
      grows = grows;
      uncertain = end.0.uncertain;
      images = end.4;
      left = journal_back;
      meanwhile = meanwhile;
      reaches = reaches;
      stores = stores;
    }

-- what an opening may meet it may meet again on the disk that came back
pub may_open_again : {D : Type 0} (disks : DiskWords D) (given back : D)
    → disks.tells back ≡ disks.tells given
    → ((rows : List Row) → IsJournal rows → EachImage disks given (MayOpen rows)
    → IsTrue (disks.tells given) → LeavesOnly disks given back (MayOpen rows))
    → ((t : ℕ) (c : List ℕ) → t ≤ disks.moment back → disks.may_leave back c
    → disks.left_since back t c)
    → (rows : List Row) → IsJournal rows → EachImage disks given (MayOpen rows)
    → EachImage disks back (MayOpen rows)
may_open_again disks given back telling crash now rows journal may told
    c left =
    let leaves : LeavesOnly disks given back (MayOpen rows) =
    crash rows journal may (subst (λ (b : Bool). IsTrue b) telling told) in
    leaves.each c (now (disks.moment given) c leaves.later left)
