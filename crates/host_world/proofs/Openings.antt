-- An opening, call by call, and each device call.
use Rattle.std.proofs.Common.{Bool, List, None, Option, Some, [], ap, arith, drop, false, get_or}
use Rattle.std.proofs.Common.{inl, inr, length, refl, subst, sym, true, ℕ, ◌++◌, ◌+◌}
use Rattle.std.proofs.Common.{◌<◌, ◌==◌, ◌∙◌, ◌∷◌, ◌≡◌}
use Rattle.std.proofs.lemmas.Bool.{cases_Bool, cases_eq, eqb-false, eqb-true}
use Rattle.std.proofs.lemmas.Bool.Decides.{nat_tests}
use Rattle.std.proofs.lemmas.List.{append-nil, drop_at}
use Rattle.std.proofs.lemmas.List.FromFn.{length-map-range_with_len}
use Rattle.std.proofs.lemmas.Option.{slice_get-get_or}
use Rattle.std.specs.List.{slice_get}
use Rattle.std.specs.Prelude.{IfSome, if◌then◌else◌, not, slice_index, ◌&&◌}
use Rattle.disk_model.proofs.StateLaws.{only_settled}
use Rattle.disk_model.proofs.Torn.{holds_both}
use Rattle.disk_model.specs.DiskState.{DiskState, IsDiskImage}
use Rattle.gate_journal.proofs.RowLemmas.{journal_push, opens, shut_zero, spells_not_open}
use Rattle.gate_journal.proofs.RowLemmas.{spells_shut}
use Rattle.gate_journal.proofs.Opening.{gate_written, second_written}
use Rattle.gate_journal.proofs.VersionLemmas.{are_front, second_stands}
use Rattle.gate_journal.specs.Gate.{IsShut, IsUnsure}
use Rattle.gate_journal.specs.Log.{StandsInEither}
use Rattle.gate_journal.specs.Rows.{IsJournal, IsNext, journal_front, version_byte}
use Rattle.gate_journal.specs.Rows.{commands_of, is_open, journal_bytes}
use Rattle.gate_journal.specs.declared.command.Command.{Command}
use Rattle.gate_journal.specs.declared.row.Row.{Row}
use Rattle.story_run.specs.declared.story.Story.{Story}
use Rattle.session_core.specs.Turning.{commands_in}
use Rattle.session_core.specs.declared.entry.Entry.{Entry}
use Rattle.disk_model.specs.Plain.{is_image}
use Rattle.store_events.specs.Disk.{fault_counted, disk_after, may_work}
use Rattle.host_world.specs.Events.{after, begun, call_next}
use Rattle.host_world.specs.Happenings.{Happening, Opened, further, history_left, news, replies_of}
use Rattle.host_world.specs.Headline.{AreGiven}
use Rattle.host_world.specs.Journal.{broken, gate_closed, host_called, comes_up}
use Rattle.host_world.specs.Journal.{looked, next_call, onward, with_disk, with_fault}
use Rattle.host_world.specs.Reading.{past_gate, rows_in}
use Rattle.host_world.specs.Sessions.{history_found, found_session, found_sessions}
use Rattle.store_events.specs.declared.disk.DiskCall.{DiskCall}
use Rattle.store_events.specs.declared.disk.DiskCall.TheVariants.{Look, Sync, Write}
use Rattle.host_world.specs.declared.event.JournalEvent.TheVariants.{Call}
use Rattle.host_world.specs.declared.state.JournalHost.{JournalHost}
use Rattle.host_world.specs.declared.state.Step.{Step}
use Rattle.host_world.specs.declared.state.Step.TheVariants.{AskSize, CloseSync, CloseWrite}
use Rattle.host_world.specs.declared.state.Step.TheVariants.{FirstSync, GateSync, GateWrite, Idle}
use Rattle.host_world.specs.declared.state.Step.TheVariants.{ReadAll, RepairSync, RepairWrite}
use Rattle.host_world.specs.declared.state.Step.TheVariants.{RowSync, RowWrite}
use Rattle.host_world.specs.declared.state.Step.TheVariants.{VersionSync, VersionWrite}
use Rattle.host_world.specs.declared.turn.Session.{Session}
use Rattle.host_world.specs.declared.turn.Turn.{Turn}
use Rattle.host_world.proofs.AppendCalls.{broken_well, goes_on, open_syncs_good, opens_good}
use Rattle.host_world.proofs.AppendCalls.{seen_is, shut_syncs_good, shuts_good, write_syncs_good}
use Rattle.host_world.proofs.AppendCalls.{writes_good}
use Rattle.host_world.proofs.Appends.{SameHost, begun_well}
use Rattle.host_world.proofs.Folds.{history-push, replies-push}
use Rattle.host_world.proofs.ImageLemmas.{images_after}
use Rattle.store_events.proofs.ImageLemmas.{stays_after, stays_bad}
use Rattle.host_world.proofs.Phases.{if_kept}
use Rattle.host_world.proofs.ReadingLemmas.{reads_rows}
use Rattle.host_world.proofs.Reopening.{CallsWell, found_at, nobody, of_down, one_more_of, same_up}
use Rattle.host_world.proofs.Rephasing.{stepped}
use Rattle.host_world.proofs.RowsOf.{commands-found}
use Rattle.host_world.proofs.Sound.{Busy, Knows, MayBeFound, Sound, Stands, StepFact, TurnFact}
use Rattle.host_world.proofs.Sound.{stands_either_way}

module _ (stories : List Story) (budget : ℕ) (premise : AreGiven stories budget) where
  module _ (first : ℕ → List Entry) (past : ℕ → List Happening) (w v : JournalHost)
      (was : Sound stories budget first past w) (same : SameHost stories budget premise w v)
      (sound : Sound stories budget first past v) where
    abbrev Well : JournalHost → Type 0
    Well new = CallsWell stories budget first past w new

    -- the rows that an opening may find
    abbrev Found : List Row → Type 0
    Found rows = MayBeFound w rows

    found_too : (rows : List Row) → MayBeFound v rows → Found rows
    found_too rows (inl is) = inl (is ∙ same.rows)
    found_too rows (inr (u, is, more)) =
        inr (u, sym same.uncertain ∙ is, more ∙ ap (λ (l : List Row). l ++ u ∷ []) same.rows)

    found_journal : (rows : List Row) → MayBeFound v rows → IsJournal rows
    found_journal rows (inl is) = subst (λ (l : List Row). IsJournal l) (sym is) sound.journal
    found_journal rows (inr (u, is, more)) =
        subst (λ (l : List Row). IsJournal l) (sym more)
        (journal_push v.rows u sound.journal
        (subst (λ (o : Option Row). IfSome o (IsNext v.rows)) is sound.next))

    module _ (p : DiskState) (rows : List Row) (down : v.up ≡ false) (which : Found rows) where
      abbrev risen : JournalHost
      risen = comes_up (record v { disk = p }) rows

      -- what the opening found of a session that it hadn't
      abbrev more : ℕ → List Command
      more s = further (slice_get w.sessions s) (commands_of rows s)

      down_w : w.up ≡ false
      down_w = sym same.up ∙ down

      told : (s : ℕ) → news s w risen ≡ Opened (more s) ∷ []
      told s = ap (λ (b : Bool). if not b && true then Opened (more s) ∷ [] else []) down_w

      known : (s : ℕ) → s < 64 → Knows stories budget (first s) (past s ++ Opened (more s) ∷ [])
          risen s (found_session rows s)
      known s lt =
          let old =
          sound.each s (get_or v.sessions s nobody)
          (slice_get-get_or v.sessions s nobody (omega (arith, lt, sound.sessions))) in
          let x = get_or w.sessions s nobody in
          let at = slice_get-get_or w.sessions s nobody (omega (arith, lt, was.sessions)) in
          let before = was.each s x at in
          let fact = of_down stories budget s w.rows w.uncertain x w.up down_w before.rows in
          let history : x.history ≡ history_left stories budget (first s) (past s) =
          subst (λ (o : Option Turn). TurnFact stories budget
          (history_left stories budget (first s) (past s)) x.history o) fact.0 before.turn in
          let one = one_more_of stories budget w rows s x fact which in
          let is_more : more s ≡ one.0 =
          ap (λ (o : Option Session). further o (commands_of rows s)) at
          ∙ ap (λ (l : List Command). drop (length (commands_in x.history)) l) one.2
          ∙ drop_at (commands_in x.history) one.0 (length (commands_in x.history)) refl in
          let all : commands_of rows s
          ≡ commands_in (history_left stories budget (first s) (past s)) ++ more s =
          one.2 ∙ ap (λ (l : List Command). commands_in x.history ++ l) (sym is_more)
          ∙ ap (λ (h : List Entry). commands_in h ++ more s) history in
          record {
            turn = ap (λ (l : List Command). history_found l) all
                ∙ sym (history-push stories budget (first s) (past s) (Opened (more s) ∷ []));
            replies = old.replies
                ∙ sym (append-nil (replies_of stories budget (first s) (past s)))
                ∙ sym (replies-push stories budget (first s) (past s) (Opened (more s) ∷ []));
            rows = (
              sym (commands-found (commands_of rows s))
                  ∙ sym (append-nil (commands_in (history_found (commands_of rows s)))),
              tt,
            );
          }

      each : (s : ℕ) (x : Session) → slice_get (found_sessions rows) s ≡ Some x
          → Knows stories budget (first s) (past s ++ news s w risen) risen s x
      each s x at =
          let f = found_at rows s x at in
          subst (λ (q : Session). Knows stories budget (first s) (past s ++ news s w risen) risen s
          q) f.1
          (subst (λ (l : List Happening). Knows stories budget (first s) (past s ++ l) risen s
          (found_session rows s)) (sym (told s)) (known s f.0))

      opens_well : IsDiskImage p p.seen
          → ((c : List ℕ) → IsDiskImage p c → IsShut (journal_bytes rows) c) → IsJournal rows
          → Well risen
      opens_well stays images journal = record {
        sound = record {
          stays = stays;
          images = images;
          journal = journal;
          next = tt;
          sessions = length-map-range_with_len (found_session rows) 0 64;
          step = tt;
          each = each;
        };
        reopens = λ were up. record { rows = which; sessions = refl };
      }

    -- the host stays as up as it was
    well : (new : JournalHost) → new.up ≡ v.up → Sound stories budget first past new → Well new
    well new up s = same_up stories budget first past w new (up ∙ same.up) s

    unmoved : Well w
    unmoved = same_up stories budget first past w w refl was

    if_well : (test : Bool) (new : JournalHost) → new.up ≡ v.up
        → (test ≡ true → Sound stories budget first past new) → Well (if test then new else w)
    if_well test new up then_ =
        if_kept stories budget Well new w test unmoved (λ is. well new up (then_ is))

    unsure_zero : (front past_ c : List ℕ) → IsUnsure front past_ c → get_or c (length front) 0 ≡ 0
        → IsShut front c
    unsure_zero front past_ c unsure is =
        holds_both {p = 0} front (0 ∷ []) (omega arith) unsure.before record {
          within = omega (arith, unsure.behind.within);
          each = λ i lt. gate i (omega arith);
        }
      where
        gate : (i : ℕ) → i ≡ 0 → get_or c (length front + i) 0 ≡ get_or (0 ∷ []) i 0
        gate i zero_ =
            subst (λ (k : ℕ). get_or c (length front + k) 0 ≡ get_or (0 ∷ []) k 0) (sym zero_)
            (ap (λ (k : ℕ). get_or c k 0) (omega arith) ∙ is)

    -- the gate is closed, and all is synced
    closes_well : (p : DiskState) (rows : List Row) → v.up ≡ false → MayBeFound v rows
        → IsDiskImage p p.seen → StandsInEither rows None p.seen
        → ((c : List ℕ) → IsDiskImage p c → c ≡ p.seen)
        → ((c : List ℕ) → IsDiskImage p c → Stands v.up v.rows v.uncertain c)
        → Well (gate_closed (record v { disk = p }) rows)
    closes_well p rows down which stays stands only images =
        elim (cases_Bool (version_byte p.seen == 1)) [
          | inl second ↦
              subst (λ (b : Bool). Well (if b then comes_up (record v { disk = p }) rows
              else record v { disk = p; step = VersionWrite rows })) (sym second)
              (opens_well p rows down (found_too rows which) stays
              (λ c image. subst (λ (l : List ℕ). IsShut (journal_bytes rows) l) (sym (only c image))
              (second_stands rows None p.seen stands (eqb-true (version_byte p.seen) 1 second)))
              (found_journal rows which))
          | inr older ↦
              subst (λ (b : Bool). Well (if b then comes_up (record v { disk = p }) rows
              else record v { disk = p; step = VersionWrite rows })) (sym older)
              (well (record v { disk = p; step = VersionWrite rows }) refl
              (stepped stories budget first past v p v.faults v.uncertain (VersionWrite rows) sound
              stays images sound.next
              (down, which, stands, eqb-false (version_byte p.seen) 1 older, only) (λ k z at f. f)))
        ]

    looks_shut : (rows : List Row) → StandsInEither rows None v.disk.seen
        → v.up ≡ false → ((c : List ℕ) → IsDiskImage v.disk c → c ≡ v.disk.seen) → MayBeFound v rows
        → Well (looked v (rows_in v.disk.seen))
    looks_shut rows shut down only which =
        subst (λ (o : Option (List Row)). Well (looked v o))
        (sym (reads_rows v.disk.seen rows
        (spells_shut rows v.disk.seen (found_journal rows which) shut)))
        (subst (λ (b : Bool). Well
        (if b then gate_closed v rows else record v { step = CloseWrite rows })) (sym is_zero)
        (closes_well v.disk rows down which sound.stays shut only sound.images))
      where
        is_zero : (slice_index v.disk.seen (length (journal_bytes rows)) == 0) ≡ true
        is_zero =
            ap (λ (n : ℕ). n == 0)
            (shut_zero (journal_front (version_byte v.disk.seen) rows) v.disk.seen shut.1)

    -- what stands in the bytes, with the row behind the gate by its name
    stands_now : (u : Option Row) → v.uncertain ≡ u → StandsInEither v.rows u v.disk.seen
    stands_now u is =
        subst (λ (o : Option Row). StandsInEither v.rows o v.disk.seen) is
        (stands_either_way v.up v.rows v.uncertain v.disk.seen
        (sound.images v.disk.seen sound.stays))

    looks_well : v.up ≡ false → ((c : List ℕ) → IsDiskImage v.disk c → c ≡ v.disk.seen)
        → Well (looked v (rows_in v.disk.seen))
    looks_well down only = of v.uncertain refl
      where
        of : (u : Option Row) → v.uncertain ≡ u
            → Well (looked v (rows_in v.disk.seen))
        of None is =
            looks_shut v.rows (stands_now None is) down only (inl refl)
        of (Some u) is =
            let stands = stands_now (Some u) is in
            elim (cases_eq (get_or v.disk.seen (length (journal_bytes v.rows)) 0) 1) [
              | inl is_open ↦ looks_shut (v.rows ++ u ∷ [])
                  (opens v.rows u v.disk.seen stands is_open) down only (inr (u, is, refl))
              | inr not_open ↦
                  elim (cases_eq (get_or v.disk.seen (length (journal_bytes v.rows)) 0) 0) [
                    | inl is_shut ↦
                        looks_shut v.rows (
                          (are_front (version_byte v.disk.seen) v.rows u stands.0).0,
                          unsure_zero (journal_front (version_byte v.disk.seen) v.rows)
                              (past_gate u) v.disk.seen stands.1 is_shut,
                        ) down only (inl refl)
                    | inr other ↦
                        let spells : rows_in v.disk.seen ≡ Some v.rows =
                        reads_rows v.disk.seen v.rows
                        (spells_not_open v.rows u v.disk.seen sound.journal stands not_open) in
                        let test : (slice_index v.disk.seen (length (journal_bytes v.rows)) == 0)
                        ≡ false =
                        grind (arith, nat_tests) in
                        subst (λ (o : Option (List Row)). Well
                        (looked v o)) (sym spells)
                        (subst (λ (b : Bool). Well
                        (if b then gate_closed v v.rows else record v { step = CloseWrite v.rows }))
                        (sym test)
                        (well (record v { step = CloseWrite v.rows }) refl
                        (stepped stories budget first past v v.disk v.faults v.uncertain
                        (CloseWrite v.rows) sound sound.stays sound.images sound.next
                        (down, refl, (u, is)) (λ k z at f. f))))
                  ]
            ]

    module _ (reads : List ℕ) where
      -- a good call with which the host stays as up as it was
      makes : (made : DiskCall) (step : Step)
          → (onward (with_disk v made true reads) step).up ≡ v.up
          → (may_work made ≡ true
          → Sound stories budget first past (onward (with_disk v made true reads) step))
          → Well (if may_work made then onward (with_disk v made true reads) step else w)
      makes made step up then_ =
          if_well (may_work made) (onward (with_disk v made true reads) step) up then_

      good_well : (step : Step) → StepFact stories budget v step
          → Well (host_called w v true reads step (next_call v.rows step))
      good_well Idle fact = unmoved
      good_well (RepairWrite r n) fact =
          makes (Write (length (journal_bytes v.rows)) (0 ∷ [])) (RepairWrite r n) refl
          (λ fits. shuts_good stories budget premise first past v sound reads r n fits fact)
      good_well (RepairSync r n) fact =
          makes Sync (RepairSync r n) refl
          (λ _. shut_syncs_good stories budget premise first past v sound reads r n fact)
      good_well (RowWrite r n) fact =
          makes (Write (length (journal_bytes v.rows) + 1) (past_gate r)) (RowWrite r n) refl
          (λ fits. writes_good stories budget premise first past v sound reads r n fits fact)
      good_well (RowSync r n) fact =
          makes Sync (RowSync r n) refl
          (λ _. write_syncs_good stories budget premise first past v sound reads r n fact)
      good_well (GateWrite r n) fact =
          makes (Write (length (journal_bytes v.rows)) (1 ∷ [])) (GateWrite r n) refl
          (λ fits. opens_good stories budget premise first past v sound reads r n fits fact)
      good_well (GateSync r n) fact =
          makes Sync (GateSync r n) refl
          (λ _. open_syncs_good stories budget premise first past v sound reads r n fact)
      good_well FirstSync fact =
          makes Sync FirstSync refl
          (λ _. goes_on stories budget premise first past v sound reads Sync FirstSync AskSize fact
          refl (fact, λ c image. only_settled v.disk.seen c image))
      good_well AskSize fact =
          makes Look AskSize refl
          (λ _. goes_on stories budget premise first past v sound reads Look AskSize ReadAll fact
          refl fact)
      good_well ReadAll fact = looks_well fact.0 fact.1
      good_well (CloseWrite those) fact =
          let made = Write (length (journal_bytes those)) (0 ∷ []) in
          let old = stands_now (Some fact.2.0) fact.2.1 in
          makes made (CloseWrite those) refl (λ fits.
          goes_on stories budget premise first past v sound reads made (CloseWrite those)
          (CloseSync those) fact refl (
            fact.0,
            fact.1,
            subst (λ (l : List ℕ). StandsInEither v.rows None l)
                (sym (seen_is stories budget premise first past v sound reads
                (length (journal_bytes those)) (0 ∷ []) fits))
                (gate_written v.rows fact.2.0 (length (journal_bytes those)) v.disk.seen
                (ap (λ (l : List Row). length (journal_bytes l)) fact.1) old),
          ))
      good_well (CloseSync those) fact =
          closes_well (disk_after Sync true reads v.disk) those fact.0 (inl fact.1)
          (stays_after Sync reads v.disk sound.stays)
          (subst (λ (l : List Row). StandsInEither l None v.disk.seen) (sym fact.1) fact.2)
          (λ c image. only_settled v.disk.seen c image)
          (images_after stories budget v (CloseSync those) fact sound.stays sound.images true reads
          Sync refl)
      good_well (VersionWrite those) fact =
          makes (Write 8 (1 ∷ [])) (VersionWrite those) refl (λ fits.
          goes_on stories budget premise first past v sound reads (Write 8 (1 ∷ []))
          (VersionWrite those) (VersionSync those) fact refl (
            fact.0,
            fact.1,
            subst (λ (l : List ℕ). IsShut (journal_bytes those) l)
                (sym (seen_is stories budget premise first past v sound reads 8 (1 ∷ []) fits))
                (second_written those v.disk.seen fact.2.1),
          ))
      good_well (VersionSync those) fact =
          opens_well (disk_after Sync true reads v.disk) those fact.0 (found_too those fact.1)
          (stays_after Sync reads v.disk sound.stays)
          (λ c image. subst (λ (l : List ℕ). IsShut (journal_bytes those) l)
          (sym (only_settled v.disk.seen c image)) fact.2) (found_journal those fact.1)

      -- a call that fails, of an append
      append_fails : (made : DiskCall) (step : Step) → StepFact stories budget v step
          → next_call v.rows step ≡ Some made → (r : Row) (n : ℕ) → Busy stories budget v r
          → Well (if is_image (disk_after made false reads v.disk) reads
          then broken (with_fault v made reads) r n else w)
      append_fails made step fact is r n busy =
          if_well (is_image (disk_after made false reads v.disk) reads)
          (broken (with_fault v made reads) r n) refl (λ allowed.
          broken_well stories budget premise first past v sound reads made step fact is allowed r n
          busy)

      -- and of an opening
      opening_fails : (made : DiskCall) (step : Step) → StepFact stories budget v step
          → next_call v.rows step ≡ Some made
          → Well (if is_image (disk_after made false reads v.disk) reads
          then record (with_fault v made reads) { step = Idle } else w)
      opening_fails made step fact is =
          if_well (is_image (disk_after made false reads v.disk) reads)
          (record (with_fault v made reads) { step = Idle }) refl (λ allowed.
          stepped stories budget first past v (disk_after made false reads v.disk)
          (fault_counted v.faults) v.uncertain Idle sound (stays_bad made reads v.disk allowed)
          (images_after stories budget v step fact sound.stays sound.images false reads made is)
          sound.next tt (λ k z at f. f))

      bad_well : (step : Step) → StepFact stories budget v step
          → Well (host_called w v false reads step (next_call v.rows step))
      bad_well Idle fact = unmoved
      bad_well (RepairWrite r n) fact =
          append_fails (Write (length (journal_bytes v.rows)) (0 ∷ []))
          (RepairWrite r n) fact refl r n fact.0
      bad_well (RepairSync r n) fact = append_fails Sync (RepairSync r n) fact refl r n fact.0
      bad_well (RowWrite r n) fact =
          append_fails (Write (length (journal_bytes v.rows) + 1) (past_gate r))
          (RowWrite r n) fact refl r n fact.0
      bad_well (RowSync r n) fact = append_fails Sync (RowSync r n) fact refl r n fact.0
      bad_well (GateWrite r n) fact =
          append_fails (Write (length (journal_bytes v.rows)) (1 ∷ []))
          (GateWrite r n) fact refl r n fact.0
      bad_well (GateSync r n) fact = append_fails Sync (GateSync r n) fact refl r n fact.0
      bad_well FirstSync fact = opening_fails Sync FirstSync fact refl
      bad_well AskSize fact = opening_fails Look AskSize fact refl
      bad_well ReadAll fact = opening_fails Look ReadAll fact refl
      bad_well (CloseWrite those) fact =
          opening_fails (Write (length (journal_bytes those)) (0 ∷ [])) (CloseWrite those) fact refl
      bad_well (CloseSync those) fact = opening_fails Sync (CloseSync those) fact refl
      bad_well (VersionWrite those) fact =
          opening_fails (Write 8 (1 ∷ [])) (VersionWrite those) fact refl
      bad_well (VersionSync those) fact = opening_fails Sync (VersionSync those) fact refl

  made_well : (first : ℕ → List Entry) (past : ℕ → List Happening) (w : JournalHost) (good : Bool)
      (reads : List ℕ) → Sound stories budget first past w
      → CallsWell stories budget first past w
      (call_next w (begun stories budget w) good reads)
  made_well first past w true reads sound =
      let b = begun_well stories budget premise first past w sound in
      let v = begun stories budget w in
      good_well first past w v sound b.1 b.0 reads v.step b.0.step
  made_well first past w false reads sound =
      let b = begun_well stories budget premise first past w sound in
      let v = begun stories budget w in
      bad_well first past w v sound b.1 b.0 reads v.step b.0.step

  pub call_well : (first : ℕ → List Entry) (past : ℕ → List Happening) (w : JournalHost) (disk : ℕ)
      (good : Bool) (reads : List ℕ) → Sound stories budget first past w
      → CallsWell stories budget first past w (after stories budget w (Call disk good reads))
  call_well first past w disk good reads sound =
      if_kept stories budget (λ (new : JournalHost). CallsWell stories budget first past w new)
      (call_next w (begun stories budget w) good reads) w (disk == 0)
      (same_up stories budget first past w w refl sound)
      (λ is. made_well first past w good reads sound)
