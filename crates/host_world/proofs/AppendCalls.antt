-- The device calls of an append.
use Rattle.std.proofs.Common.{Bool, List, None, Option, Some, [], ap, arith, false, length, refl}
use Rattle.std.proofs.Common.{set, subst, sym, true, ℕ, ◌++◌, ◌+◌, ◌∙◌, ◌∷◌, ◌≡◌}
use Rattle.std.proofs.lemmas.Bool.Decides.{nat_tests}
use Rattle.std.proofs.lemmas.List.{append-nil}
use Rattle.std.specs.List.{slice_get}
use Rattle.disk_model.proofs.StateLaws.{only_settled, seen_write}
use Rattle.disk_model.specs.Disk.{Holds, file_written}
use Rattle.disk_model.specs.DiskState.{DiskState, IsDiskImage, settled}
use Rattle.gate_journal.proofs.RowLemmas.{journal_push}
use Rattle.gate_journal.proofs.Sound.{opened_shut}
use Rattle.gate_journal.proofs.Steps.{shut_written, unsure_opened, unsure_written}
use Rattle.gate_journal.specs.Gate.{IsShut, IsUnsure}
use Rattle.gate_journal.specs.Log.{StandsInImage}
use Rattle.gate_journal.specs.Rows.{commands_of, journal_bytes}
use Rattle.gate_journal.specs.declared.command.Command.{Command}
use Rattle.gate_journal.specs.declared.row.Row.{Row}
use Rattle.story_run.specs.declared.story.Story.{Story}
use Rattle.session_core.specs.Turning.{commands_in, decision_on}
use Rattle.session_core.specs.declared.entry.Entry.{Entry}
use Rattle.disk_model.specs.Plain.{is_image}
use Rattle.store_events.specs.Disk.{fault_counted, disk_after, may_work}
use Rattle.host_world.specs.Happenings.{Happening, history_left}
use Rattle.host_world.specs.Headline.{AreGiven}
use Rattle.host_world.specs.Journal.{broken, next_call, onward, with_fault}
use Rattle.host_world.specs.Reading.{past_gate}
use Rattle.host_world.specs.Pending.{command_listed, pending}
use Rattle.host_world.specs.Sessions.{in_phase, phase_set}
use Rattle.store_events.specs.declared.disk.DiskCall.{DiskCall}
use Rattle.store_events.specs.declared.disk.DiskCall.TheVariants.{Sync, Write}
use Rattle.host_world.specs.declared.state.JournalHost.{JournalHost}
use Rattle.host_world.specs.declared.state.Step.{Step}
use Rattle.host_world.specs.declared.state.Step.TheVariants.{GateSync, GateWrite, Idle, RepairSync}
use Rattle.host_world.specs.declared.state.Step.TheVariants.{RepairWrite, RowSync, RowWrite}
use Rattle.host_world.specs.declared.turn.Phase.{Phase}
use Rattle.host_world.specs.declared.turn.Phase.TheVariants.{Begun, Broken, Kept}
use Rattle.host_world.specs.declared.turn.Session.{Session}
use Rattle.host_world.specs.declared.turn.Turn.{Turn}
use Rattle.host_world.proofs.Appends.{nothing_pending, rows_up, rows_with}
use Rattle.host_world.proofs.ImageLemmas.{images_after}
use Rattle.store_events.proofs.ImageLemmas.{stays_after, stays_bad}
use Rattle.host_world.proofs.Lists.{some_same}
use Rattle.host_world.proofs.Rephasing.{rephased, stepped}
use Rattle.host_world.proofs.RowsOf.{rows-here, rows-other}
use Rattle.host_world.proofs.Sound.{Busy, PhaseFact, RowsFact, Sound, Stands, StepFact, TurnFact}

module _ (stories : List Story) (budget : ℕ) (premise : AreGiven stories budget) where
  -- the calls of an append
  module _ (first : ℕ → List Entry) (past : ℕ → List Happening) (v : JournalHost)
      (sound : Sound stories budget first past v) (reads : List ℕ) where
    abbrev reading_after : DiskCall → DiskState
    reading_after call = disk_after call true reads v.disk

    pub seen_is : (at : ℕ) (piece : List ℕ) → may_work (Write at piece) ≡ true
        → (disk_after (Write at piece) true reads v.disk).seen ≡ file_written v.disk.seen at piece
    seen_is at piece fits = seen_write at piece v.disk (grind (arith, nat_tests))

    set_phase_is : (r : Row) (b : Busy stories budget v r) (phase : Phase)
        → phase_set v.sessions r.session phase (slice_get v.sessions r.session)
        ≡ set v.sessions r.session (in_phase b.asker b.turn phase)
    set_phase_is r b phase = rw (b.at, b.stands) refl

    busy_pending : (r : Row) (b : Busy stories budget v r) → pending stories budget b.asker ≡ []
    busy_pending r b = rw (b.stands, b.started) refl

    busy_rows : (r : Row) (b : Busy stories budget v r)
        → commands_of v.rows r.session ≡ commands_in b.asker.history
    busy_rows r b =
        rows_up stories budget premise r.session v.rows v.uncertain b.asker v.up b.up
        (sound.each r.session b.asker b.at).rows
        ∙ ap (λ (l : List Command). commands_in b.asker.history ++ l) (busy_pending r b)
        ∙ append-nil (commands_in b.asker.history)

    busy_fact : (r : Row) (b : Busy stories budget v r)
        → PhaseFact stories budget (history_left stories budget (first r.session)
        (past r.session)) b.asker.history b.turn Begun
    busy_fact r b =
        subst (λ (p : Phase). PhaseFact stories budget
        (history_left stories budget (first r.session)
        (past r.session)) b.asker.history b.turn p) b.started
        (subst (λ (o : Option Turn). TurnFact stories budget
        (history_left stories budget (first r.session)
        (past r.session)) b.asker.history o) b.stands (sound.each r.session b.asker b.at).turn)

    busy_on : (r : Row) (p : DiskState) (n : ℕ) (u : Option Row) (step : Step)
        → Busy stories budget v r → Busy stories budget
        (record v { disk = p; faults = n; uncertain = u; step = step }) r
    busy_on r p n u step b =
        record {
          up = b.up;
          next = b.next;
          held = b.held;
          asker = b.asker;
          turn = b.turn;
          at =
              b.at;
          stands = b.stands;
          started = b.started;
          accepted = b.accepted;
        }

    -- the gate is certain again
    no_gate : (k : ℕ) (z : Session) (r : Row) → Busy stories budget v r
        → RowsFact stories budget k v.rows v.uncertain z v.up
        → RowsFact stories budget k v.rows None z v.up
    no_gate k z r b f =
        rows_with stories budget premise k v.rows None z v.up b.up
        (rows_up stories budget premise k v.rows v.uncertain z v.up b.up f) tt

    -- or the row's
    its_gate : (k : ℕ) (z : Session) (r : Row) → Busy stories budget v r
        → slice_get v.sessions k ≡ Some z → RowsFact stories budget k v.rows v.uncertain z v.up
        → RowsFact stories budget k v.rows (Some r) z v.up
    its_gate k z r b at f =
        rows_with stories budget premise k v.rows (Some r) z v.up b.up
        (rows_up stories budget premise k v.rows v.uncertain z v.up b.up f) (λ is.
        ap (λ (x : Session). pending stories budget x)
        (sym (some_same b.asker z (sym b.at ∙ ap (λ (i : ℕ). slice_get v.sessions i) is ∙ at)))
        ∙ busy_pending r b)

    only : (P : List ℕ → Type 0)
        → P v.disk.seen → (c : List ℕ)
        → IsDiskImage (settled v.disk.seen) c
        → P c
    only P here c image = subst P (sym (only_settled v.disk.seen c image)) here

    abbrev after_call : DiskCall → JournalHost
    after_call call = record v { disk = reading_after call }

    -- what stands in each image while an append goes on, with the row behind the gate by its name
    stands_now : (r : Row) → Busy stories budget v r → (u : Option Row) → v.uncertain ≡ u
        → StandsInImage v.rows u v.disk.seen
    stands_now r b u is =
        subst (λ (o : Option Row). StandsInImage v.rows o v.disk.seen) is
        (subst (λ (up : Bool). Stands up v.rows v.uncertain v.disk.seen) b.up
        (sound.images v.disk.seen sound.stays))

    stands_then : (r : Row) → Busy stories budget v r → (p : DiskState) (rows : List Row)
        (u : Option Row) → ((c : List ℕ) → IsDiskImage p c → StandsInImage rows u c)
        → (c : List ℕ) → IsDiskImage p c → Stands v.up rows u c
    stands_then r b p rows u all c image =
        subst (λ (up : Bool). Stands up rows u c) (sym b.up) (all c image)

    -- a good call that changes no more than the disk and the step
    pub goes_on : (call : DiskCall) (step next : Step) → StepFact stories budget v step
        → next_call v.rows step ≡ Some call
        → StepFact stories budget (record v { disk = reading_after call; step = next }) next
        → Sound stories budget first past (record v { disk = reading_after call; step = next })
    goes_on call step next fact is now =
        stepped stories budget first past v (reading_after call) v.faults v.uncertain next sound
        (stays_after call reads v.disk sound.stays)
        (images_after stories budget v step fact sound.stays sound.images true reads call is)
        sound.next now (λ k z at f. f)

    pub shuts_good : (r : Row) (n : ℕ)
        → may_work (Write (length (journal_bytes v.rows)) (0 ∷ [])) ≡ true
        → StepFact stories budget v (RepairWrite r n)
        → Sound stories budget first past
        (onward (after_call (Write (length (journal_bytes v.rows)) (0 ∷ []))) (RepairWrite r n))
    shuts_good r n fits fact =
        let call = Write (length (journal_bytes v.rows)) (0 ∷ []) in
        let old = stands_now r fact.0 (Some fact.1.0) fact.1.1 in
        goes_on call (RepairWrite r n) (RepairSync r n) fact refl (
          busy_on r (reading_after call) v.faults v.uncertain (RepairSync r n) fact.0,
          subst (λ (l : List ℕ). IsShut (journal_bytes v.rows) l)
              (sym (seen_is (length (journal_bytes v.rows)) (0 ∷ []) fits))
              (unsure_written (journal_bytes v.rows) (past_gate fact.1.0)
              (length (journal_bytes v.rows)) refl v.disk.seen old),
        )

    pub shut_syncs_good : (r : Row) (n : ℕ) → StepFact stories budget v (RepairSync r n)
        → Sound stories budget first past (onward (after_call Sync) (RepairSync r n))
    shut_syncs_good r n fact =
        stepped stories budget first past v (reading_after Sync) v.faults None (RowWrite r n) sound
        (stays_after Sync reads v.disk sound.stays)
        (stands_then r fact.0 (reading_after Sync) v.rows None
        (only (λ (c : List ℕ). IsShut (journal_bytes v.rows) c) fact.1)) tt
        (busy_on r (reading_after Sync) v.faults None (RowWrite r n) fact.0, refl)
        (λ k z at f. no_gate k z r fact.0 f)

    pub writes_good : (r : Row) (n : ℕ)
        → may_work (Write (length (journal_bytes v.rows) + 1) (past_gate r)) ≡ true
        → StepFact stories budget v (RowWrite r n)
        → Sound stories budget first past
        (onward (after_call (Write (length (journal_bytes v.rows) + 1) (past_gate r)))
        (RowWrite r n))
    writes_good r n fits fact =
        let call = Write (length (journal_bytes v.rows) + 1) (past_gate r) in
        let old = stands_now r fact.0 None fact.1 in
        goes_on call (RowWrite r n) (RowSync r n) fact refl (
          busy_on r (reading_after call) v.faults v.uncertain (RowSync r n) fact.0,
          fact.1,
          subst (λ (l : List ℕ). IsUnsure (journal_bytes v.rows) (past_gate r) l)
              (sym (seen_is (length (journal_bytes v.rows) + 1) (past_gate r) fits))
              (shut_written (journal_bytes v.rows) (past_gate r)
              (length (journal_bytes v.rows) + 1) refl v.disk.seen old),
        )

    pub write_syncs_good : (r : Row) (n : ℕ) → StepFact stories budget v (RowSync r n)
        → Sound stories budget first past (onward (after_call Sync) (RowSync r n))
    write_syncs_good r n fact =
        stepped stories budget first past v (reading_after Sync) v.faults (Some r)
        (GateWrite r n) sound (stays_after Sync reads v.disk sound.stays)
        (stands_then r fact.0 (reading_after Sync) v.rows (Some r)
        (only (λ (c : List ℕ). IsUnsure (journal_bytes v.rows) (past_gate r) c) fact.2)) fact.0.next
        (busy_on r (reading_after Sync) v.faults (Some r) (GateWrite r n) fact.0, refl)
        (λ k z at f. its_gate k z r fact.0 at f)

    pub opens_good : (r : Row) (n : ℕ)
        → may_work (Write (length (journal_bytes v.rows)) (1 ∷ [])) ≡ true
        → StepFact stories budget v (GateWrite r n)
        → Sound stories budget first past
        (onward (after_call (Write (length (journal_bytes v.rows)) (1 ∷ []))) (GateWrite r n))
    opens_good r n fits fact =
        let call = Write (length (journal_bytes v.rows)) (1 ∷ []) in
        let old = stands_now r fact.0 (Some r) fact.1 in
        goes_on call (GateWrite r n) (GateSync r n) fact refl (
          busy_on r (reading_after call) v.faults v.uncertain (GateSync r n) fact.0,
          fact.1,
          opened_shut v.rows r (past_gate r) (disk_after call true reads v.disk).seen refl
              (subst (λ (l : List ℕ). Holds l 0 (journal_bytes v.rows ++ 1 ∷ past_gate r))
              (sym (seen_is (length (journal_bytes v.rows)) (1 ∷ []) fits))
              (unsure_opened (journal_bytes v.rows) (past_gate r)
              (length (journal_bytes v.rows)) refl v.disk.seen old)),
        )

    pub open_syncs_good : (r : Row) (n : ℕ) → StepFact stories budget v (GateSync r n)
        → Sound stories budget first past
        (onward (after_call Sync) (GateSync r n))
    open_syncs_good r n fact =
        let b = fact.0 in
        let x = b.asker in
        let t = b.turn in
        let here : commands_of (v.rows ++ r ∷ []) r.session
        ≡ commands_in x.history ++ command_listed
        (decision_on stories budget (commands_in x.history) t.line).accepted =
        rows-here r.session v.rows r refl
        ∙ ap (λ (l : List Command). l ++ r.command ∷ []) (busy_rows r b)
        ∙ ap (λ (o : Option Command). commands_in x.history ++ command_listed o) (sym b.accepted) in
        subst (λ (l : List Session). Sound stories budget first past
        (record v {
          sessions = l;
          disk = disk_after Sync true reads v.disk;
          rows =
              v.rows ++ r ∷ [];
          uncertain = None;
          step = Idle;
        })) (sym (set_phase_is r b Kept))
        (rephased stories budget first past v r.session x t Kept (reading_after Sync) v.faults
        (v.rows ++ r ∷ []) None Idle sound record {
          at = b.at;
          stays = stays_after Sync reads v.disk sound.stays;
          images = stands_then r b (reading_after Sync) (v.rows ++ r ∷ []) None
              (only (λ (c : List ℕ). IsShut (journal_bytes (v.rows ++ r ∷ [])) c) fact.2);
          journal = journal_push v.rows r sound.journal b.next;
          follows = tt;
          now = tt;
          fact = busy_fact r b;
          here = rows_with stories budget premise r.session (v.rows ++ r ∷ []) None
              (in_phase x t Kept) v.up b.up here tt;
          elsewhere =
              λ m z other f. rows_with stories budget premise m (v.rows ++ r ∷ []) None z v.up b.up
              (rows-other m v.rows r (λ is. other (sym is))
              ∙ rows_up stories budget premise m v.rows v.uncertain z v.up b.up f) tt;
        })

    -- a call that fails
    pub broken_well : (call : DiskCall) (step : Step) → StepFact stories budget v step
        → next_call v.rows step ≡ Some call
        → is_image (disk_after call false reads v.disk) reads ≡ true → (r : Row) (n : ℕ)
        → Busy stories budget v r
        → Sound stories budget first past (broken (with_fault v call reads) r n)
    broken_well call step fact is allowed r n b =
        let x = b.asker in
        let t = b.turn in
        let fault = fault_counted v.faults in
        let q = disk_after call false reads v.disk in
        subst (λ (l : List Session). Sound stories budget first past
        (record v { sessions = l; disk = q; faults = fault; step = Idle }))
        (sym (set_phase_is r b (Broken n fault)))
        (rephased stories budget first past v r.session x t (Broken n fault) q fault v.rows
        v.uncertain Idle sound record {
          at = b.at;
          stays = stays_bad call reads v.disk allowed;
          images = images_after stories budget v step fact sound.stays sound.images false reads call
              is;
          journal = sound.journal;
          follows = sound.next;
          now = tt;
          fact = busy_fact r b;
          here = rows_with stories budget premise r.session v.rows v.uncertain
              (in_phase x t (Broken n fault)) v.up b.up
              (busy_rows r b ∙ sym (append-nil (commands_in x.history)))
              (nothing_pending stories budget premise v.uncertain r.session
              (in_phase x t (Broken n fault)) refl);
          elsewhere = λ m z other f. f;
        })
