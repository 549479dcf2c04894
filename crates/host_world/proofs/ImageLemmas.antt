-- What device calls do to the images of the journal.
use Rattle.std.proofs.Common.{Bool, List, None, Option, Some, [], ap}
use Rattle.std.proofs.Common.{length, refl, subst, sym, ℕ, ◌+◌, ◌∙◌, ◌∷◌, ◌≡◌, ◌≢◌, true, false}
use Rattle.disk_model.specs.DiskState.{DiskState, IsDiskImage}
use Rattle.gate_journal.proofs.Steps.{shut_torn, unsure_torn}
use Rattle.gate_journal.proofs.Opening.{gate_torn}
use Rattle.gate_journal.proofs.VersionLemmas.{version_torn}
use Rattle.gate_journal.specs.Rows.{journal_bytes, version_byte}
use Rattle.gate_journal.specs.declared.row.Row.{Row}
use Rattle.story_run.specs.declared.story.Story.{Story}
use Rattle.store_events.proofs.ImageLemmas.{look_leaves, sync_leaves, write_leaves}
use Rattle.store_events.specs.Disk.{disk_after}
use Rattle.host_world.specs.Journal.{next_call}
use Rattle.host_world.specs.Reading.{past_gate}
use Rattle.store_events.specs.declared.disk.DiskCall.{DiskCall}
use Rattle.store_events.specs.declared.disk.DiskCall.TheVariants.{Look, Sync, Write}
use Rattle.host_world.specs.declared.state.JournalHost.{JournalHost}
use Rattle.host_world.specs.declared.state.Step.{Step}
use Rattle.host_world.specs.declared.state.Step.TheVariants.{AskSize, CloseSync, CloseWrite}
use Rattle.host_world.specs.declared.state.Step.TheVariants.{FirstSync, GateSync, GateWrite, Idle}
use Rattle.host_world.specs.declared.state.Step.TheVariants.{ReadAll, RepairSync, RepairWrite}
use Rattle.host_world.specs.declared.state.Step.TheVariants.{RowSync, RowWrite}
use Rattle.host_world.specs.declared.state.Step.TheVariants.{VersionSync, VersionWrite}
use Rattle.host_world.proofs.Lists.{some_none, some_same}
use Rattle.host_world.proofs.Sound.{Stands, StepFact}

module _ (stories : List Story) (budget : ℕ) where
  module _ (first_images : JournalHost) where
    abbrev w : JournalHost
    w = first_images

    abbrev All : DiskState → Type 0
    All p = (c : List ℕ) → IsDiskImage p c → Stands w.up w.rows w.uncertain c

    -- the same with the row behind the gate by its name
    stands_so : (up : Bool) (u : Option Row) → w.up ≡ up → w.uncertain ≡ u
        → (c : List ℕ) → Stands w.up w.rows w.uncertain c → Stands up w.rows u c
    stands_so up u rises is c stands =
        subst (λ (o : Option Row). Stands up w.rows o c) is
        (subst (λ (b : Bool). Stands b w.rows w.uncertain c) rises stands)

    stands_back : (up : Bool) (u : Option Row) → w.up ≡ up → w.uncertain ≡ u
        → (c : List ℕ) → Stands up w.rows u c → Stands w.up w.rows w.uncertain c
    stands_back up u rises is c stands =
        subst (λ (b : Bool). Stands b w.rows w.uncertain c) (sym rises)
        (subst (λ (o : Option Row). Stands up w.rows o c) (sym is) stands)

    gate_write : (u : Row) → w.up ≡ true → w.uncertain ≡ Some u → All w.disk
        → (byte : ℕ) (good : Bool) (reads : List ℕ)
        → All (disk_after (Write (length (journal_bytes w.rows)) (byte ∷ [])) good reads w.disk)
    gate_write u rises is all byte good reads c image =
        let from =
        write_leaves good (length (journal_bytes w.rows)) (byte ∷ []) reads w.disk c image in
        stands_back true (Some u) rises is c
        (unsure_torn (journal_bytes w.rows) (past_gate u)
        (length (journal_bytes w.rows)) refl c from.0
        (stands_so true (Some u) rises is from.0 (all from.0 from.1)) from.2)

    past_write : w.up ≡ true → w.uncertain ≡ None → All w.disk → (piece : List ℕ) (good : Bool)
        (reads : List ℕ)
        → All (disk_after (Write (length (journal_bytes w.rows) + 1) piece) good reads w.disk)
    past_write rises is all piece good reads c image =
        let from =
        write_leaves good (length (journal_bytes w.rows) + 1) piece reads w.disk c image in
        stands_back true None rises is c
        (shut_torn (journal_bytes w.rows) (length (journal_bytes w.rows) + 1)
        (length piece) refl c from.0 (stands_so true None rises is from.0 (all from.0 from.1))
        from.2)

    -- the writes of an opening: of the gate, and of the version
    close_write : (u : Row) → w.up ≡ false → w.uncertain ≡ Some u → All w.disk
        → (byte : ℕ) (good : Bool) (reads : List ℕ)
        → All (disk_after (Write (length (journal_bytes w.rows)) (byte ∷ [])) good reads w.disk)
    close_write u down is all byte good reads c image =
        let from =
        write_leaves good (length (journal_bytes w.rows)) (byte ∷ []) reads w.disk c image in
        stands_back false (Some u) down is c
        (gate_torn w.rows u (length (journal_bytes w.rows)) from.0 c refl
        (stands_so false (Some u) down is from.0 (all from.0 from.1)) from.2)

    version_write : w.up ≡ false → version_byte w.disk.seen ≢ 1
        → ((c : List ℕ) → IsDiskImage w.disk c → c ≡ w.disk.seen) → All w.disk
        → (good : Bool) (reads : List ℕ) → All (disk_after (Write 8 (1 ∷ [])) good reads w.disk)
    version_write down older only all good reads c image =
        let from = write_leaves good 8 (1 ∷ []) reads w.disk c image in
        stands_back false w.uncertain down refl c
        (version_torn w.rows w.uncertain from.0 c
        (stands_so false w.uncertain down refl from.0 (all from.0 from.1))
        (subst (λ (l : List ℕ). version_byte l ≢ 1) (sym (only from.0 from.1)) older) from.2)

    quiet_sync : IsDiskImage w.disk w.disk.seen → All w.disk → (good : Bool) (reads : List ℕ)
        → All (disk_after Sync good reads w.disk)
    quiet_sync stays all good reads c image = all c (sync_leaves good reads w.disk c stays image)

    abbrev Leaves : Bool → List ℕ → DiskCall → Type 0
    Leaves good reads d = All (disk_after d good reads w.disk)

    -- no call takes the images from where they stand
    pub images_after : (step : Step)
        → StepFact stories budget w step
        → IsDiskImage w.disk w.disk.seen
        → All w.disk → (good : Bool) (reads : List ℕ) (call : DiskCall)
        → next_call w.rows step ≡ Some call → All (disk_after call good reads w.disk)
    images_after Idle fact stays all good reads call is = absurd (some_none call (sym is))
    images_after (RepairWrite r n) fact stays all good reads call is =
        subst (Leaves good reads)
        (some_same (Write (length (journal_bytes w.rows)) (0 ∷ [])) call is)
        (gate_write fact.1.0 fact.0.up fact.1.1 all 0 good reads)
    images_after (RepairSync r n) fact stays all good reads call is =
        subst (Leaves good reads) (some_same Sync call is) (quiet_sync stays all good reads)
    images_after (RowWrite r n) fact stays all good reads call is =
        subst (Leaves good reads) (some_same
        (Write (length (journal_bytes w.rows) + 1) (past_gate r)) call is)
        (past_write fact.0.up fact.1 all (past_gate r) good reads)
    images_after (RowSync r n) fact stays all good reads call is =
        subst (Leaves good reads) (some_same Sync call is) (quiet_sync stays all good reads)
    images_after (GateWrite r n) fact stays all good reads call is =
        subst (Leaves good reads)
        (some_same (Write (length (journal_bytes w.rows)) (1 ∷ [])) call is)
        (gate_write r fact.0.up fact.1 all 1 good reads)
    images_after (GateSync r n) fact stays all good reads call is =
        subst (Leaves good reads) (some_same Sync call is) (quiet_sync stays all good reads)
    images_after FirstSync fact stays all good reads call is =
        subst (Leaves good reads) (some_same Sync call is) (quiet_sync stays all good reads)
    images_after AskSize fact stays all good reads call is =
        subst (Leaves good reads) (some_same Look call is)
        (λ c image. all c (look_leaves good reads w.disk c image))
    images_after ReadAll fact stays all good reads call is =
        subst (Leaves good reads) (some_same Look call is)
        (λ c image. all c (look_leaves good reads w.disk c image))
    images_after (CloseWrite those) fact stays all good reads call is =
        subst (Leaves good reads) (ap (λ (l : List Row). Write (length (journal_bytes l)) (0 ∷ []))
        (sym fact.1) ∙ some_same (Write (length (journal_bytes those)) (0 ∷ [])) call is)
        (close_write fact.2.0 fact.0 fact.2.1 all 0 good reads)
    images_after (CloseSync found) fact stays all good reads call is =
        subst (Leaves good reads) (some_same Sync call is) (quiet_sync stays all good reads)
    images_after (VersionWrite found) fact stays all good reads call is =
        subst (Leaves good reads) (some_same (Write 8 (1 ∷ [])) call is)
        (version_write fact.0 fact.3 fact.4 all good reads)
    images_after (VersionSync found) fact stays all good reads call is =
        subst (Leaves good reads) (some_same Sync call is) (quiet_sync stays all good reads)
