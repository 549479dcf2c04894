-- An event leaves a host's rows, or adds the next one.
use Rattle.std.proofs.Common.{◌≡◌, ◌⊎◌, inl, inr, ◌∙◌, ℕ, ◌==◌, Bool, true, false, List, []}
use Rattle.std.proofs.Common.{◌∷◌, ◌++◌, length, Option, Some, None, refl, sym, ap, subst}
use Rattle.std.specs.Prelude.{IfSome, if◌then◌else◌, slice_index}
use Rattle.std.specs.List.{slice_get}
use Rattle.disk_model.specs.Plain.{is_image}
use Rattle.gate_journal.specs.Rows.{IsNext, journal_bytes, version_byte}
use Rattle.gate_journal.specs.declared.row.Row.{Row}
use Rattle.line_words.specs.declared.reply.Reply.{Reply}
use Rattle.story_run.specs.declared.story.Story.{Story}
use Rattle.session_core.specs.declared.entry.Entry.{Entry}
use Rattle.store_events.specs.Disk.{disk_after, may_work}
use Rattle.host_world.specs.Events.{accept, accept_at, accept_turn, after, begun}
use Rattle.host_world.specs.Events.{call_next, free, gives_reply, hold, holds_journal}
use Rattle.host_world.specs.Events.{run_turn, stop, stopped, take_turn, takes_at, want}
use Rattle.host_world.specs.Happenings.{Happening}
use Rattle.host_world.specs.Headline.{AreGiven}
use Rattle.host_world.specs.Journal.{host_called, comes_up, failed, gate_closed, looked}
use Rattle.host_world.specs.Journal.{next_call, onward, with_disk, with_fault}
use Rattle.host_world.specs.Reading.{rows_in}
use Rattle.host_world.specs.Sessions.{ready_reply, phase_of}
use Rattle.store_events.specs.declared.disk.DiskCall.{DiskCall}
use Rattle.host_world.specs.declared.event.JournalEvent.{JournalEvent}
use Rattle.host_world.specs.declared.event.JournalEvent.TheVariants.{Accept, Call, Free, Give, Hold}
use Rattle.host_world.specs.declared.event.JournalEvent.TheVariants.{Recover, Run, Stop, Take, Want}
use Rattle.host_world.specs.declared.state.JournalHost.{JournalHost}
use Rattle.host_world.specs.declared.state.Step.{Step}
use Rattle.host_world.specs.declared.state.Step.TheVariants.{AskSize, CloseSync, CloseWrite}
use Rattle.host_world.specs.declared.state.Step.TheVariants.{FirstSync, GateSync, GateWrite, Idle}
use Rattle.host_world.specs.declared.state.Step.TheVariants.{ReadAll, RepairSync, RepairWrite}
use Rattle.host_world.specs.declared.state.Step.TheVariants.{RowSync, RowWrite}
use Rattle.host_world.specs.declared.state.Step.TheVariants.{VersionSync, VersionWrite}
use Rattle.host_world.specs.declared.turn.Phase.{Phase}
use Rattle.host_world.specs.declared.turn.Phase.TheVariants.{Asked, Begun, Broken, Freed, Kept}
use Rattle.host_world.specs.declared.turn.Phase.TheVariants.{Plain, Ready, Taken}
use Rattle.host_world.specs.declared.turn.Session.{Session}
use Rattle.host_world.specs.declared.turn.Turn.{Turn}
use Rattle.host_world.proofs.Appends.{begun_well}
use Rattle.host_world.proofs.Openings.{call_well}
use Rattle.host_world.proofs.Sound.{Sound, StepFact}

-- the rows are these, or one more that may stand behind them
abbrev pub Grows : List Row → List Row → Type 0
Grows rows new = (new ≡ rows) ⊎ ((r : Row) × IsNext rows r × (new ≡ rows ++ r ∷ []))

-- ---- events that make no call

want_rows : (w : JournalHost) (s : ℕ) (o : Option Phase) → (want w s o).rows ≡ w.rows
want_rows w s None = refl
want_rows w s (Some Asked) = refl
want_rows w s (Some Begun) = refl
want_rows w s (Some Kept) = refl
want_rows w s (Some (Broken from to)) = refl
want_rows w s (Some Freed) = refl
want_rows w s (Some (Ready outcome)) = refl
want_rows w s (Some (Taken outcome reply)) = refl
want_rows w s (Some (Plain outcome reply)) = refl

hold_rows : (w : JournalHost) (s : ℕ) (o : Option Phase) (holder : Option ℕ)
    → (hold w s o holder).rows ≡ w.rows
hold_rows w s None holder = refl
hold_rows w s (Some Asked) None = refl
hold_rows w s (Some Asked) (Some t) = refl
hold_rows w s (Some Begun) holder = refl
hold_rows w s (Some Kept) holder = refl
hold_rows w s (Some (Broken from to)) holder = refl
hold_rows w s (Some Freed) holder = refl
hold_rows w s (Some (Ready outcome)) holder = refl
hold_rows w s (Some (Taken outcome reply)) holder = refl
hold_rows w s (Some (Plain outcome reply)) holder = refl

free_rows : (w : JournalHost) (s : ℕ) (o : Option Phase) → (free w s o).rows ≡ w.rows
free_rows w s None = refl
free_rows w s (Some Asked) = refl
free_rows w s (Some Begun) = refl
free_rows w s (Some Kept) = refl
free_rows w s (Some (Broken from to)) = refl
free_rows w s (Some Freed) = refl
free_rows w s (Some (Ready outcome)) = refl
free_rows w s (Some (Taken outcome reply)) = refl
free_rows w s (Some (Plain outcome reply)) = refl

run_rows : (w : JournalHost) (s : ℕ) (found : Bool) (o : Option Phase)
    → (run_turn w s found o).rows ≡ w.rows
run_rows w s found None = refl
run_rows w s found (Some Asked) = refl
run_rows w s found (Some Begun) = refl
run_rows w s found (Some Kept) = refl
run_rows w s found (Some (Broken from to)) = refl
run_rows w s found (Some Freed) = refl
run_rows w s found (Some (Ready outcome)) = refl
run_rows w s found (Some (Taken outcome reply)) = refl
run_rows w s found (Some (Plain outcome reply)) = refl

give_rows : (w : JournalHost) (s : ℕ) (o : Option Reply) → (gives_reply w s o).rows ≡ w.rows
give_rows w s None = refl
give_rows w s (Some reply) = refl

if_rows : (w v : JournalHost) (b : Bool) → v.rows ≡ w.rows → (if b then v else w).rows ≡ w.rows
if_rows w v true is = is
if_rows w v false is = refl

pub stop_rows : (w : JournalHost) (images : List (List ℕ)) → (stop w images).rows ≡ w.rows
stop_rows w [] = refl
stop_rows w (image ∷ []) = if_rows w (stopped w image) (is_image w.disk image) refl
stop_rows w (image ∷ other ∷ more) = refl

pub recover_rows : (w : JournalHost) (b : Bool)
    → (if b then w else record w { step = FirstSync }).rows ≡ w.rows
recover_rows w true = refl
recover_rows w false = refl

module _ (stories : List Story) (budget : ℕ) where
  take_rows : (w : JournalHost) (s pass : ℕ) (line : List ℕ) (x : Session) (o : Option Turn)
      → (take_turn stories budget w s pass line x o).rows ≡ w.rows
  take_rows w s pass line x None = refl
  take_rows w s pass line x (Some t) = refl

  takes_rows : (w : JournalHost) (s pass : ℕ) (line : List ℕ) (o : Option Session)
      → (takes_at stories budget w s pass line o).rows ≡ w.rows
  takes_rows w s pass line None = refl
  takes_rows w s pass line (Some x) = take_rows w s pass line x x.turn

  accept_rows : (w : JournalHost) (s : ℕ) (x : Session) (t : Turn) (phase : Phase)
      → (accept stories budget w s x t phase).rows ≡ w.rows
  accept_rows w s x t Asked = refl
  accept_rows w s x t Begun = refl
  accept_rows w s x t Kept = refl
  accept_rows w s x t (Broken from to) = refl
  accept_rows w s x t Freed = refl
  accept_rows w s x t (Ready outcome) = refl
  accept_rows w s x t (Taken outcome reply) = refl
  accept_rows w s x t (Plain outcome reply) = refl

  accepted_rows : (w : JournalHost) (s : ℕ) (x : Session) (o : Option Turn)
      → (accept_turn stories budget w s x o).rows ≡ w.rows
  accepted_rows w s x None = refl
  accepted_rows w s x (Some t) = accept_rows w s x t t.phase

  accepts_rows : (w : JournalHost) (s : ℕ) (o : Option Session)
      → (accept_at stories budget w s o).rows ≡ w.rows
  accepts_rows w s None = refl
  accepts_rows w s (Some x) = accepted_rows w s x x.turn

  -- ---- a call

  -- it adds the next row, or the host comes up
  abbrev GrowsOrRises : JournalHost → JournalHost → Type 0
  GrowsOrRises v new = Grows v.rows new.rows ⊎ ((new.up ≡ true) × (v.up ≡ false))

  closed_rows : (v : JournalHost) (rows : List Row) → v.up ≡ false
      → GrowsOrRises v (gate_closed v rows)
  closed_rows v rows down = of (version_byte v.disk.seen == 1)
    where
      of : (b : Bool) → GrowsOrRises v
          (if b then comes_up v rows else record v { step = VersionWrite rows })
      of true = inr (refl, down)
      of false = inl (inl refl)

  looked_rows : (v : JournalHost) (o : Option (List Row)) → v.up ≡ false → GrowsOrRises v (looked v o)
  looked_rows v None down = inl (inl refl)
  looked_rows v (Some rows) down =
      of (slice_index v.disk.seen (length (journal_bytes rows)) == 0)
    where
      of : (b : Bool) → GrowsOrRises v
          (if b then gate_closed v rows else record v { step = CloseWrite rows })
      of true = closed_rows v rows down
      of false = inl (inl refl)

  onward_rows : (v : JournalHost) (step : Step) → StepFact stories budget v step → (call : DiskCall)
      → (reads : List ℕ) → GrowsOrRises v (onward (with_disk v call true reads) step)
  onward_rows v Idle fact call reads = inl (inl refl)
  onward_rows v (RepairWrite r n) fact call reads = inl (inl refl)
  onward_rows v (RepairSync r n) fact call reads = inl (inl refl)
  onward_rows v (RowWrite r n) fact call reads = inl (inl refl)
  onward_rows v (RowSync r n) fact call reads = inl (inl refl)
  onward_rows v (GateWrite r n) fact call reads = inl (inl refl)
  onward_rows v (GateSync r n) fact call reads = inl (inr (r, fact.0.next, refl))
  onward_rows v FirstSync fact call reads = inl (inl refl)
  onward_rows v AskSize fact call reads = inl (inl refl)
  onward_rows v ReadAll fact call reads =
      looked_rows (with_disk v call true reads) (rows_in (disk_after call true reads v.disk).seen)
      fact.0
  onward_rows v (CloseWrite rows) fact call reads = inl (inl refl)
  onward_rows v (CloseSync rows) fact call reads =
      closed_rows (with_disk v call true reads) rows fact.0
  onward_rows v (VersionWrite rows) fact call reads = inl (inl refl)
  onward_rows v (VersionSync rows) fact call reads = inr (refl, fact.0)

  failed_rows : (v : JournalHost) (step : Step) → (failed v step).rows ≡ v.rows
  failed_rows v Idle = refl
  failed_rows v (RepairWrite r n) = refl
  failed_rows v (RepairSync r n) = refl
  failed_rows v (RowWrite r n) = refl
  failed_rows v (RowSync r n) = refl
  failed_rows v (GateWrite r n) = refl
  failed_rows v (GateSync r n) = refl
  failed_rows v FirstSync = refl
  failed_rows v AskSize = refl
  failed_rows v ReadAll = refl
  failed_rows v (CloseWrite rows) = refl
  failed_rows v (CloseSync rows) = refl
  failed_rows v (VersionWrite rows) = refl
  failed_rows v (VersionSync rows) = refl

  called_rows : (w v : JournalHost) → w.rows ≡ v.rows → (good : Bool) (reads : List ℕ) (step : Step)
      → StepFact stories budget v step → (call : Option DiskCall)
      → GrowsOrRises v (host_called w v good reads step call)
  called_rows w v same good reads step fact None = inl (inl same)
  called_rows w v same true reads step fact (Some call) = of (may_work call)
    where
      of : (b : Bool)
          → GrowsOrRises v (if b then onward (with_disk v call true reads) step else w)
      of true = onward_rows v step fact call reads
      of false = inl (inl same)
  called_rows w v same false reads step fact (Some call) =
      of (is_image (disk_after call false reads v.disk) reads)
    where
      of : (b : Bool) → GrowsOrRises v (if b then failed (with_fault v call reads) step else w)
      of true = inl (inl (failed_rows (with_fault v call reads) step))
      of false = inl (inl same)

  module _ (premise : AreGiven stories budget) (first : ℕ → List Entry)
      (past : ℕ → List Happening) (w : JournalHost) (sound : Sound stories budget first past w) where
    uncertain_next : (u : Row) → w.uncertain ≡ Some u → IsNext w.rows u
    uncertain_next u is = subst (λ (o : Option Row). IfSome o (IsNext w.rows)) is sound.next

    of_reopens : (new : List Row)
        → (new ≡ w.rows) ⊎ ((u : Row) × (w.uncertain ≡ Some u) × (new ≡ w.rows ++ u ∷ []))
        → Grows w.rows new
    of_reopens new (inl same) = inl same
    of_reopens new (inr more) = inr (more.0, uncertain_next more.0 more.1, more.2)

    call_rows : (disk : ℕ) (good : Bool) (reads : List ℕ)
        → Grows w.rows (after stories budget w (Call disk good reads)).rows
    call_rows disk good reads = of (disk == 0) refl
      where
        made : GrowsOrRises (begun stories budget w)
            (call_next w (begun stories budget w) good reads)
        made =
            let b = begun_well stories budget premise first past w sound in
            called_rows w (begun stories budget w) (sym b.1.rows) good reads
            (begun stories budget w).step b.0.step
            (next_call (begun stories budget w).rows (begun stories budget w).step)

        of : (b : Bool) → (disk == 0) ≡ b
            → Grows w.rows (if b then call_next w (begun stories budget w) good reads else w).rows
        of true is =
            let b = begun_well stories budget premise first past w sound in
            elim made [
              | inl grows ↦
                  subst (λ (l : List Row). Grows l
                  (call_next w (begun stories budget w) good reads).rows) b.1.rows grows
              | inr rises ↦
                  let up_is : (after stories budget w (Call disk good reads)).up ≡ true =
                  ap (λ (t : Bool). (if t then call_next w (begun stories budget w) good reads
                  else w).up) is ∙ rises.0 in
                  let well = call_well stories budget premise first past w disk good reads sound in
                  subst (λ (t : Bool). Grows w.rows
                  (if t then call_next w (begun stories budget w) good reads else w).rows) is
                  (of_reopens (after stories budget w (Call disk good reads)).rows
                  (well.reopens (sym b.1.up ∙ rises.1) up_is).rows)
            ]
        of false is = inl refl

    -- whatever happens
    pub after_rows : (event : JournalEvent) → Grows w.rows (after stories budget w event).rows
    after_rows (Take s pass line) =
        inl (if_rows w (takes_at stories budget w s pass line (slice_get w.sessions s)) w.up
        (takes_rows w s pass line (slice_get w.sessions s)))
    after_rows (Want s) = inl (want_rows w s (phase_of (slice_get w.sessions s)))
    after_rows (Hold s) = inl (hold_rows w s (phase_of (slice_get w.sessions s)) w.holder)
    after_rows (Call disk good reads) = call_rows disk good reads
    after_rows (Free s) =
        inl (if_rows w (free w s (phase_of (slice_get w.sessions s))) (holds_journal w s)
        (free_rows w s (phase_of (slice_get w.sessions s))))
    after_rows (Run s found) = inl (run_rows w s found (phase_of (slice_get w.sessions s)))
    after_rows (Accept s) = inl (accepts_rows w s (slice_get w.sessions s))
    after_rows (Give s) =
        inl (give_rows w s (ready_reply (phase_of (slice_get w.sessions s))))
    after_rows (Stop images) = inl (stop_rows w images)
    after_rows Recover = inl (recover_rows w w.up)
