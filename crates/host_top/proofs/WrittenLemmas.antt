-- What `serve` and `init` write, for a caller who is told the output and the disks, and each
-- command where no disk was lent.
use Rattle.std.proofs.Common.{◌≡◌, ℕ, ◌⊎◌, inl, inr, List, [], refl, sym, subst, IsTrue}
use Rattle.gate_journal.specs.Faults.{Explains}
use Rattle.gate_journal.specs.declared.fault.InitFault.{InitFault}
use Rattle.gate_journal.specs.declared.fault.InitFault.TheVariants as begin
use Rattle.gate_journal.specs.declared.fault.JournalFault.{JournalFault}
use Rattle.gate_journal.specs.declared.fault.JournalFault.TheVariants as fault
use Rattle.gate_journal.specs.Faults.{HasInitCause}
use Rattle.story_run.specs.declared.story.Story.{Story}
use Rattle.host_top.specs.DoorServed.{OfDoor}
use Rattle.host_top.specs.Begun.{InitsOn, SaysRefusal, WritesBegun, ready, not_empty}
use Rattle.host_top.specs.Borrowed.{journal_in}
use Rattle.host_top.specs.LinksServed.{ServesOver, WritesLinks}
use Rattle.disk_model.specs.declared.disk.Disk.{Ghosts as DiskWords}
use Rattle.host_top.specs.Files.{IsLentFrom, OutsideState, Told}
use Rattle.host_top.specs.declared.folder.Back.{Back}
use Rattle.host_top.specs.declared.folder.Back.TheVariants as back
use Rattle.host_top.specs.Said.{SaysFault, SaysLine, bad_journal, bad_journal_at}
use Rattle.host_top.specs.Served.{RefusesJournal}
use Rattle.host_top.specs.Status.{status_of_stop}
use Rattle.line_talk.specs.Streams.{SourceState, SinkState}
use Rattle.line_talk.specs.Writing.{IsPartOf}
use Rattle.line_talk.specs.declared.sink.Stop.{Stop}
use Rattle.line_talk.specs.declared.sink.Stop.TheVariants as stop
use Rattle.host_top.specs.declared.status.Status.{Status}
use Rattle.host_top.specs.declared.status.Status.TheVariants.{Done, DiskFault, NoMemory}
use Rattle.host_top.specs.declared.status.Status.TheVariants.{BadFolder, DoorFault}
use Rattle.host_top.proofs.ServedLemmas.{where_told, WroteSome}

-- ---- what `serve` writes

cut_links : {D : Type 0} (disks : DiskWords D) (journal : Told D) (line part : List ℕ)
    (cause : Stop)
    → RefusesJournal disks journal line → IsPartOf part line
    → WritesLinks (status_of_stop cause) disks journal part
cut_links disks journal line part stop.Output refuses begins = (line, refuses, begins)
cut_links disks journal line part stop.Memory refuses begins = inr (line, refuses, begins)

refusal_links : {D : Type 0} (disks : DiskWords D) (journal : Told D) (line : List ℕ)
    (output new : SinkState) (status : Status)
    → RefusesJournal disks journal line → SaysLine BadFolder line output new status
    → WroteSome output new (WritesLinks status disks journal)
refusal_links disks journal line output new status refuses (inl said) =
    (line, said.1, subst (λ (s : Status). WritesLinks s disks journal line) (sym said.0) refuses)
refusal_links disks journal line output new status refuses (inr (cause, is, stopped)) = (
  stopped.wrote.part,
  stopped.wrote.wrote,
  subst (λ (s : Status). WritesLinks s disks journal stopped.wrote.part) (sym is)
      (cut_links disks journal line stopped.wrote.part cause refuses
      (stopped.rest, stopped.wrote.split)),
)

fault_links : {D : Type 0} (disks : DiskWords D) (journal : Told D) (given : D)
    (output new : SinkState) (status : Status) (why : JournalFault)
    → (IsTrue (disks.tells given) → IsLentFrom disks journal given)
    → (IsTrue (disks.tells given) → Explains (disks.seen given) why)
    → SaysFault why output new status → WroteSome output new (WritesLinks status disks journal)
fault_links disks journal given output new status fault.NotJournal lent explains says =
    refusal_links disks journal bad_journal output new status
    (inl (refl, where_told disks journal given _ lent explains)) says
fault_links disks journal given output new status (fault.Corrupt place) lent explains says =
    refusal_links disks journal (bad_journal_at place) output new status
    (inr (place, refl, where_told disks journal given _ lent explains)) says
fault_links disks journal given output new status (fault.DiskFault counts) lent explains says =
    ([], says.1, subst (λ (s : Status). WritesLinks s disks journal []) (sym says.0) refl)
fault_links disks journal given output new status fault.NoMemory lent explains says =
    ([], says.1, subst (λ (s : Status). WritesLinks s disks journal []) (sym says.0) (inl refl))

nothing_links : {D : Type 0} (disks : DiskWords D) (journal : Told D) (status : Status)
    → (status ≡ Done) ⊎ (status ≡ DoorFault) ⊎ (status ≡ NoMemory)
    → WritesLinks status disks journal []
nothing_links disks journal status (inl done) =
    subst (λ (s : Status). WritesLinks s disks journal []) (sym done) refl
nothing_links disks journal status (inr (inl door)) =
    subst (λ (s : Status). WritesLinks s disks journal []) (sym door) refl
nothing_links disks journal status (inr (inr wanted)) =
    subst (λ (s : Status). WritesLinks s disks journal []) (sym wanted) (inl refl)

pub links_told : {D : Type 0} (disks : DiskWords D) (OnDoor : OfDoor D) (stories : List Story)
    (budget workers : ℕ) (journal : Told D) (given : D) (givens : List D) (b : Back D)
    (input now : SourceState) (output new : SinkState) (status : Status)
    → (IsTrue (disks.tells given) → IsLentFrom disks journal given)
    → ServesOver disks OnDoor stories budget workers given givens b input now output new status
    → WroteSome output new (WritesLinks status disks journal)
links_told disks OnDoor stories budget workers journal given givens (back.All j snaps) input now
    output new status lent served = ([], served.wrote, nothing_links disks journal status served.how)
links_told disks OnDoor stories budget workers journal given givens (back.Journal j) input now
    output new status lent n =
    fault_links disks journal given output new status n.fault lent n.explains n.says
links_told disks OnDoor stories budget workers journal given givens (back.Snap session snap) input
    now output new status lent f =
    ([], f.wrote, subst (λ (s : Status). WritesLinks s disks journal []) (sym f.failed) refl)
links_told disks OnDoor stories budget workers journal given givens back.Nothing input now output
    new status lent l =
    ([], l.wrote, subst (λ (s : Status). WritesLinks s disks journal []) (sym l.wanted) (inl refl))

-- what holds where a first step failed, and where it found no memory
pub never_begun : (W : Status → Type 0) (bad status : Status) (P : Type 0) → W bad → W NoMemory
    → (status ≡ bad) × P ⊎ (status ≡ NoMemory) → W status
never_begun W bad status P failed wanted (inl is) = subst W (sym is.0) failed
never_begun W bad status P failed wanted (inr is) = subst W (sym is) wanted

-- ---- what `init` writes

cut_begun : {D : Type 0} (disks : DiskWords D) (journal : Told D) (part : List ℕ) (cause : Stop)
    → IsPartOf part ready ⊎ IsPartOf part not_empty
    → WritesBegun (status_of_stop cause) disks journal part
cut_begun disks journal part stop.Output begins = begins
cut_begun disks journal part stop.Memory begins = begins

line_begun : {D : Type 0} (disks : DiskWords D) (journal : Told D) (line : List ℕ)
    (output new : SinkState) (good status : Status) → WritesBegun good disks journal line
    → ((part : List ℕ) → IsPartOf part line → IsPartOf part ready ⊎ IsPartOf part not_empty)
    → SaysLine good line output new status → WroteSome output new (WritesBegun status disks journal)
line_begun disks journal line output new good status writes begins (inl said) =
    (line, said.1, subst (λ (s : Status). WritesBegun s disks journal line) (sym said.0) writes)
line_begun disks journal line output new good status writes begins (inr (cause, is, stopped)) = (
  stopped.wrote.part,
  stopped.wrote.wrote,
  subst (λ (s : Status). WritesBegun s disks journal stopped.wrote.part) (sym is)
      (cut_begun disks journal stopped.wrote.part cause
      (begins stopped.wrote.part (stopped.rest, stopped.wrote.split))),
)

refused_begun : {D : Type 0} (disks : DiskWords D) (journal : Told D) (given : D) (before now : ℕ)
    (output new : SinkState) (status : Status) (why : InitFault)
    → (IsTrue (disks.tells given) → IsLentFrom disks journal given)
    → HasInitCause (disks.tells given) (disks.seen given) before now why
    → SaysRefusal why output new status → WroteSome output new (WritesBegun status disks journal)
refused_begun disks journal given before now output new status begin.NotEmpty lent cause says =
    line_begun disks journal not_empty output new BadFolder status
    (refl, where_told disks journal given _ lent cause.0) (λ part begins. inr begins) says
refused_begun disks journal given before now output new status (begin.DiskFault counts) lent cause
    says =
    ([], says.1, subst (λ (s : Status). WritesBegun s disks journal []) (sym says.0) refl)

not_lent_begun : {D : Type 0} (disks : DiskWords D) (journal : Told D) (status : Status)
    (P : Type 0) → (status ≡ DiskFault) × P ⊎ (status ≡ NoMemory)
    → WritesBegun status disks journal []
not_lent_begun disks journal status P = never_begun
    (λ (s : Status). WritesBegun s disks journal []) DiskFault status P refl (inl (ready, refl))

pub init_told : {D : Type 0} (disks : DiskWords D) (folder : List ℕ)
    (outside beyond : OutsideState D) (input now : SourceState) (output new : SinkState)
    (status : Status)
    → InitsOn disks folder outside beyond input now output new status
    → WroteSome output new (WritesBegun status disks (outside.disk (journal_in folder)))
init_told disks folder outside beyond input now output new status (inl none) =
    ([], none.wrote, not_lent_begun disks (outside.disk (journal_in folder)) status _ none.cause)
init_told disks folder outside beyond input now output new status (inr i) =
    let lent = i.inits.borrowed.each.0.lent in
    elim i.inits.does [
      | inl done ↦ elim done.1 [
        | inl b ↦ line_begun disks (outside.disk (journal_in folder)) ready output new Done status
            (refl, where_told disks (outside.disk (journal_in folder)) i.given _ lent b.0.empty)
            (λ part begins. inl begins) b.0.says
        | inr n ↦ refused_begun disks (outside.disk (journal_in folder)) i.given
            (disks.faults i.given) (disks.faults i.back) output new status n.0.fault lent n.0.cause
            n.0.says
      ]
      | inr u ↦ (
        [],
        u.wrote,
        not_lent_begun disks (outside.disk (journal_in folder)) status _ u.cause,
      )
    ]
