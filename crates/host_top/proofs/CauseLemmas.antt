-- The status of a disk that failed.
use Rattle.std.proofs.Common.{◌≡◌, ◌⊎◌, ◌∙◌, ℕ, zero, suc, Bool, inl, inr, List, [], ◌∷◌, length}
use Rattle.std.proofs.Common.{slice_get, refl, sym, subst, arith, Some, Result, Ok, Err}
use Rattle.gate_journal.specs.Faults.{HasCause, HasInitCause}
use Rattle.gate_journal.specs.declared.fault.InitFault.{InitFault}
use Rattle.gate_journal.specs.declared.fault.InitFault.TheVariants as begin
use Rattle.gate_journal.specs.declared.fault.JournalFault.{JournalFault}
use Rattle.gate_journal.specs.declared.fault.JournalFault.TheVariants as fault
use Rattle.journal_pack.specs.Faults.{Counts, HasPackCause}
use Rattle.journal_pack.specs.declared.fault.PackFault.{PackFault}
use Rattle.journal_pack.specs.declared.fault.PackFault.TheVariants as pack
use Rattle.story_run.specs.declared.story.Story.{Story}
use Rattle.host_top.specs.DoorServed.{OfDoor}
use Rattle.host_top.specs.Begun.{InitsOn, SaysRefusal}
use Rattle.host_top.specs.Borrowed.{HasFailed, Lending, NotLent, journal_in, lent_as, snaps_below}
use Rattle.host_top.specs.Folder.{TakesDisks, back_at, folder_back}
use Rattle.host_top.specs.declared.folder.Back.{Back}
use Rattle.host_top.specs.declared.folder.Back.TheVariants as back
use Rattle.line_talk.specs.Causes.{Rose}
use Rattle.disk_model.specs.declared.disk.Disk.{Ghosts as DiskWords}
use Rattle.host_top.specs.Files.{OutsideState}
use Rattle.host_top.specs.Follows.{DoesTask, FollowsCommand}
use Rattle.host_top.specs.LinksServed.{LinksServed, ServesOver}
use Rattle.host_top.specs.Piped.{HostedOver, PipesOver}
use Rattle.host_top.specs.Said.{SaysFault, SaysLine}
use Rattle.host_top.specs.Packed.{IsNotPacked, Journals, PacksOn, PacksOver, SaysPackFault, journal_loan}
use Rattle.host_top.specs.Replayed.{ReplaysOn, ReplaysOver}
use Rattle.host_top.specs.Speech.{Task, Says, Serves, ServesLinks, Begins, Replays, PacksFrom}
use Rattle.host_top.specs.Status.{status_of, status_of_end}
use Rattle.line_talk.specs.Streams.{SourceState, SinkState, Wrote}
use Rattle.command_words.specs.Words.{Asked}
use Rattle.host_top.proofs.LinksLemmas.{fault_no_door}
use Rattle.host_top.proofs.LendingLemmas.{same_item}
use Rattle.host_top.proofs.NameLemmas.{snaps_many}
use Rattle.turn_cell.specs.History.{Each}
use Rattle.line_talk.specs.declared.ended.Ended.{Ended}
use Rattle.line_talk.specs.declared.ended.Ended.TheVariants as ended
use Rattle.line_talk.specs.Ends.{ended_by}
use Rattle.host_top.specs.declared.status.Status.{Status}
use Rattle.host_top.specs.declared.status.Status.TheVariants.{Done, BadWords, ReadFault, WriteFault}
use Rattle.host_top.specs.declared.status.Status.TheVariants.{DiskFault, DoorFault, NoMemory}

-- no end of a connection has this status
no_end : (how : Ended) (A : Type 0) → DiskFault ≡ status_of_end how → A
no_end ended.End A e = absurd (grind (arith, e))
no_end ended.ReadFault A e = absurd (grind (arith, e))
no_end ended.WriteFault A e = absurd (grind (arith, e))
no_end ended.NoMemory A e = absurd (grind (arith, e))
no_end ended.LineLimit A e = absurd (grind (arith, e))

pub no_line : {good : Status} {line : List ℕ} {output new : SinkState} (A : Type 0)
    → (DiskFault ≡ good → A) → SaysLine good line output new DiskFault → A
no_line A f (inl said) = f said.0
no_line A f (inr (cause, is, stopped)) = no_end (ended_by cause) A is

-- P holds, and nothing was written
abbrev Failed : Type 0 → SinkState → SinkState → Type 0
Failed P output new = P × Wrote output new []

opening_failed : (why : JournalFault) (before now : ℕ) (output new : SinkState)
    → HasCause before now why → SaysFault why output new DiskFault
    → Failed (Rose before now) output new
opening_failed fault.NotJournal before now output new cause says =
    no_line _ (λ e. absurd (grind (arith, e))) says
opening_failed (fault.Corrupt place) before now output new cause says =
    no_line _ (λ e. absurd (grind (arith, e))) says
opening_failed (fault.DiskFault counts) before now output new cause says = (cause.rose, says.1)
opening_failed fault.NoMemory before now output new cause says = absurd (grind (arith, says.0))

-- a store's disk rose among those of all
rose_at : {D : Type 0} (disks : DiskWords D) (P : Type 0) (ns : List (List ℕ)) (gs : List D) (s : ℕ)
    (g d : D) → length gs ≡ length ns → slice_get gs s ≡ Some g
    → Each (λ l. HasFailed disks l → P) (back_at s d (lent_as ns gs))
    → Rose (disks.faults g) (disks.faults d) → P
rose_at disks P ns [] s g d many there each rose = absurd (grind (arith, there))
rose_at disks P [] (h ∷ gs) s g d many there each rose = absurd (omega (arith, many))
rose_at {D} disks P (n ∷ ns) (h ∷ gs) zero g d many there each rose =
    each.0 (subst (λ (x : D). Rose (disks.faults x) (disks.faults d)) (sym (same_item h g there))
    rose)
rose_at disks P (n ∷ ns) (h ∷ gs) (suc s) g d many there each rose =
    rose_at disks P ns gs s g d (omega (arith, many)) there each.1 rose

-- where a host isn't opened, since a disk failed, of which P follows
hosted_failed : {D : Type 0} (disks : DiskWords D) (Hosts : D → List D → Type 0) (folder : List ℕ)
    (given : D) (givens : List D) (b : Back D) (P : Type 0)
    (input now : SourceState) (output new : SinkState) → length givens ≡ 64
    → Each (λ l. HasFailed disks l → P)
    (folder_back (journal_in folder) (snaps_below folder 64) given givens b)
    → ((journal : D) (snaps : List D) → Hosts journal snaps → Failed P output new)
    → HostedOver Hosts disks given givens b input now output new DiskFault → Failed P output new
hosted_failed disks Hosts folder given givens (back.All journal snaps) P input now
    output new many each f hosts = f journal snaps.items hosts
hosted_failed disks Hosts folder given givens (back.Journal journal) P input now output
    new many each f n =
    let failed =
    opening_failed n.fault (disks.faults given) (disks.faults journal) output new n.cause n.says
    in (each.0 failed.0, failed.1)
hosted_failed disks Hosts folder given givens (back.Snap session snap) P input now
    output new many each f s = (
      rose_at disks _ (snaps_below folder 64) givens session s.given snap
          (many ∙ sym (snaps_many folder 64)) s.stands each.1 s.rose,
      s.wrote,
    )
hosted_failed disks Hosts folder given givens back.Nothing P input now output new many
    each f l = absurd (grind (arith, l.wanted))

pub pipe_failed : {D : Type 0} (disks : DiskWords D) {stories : List Story} {budget : ℕ}
    (folder : List ℕ) {outside beyond : OutsideState D} (P : Type 0) {input now : SourceState}
    (output new : SinkState)
    (t : TakesDisks disks folder
    (λ given givens b. PipesOver disks stories budget given givens b input now
    output new DiskFault) outside beyond)
    → Each (λ l. HasFailed disks l → P)
    (folder_back (journal_in folder) (snaps_below folder 64) t.given t.givens t.back)
    → Failed P output new
pipe_failed disks folder P {input} {now} output new t each =
    hosted_failed disks _ folder t.given t.givens t.back P input now output new t.many
    each (λ journal snaps hosts. no_end hosts.0 _ hosts.1) t.done

no_links : {D : Type 0} (disks : DiskWords D) {OnDoor : OfDoor D} {stories : List Story}
    {budget workers : ℕ} {given back : D} {givens backs : List D} {input now : SourceState}
    {output new : SinkState} (A : Type 0)
    → LinksServed disks OnDoor stories budget workers given givens back backs input now output new
    DiskFault → A
no_links disks A served = elim served.how [
  | inl done ↦ absurd (grind (arith, done))
  | inr (inl door) ↦ absurd (grind (arith, door))
  | inr (inr wanted) ↦ absurd (grind (arith, wanted))
]

pub links_failed : {D : Type 0} (disks : DiskWords D) {OnDoor : OfDoor D} {stories : List Story}
    {budget workers : ℕ} (folder : List ℕ)
    {outside beyond : OutsideState D} (P : Type 0) {input now : SourceState}
    (output new : SinkState)
    (t : TakesDisks disks folder
    (λ given givens b. ServesOver disks OnDoor stories budget workers given givens b input now
    output new DiskFault) outside beyond)
    → Each (λ l. HasFailed disks l → P)
    (folder_back (journal_in folder) (snaps_below folder 64) t.given t.givens t.back)
    → Failed P output new
links_failed disks folder P {input} {now} output new t each =
    hosted_failed disks _ folder t.given t.givens t.back P input now output new t.many
    each (λ journal snaps hosts. no_links disks _ hosts) t.done

pub refusal_failed : (why : InitFault) (tells : Bool) (seen : List ℕ) (before now : ℕ)
    (output new : SinkState) → HasInitCause tells seen before now why
    → SaysRefusal why output new DiskFault
    → Failed (Rose before now) output new
refusal_failed begin.NotEmpty tells seen before now output new cause says =
    no_line _ (λ e. absurd (grind (arith, e))) says
refusal_failed (begin.DiskFault counts) tells seen before now output new cause says =
    (cause.rose, says.1)

not_lent_failed : {D : Type 0} (disks : DiskWords D) (names : List (List ℕ))
    (outside beyond : OutsideState D) {input now : SourceState} (output new : SinkState)
    → NotLent disks names outside beyond input now output new DiskFault
    → Failed (Rose outside.disk_faults beyond.disk_faults) output new
not_lent_failed disks names outside beyond output new none = elim none.cause [
  | inl failed ↦ (failed.1, none.wrote)
  | inr wanted ↦ absurd (grind (arith, wanted))
]

init_failed : {D : Type 0} (disks : DiskWords D) (folder : List ℕ) (outside beyond : OutsideState D)
    {input now : SourceState} (output new : SinkState)
    → InitsOn disks folder outside beyond input now output new DiskFault
    → Failed (Rose outside.disk_faults beyond.disk_faults) output new
init_failed disks folder outside beyond output new (inl none) =
    not_lent_failed disks (journal_in folder ∷ []) outside beyond output new none
init_failed disks folder outside beyond output new (inr i) = elim i.inits.does [
  | inl done ↦ elim done.1 [
    | inl b ↦ no_line _ (λ e. absurd (grind (arith, e))) b.0.says
    | inr n ↦ let failed =
        refusal_failed n.0.fault (disks.tells i.given) (disks.seen i.given) (disks.faults i.given)
        (disks.faults i.back) output new n.0.cause n.0.says in
        (done.0.rose.0 failed.0, failed.1)
  ]
  | inr u ↦ elim u.cause [
    | inl failed ↦ (failed.1, u.wrote)
    | inr wanted ↦ absurd (grind (arith, wanted))
  ]
]

pub replayed_failed : {D : Type 0} (disks : DiskWords D) (stories : List Story)
    {given back : D} (P : Type 0) (output new : SinkState)
    → ReplaysOver disks stories given back output new DiskFault
    → (Rose (disks.faults given) (disks.faults back) → P) → Failed P output new
replayed_failed disks stories {given} {back} P output new r f = elim r.does [
  | inl t ↦ no_line _ (λ e. absurd (grind (arith, e))) t.says
  | inr n ↦ let failed =
      opening_failed n.fault (disks.faults given) (disks.faults back) output new n.cause n.says
      in (f failed.0, failed.1)
]

replay_failed : {D : Type 0} (disks : DiskWords D) (stories : List Story) (folder : List ℕ)
    (outside beyond : OutsideState D) {input now : SourceState} (output new : SinkState)
    → ReplaysOn disks stories folder outside beyond input now output new DiskFault
    → Failed (Rose outside.disk_faults beyond.disk_faults) output new
replay_failed disks stories folder outside beyond output new (inl none) =
    not_lent_failed disks (journal_in folder ∷ []) outside beyond output new none
replay_failed disks stories folder outside beyond output new (inr r) =
    replayed_failed disks stories _ output new r.replays r.counts.rose.0

-- no line of a packing ends so
packing_failed : (why : PackFault) (before after : Counts) (output new : SinkState)
    → HasPackCause before after why → SaysPackFault why output new DiskFault
    → (Rose before.old after.old ⊎ Rose before.new after.new) × Wrote output new []
packing_failed (pack.Old fault) before after output new cause says =
    let failed = opening_failed fault before.old after.old output new cause.0 says in
    (inl failed.0, failed.1)
packing_failed pack.NotEmpty before after output new cause says =
    no_line _ (λ e. absurd (grind (arith, e))) says
packing_failed (pack.New counts) before after output new cause says =
    (inr cause.1.rose, says.1)
packing_failed pack.NoMemory before after output new cause says = absurd (grind (arith, says.0))

-- where a disk of both journals' failed, of which P follows
pack_counted : {D : Type 0} (disks : DiskWords D) (old new : List ℕ) (both : Journals D)
    (stores : List (Lending D)) (P : Type 0) (output after : SinkState)
    → Each (λ l. HasFailed disks l → P)
    (journal_loan old both.old both.old_back ∷ journal_loan new both.new both.new_back ∷ stores)
    → IsNotPacked disks both output after DiskFault → Failed P output after
pack_counted disks old new both stores P output after each n =
    let failed = packing_failed n.fault _ _ output after n.cause n.says in (
      elim failed.0 [
        | inl first ↦ each.0 first
        | inr second ↦ each.1.0 second
      ],
      failed.1,
    )

-- a packing that ends so failed by one of its disks
pub over_failed : {D : Type 0} (disks : DiskWords D) (both : Journals D) (given : D)
    (output after : SinkState) (status : Status) → disks.faults both.new ≡ disks.faults given
    → PacksOver disks both output after status → status ≡ DiskFault
    → Rose (disks.faults both.old) (disks.faults both.old_back)
    ⊎ Rose (disks.faults given) (disks.faults both.new_back)
over_failed disks both given output after status same over is =
    elim (subst (λ (s : Status). PacksOver disks both output after s) is over).does [
      | inl packed ↦ no_line _ (λ e. absurd (grind (arith, e))) packed.says
      | inr n ↦ subst (λ (count : ℕ). Rose (disks.faults both.old) (disks.faults both.old_back)
          ⊎ Rose count (disks.faults both.new_back)) same
          (packing_failed n.fault _ _ output after n.cause n.says).0
    ]

pack_failed : {D : Type 0} (disks : DiskWords D) (old into : List ℕ)
    (outside beyond : OutsideState D) {input now : SourceState} (output new : SinkState)
    → PacksOn disks old into outside beyond input now output new DiskFault
    → Failed (Rose outside.disk_faults beyond.disk_faults) output new
pack_failed disks old into outside beyond output new (inl none) =
    not_lent_failed disks (journal_in old ∷ journal_in into ∷ []) outside beyond output new none
pack_failed disks old into outside beyond output new (inr p) = elim p.packs.does [
  | inl done ↦ elim done.1 [
    | inl over ↦ elim over.0.does [
      | inl packed ↦ no_line _ (λ e. absurd (grind (arith, e))) packed.says
      | inr n ↦ pack_counted disks old into p.both p.stores _ output new done.0.rose n
    ]
    | inr n ↦ pack_counted disks old into p.both p.stores _ output new done.0.rose n.0
  ]
  | inr u ↦ elim u.0.cause [
    | inl failed ↦ (failed.1, u.0.wrote)
    | inr wanted ↦ absurd (grind (arith, wanted))
  ]
]

does_failed : {D : Type 0} (disks : DiskWords D) (OnDoor : OfDoor D) (task : Result Task (List ℕ))
    (outside beyond : OutsideState D) (input now : SourceState) (output new : SinkState)
    → DoesTask disks OnDoor task outside beyond input now output new DiskFault
    → Failed (Rose outside.disk_faults beyond.disk_faults) output new
does_failed disks OnDoor (Err line) outside beyond input now output new does = absurd does.0.leaves
does_failed disks OnDoor (Ok (Says speech)) outside beyond input now output new does = absurd
    does.0.leaves
does_failed disks OnDoor (Ok (Serves stories budget folder)) outside beyond input now output new
    (inl none, doors) = not_lent_failed disks _ outside beyond output new none
does_failed disks OnDoor (Ok (Serves stories budget folder)) outside beyond input now output new
    (inr t, doors) = pipe_failed disks folder _ output new t t.counts.rose
does_failed disks OnDoor (Ok (ServesLinks stories budget folder serving)) outside beyond input now
    output new (inl none, doors) = not_lent_failed disks _ outside beyond output new none
does_failed disks OnDoor (Ok (ServesLinks stories budget folder serving)) outside beyond input now
    output new (inr t, doors) = links_failed disks folder _ output new t t.counts.rose
does_failed disks OnDoor (Ok (Begins folder)) outside beyond input now output new does =
    init_failed disks folder outside beyond output new does.0
does_failed disks OnDoor (Ok (Replays stories folder)) outside beyond input now output new does =
    replay_failed disks stories folder outside beyond output new does.0
does_failed disks OnDoor (Ok (PacksFrom folder into)) outside beyond input now output new does =
    pack_failed disks folder into outside beyond output new does.0

disk_failed : {D : Type 0} (disks : DiskWords D) {OnDoor : OfDoor D} (asked : Asked)
    (outside beyond : OutsideState D) (input now : SourceState) (output new : SinkState)
    → FollowsCommand disks OnDoor asked DiskFault outside beyond input now output new
    → Failed (Rose outside.disk_faults beyond.disk_faults) output new
disk_failed disks asked outside beyond input now output new (inl none) = elim none.cause [
  | inl failed ↦ absurd (grind (arith, failed.0))
  | inr wanted ↦ absurd (grind (arith, wanted))
]
disk_failed disks {OnDoor} asked outside beyond input now output new (inr some) =
    let failed = does_failed disks OnDoor _ some.between beyond input now output new some.does in
    (subst (λ (n : ℕ). Rose n beyond.disk_faults) some.loaded.disk_faults failed.0, failed.1)

six : (status : Status) (code : ℕ) → status_of code ≡ Some status → code ≡ 6 → DiskFault ≡ status
six status code is e = cc

-- exit code 6 is a disk's
pub failed_six : {D : Type 0} (disks : DiskWords D) {OnDoor : OfDoor D} (asked : Asked)
    (status : Status) (code : ℕ) (outside beyond : OutsideState D) (input now : SourceState)
    (output new : SinkState)
    → FollowsCommand disks OnDoor asked status outside beyond input now output new
    → status_of code ≡ Some status
    → code ≡ 6 → Failed (Rose outside.disk_faults beyond.disk_faults) output new
failed_six disks {OnDoor} asked status code outside beyond input now output new follows is e =
    disk_failed disks asked outside beyond input now output new
    (subst
    (λ (s : Status). FollowsCommand disks OnDoor asked s outside beyond input now output new)
    (sym (six status code is e)) follows)

-- ---- the status of a door that failed

no_served : (how : Ended) (A : Type 0) → DoorFault ≡ status_of_end how → A
no_served ended.End A e = absurd (grind (arith, e))
no_served ended.ReadFault A e = absurd (grind (arith, e))
no_served ended.WriteFault A e = absurd (grind (arith, e))
no_served ended.NoMemory A e = absurd (grind (arith, e))
no_served ended.LineLimit A e = absurd (grind (arith, e))

-- no line ends so
unsaid : {good : Status} {line : List ℕ} {output new : SinkState} (A : Type 0)
    → (DoorFault ≡ good → A) → SaysLine good line output new DoorFault → A
unsaid A f (inl said) = f said.0
unsaid A f (inr (cause, is, stopped)) = no_served (ended_by cause) A is

unrefused : (why : InitFault) (output new : SinkState) (A : Type 0)
    → SaysRefusal why output new DoorFault → A
unrefused begin.NotEmpty output new A says = unsaid A (λ e. absurd (grind (arith, e))) says
unrefused (begin.DiskFault counts) output new A says = absurd (grind (arith, says.0))

unpacked : (why : PackFault) (output new : SinkState) (A : Type 0)
    → SaysPackFault why output new DoorFault → A
unpacked (pack.Old fault) output new A says =
    absurd (fault_no_door fault output new DoorFault says refl)
unpacked pack.NotEmpty output new A says = unsaid A (λ e. absurd (grind (arith, e))) says
unpacked (pack.New counts) output new A says = absurd (grind (arith, says.0))
unpacked pack.NoMemory output new A says = absurd (grind (arith, says.0))

not_lent_door : {D : Type 0} (disks : DiskWords D) (names : List (List ℕ))
    (outside beyond : OutsideState D) {input now : SourceState} {output new : SinkState}
    (A : Type 0)
    → NotLent disks names outside beyond input now output new DoorFault → A
not_lent_door disks names outside beyond A none = elim none.cause [
  | inl failed ↦ absurd (grind (arith, failed.0))
  | inr wanted ↦ absurd (grind (arith, wanted))
]

hosted_door : {D : Type 0} (disks : DiskWords D) (Hosts : D → List D → Type 0) (given : D)
    (givens : List D) (b : Back D) (input now : SourceState) (output new : SinkState) (A : Type 0)
    → ((journal : D) (snaps : List D) → Hosts journal snaps → A)
    → HostedOver Hosts disks given givens b input now output new DoorFault → A
hosted_door disks Hosts given givens (back.All journal snaps) input now output new A f hosts =
    f journal snaps.items hosts
hosted_door disks Hosts given givens (back.Journal journal) input now output new A f n =
    absurd (fault_no_door n.fault output new DoorFault n.says refl)
hosted_door disks Hosts given givens (back.Snap session snap) input now output new A f s =
    absurd (grind (arith, s.failed))
hosted_door disks Hosts given givens back.Nothing input now output new A f l =
    absurd (grind (arith, l.wanted))

door_in : {D : Type 0} (disks : DiskWords D) (OnDoor : OfDoor D) (task : Result Task (List ℕ))
    (outside beyond : OutsideState D) (input now : SourceState) (output new : SinkState)
    → DoesTask disks OnDoor task outside beyond input now output new DoorFault
    → Rose outside.door_faults beyond.door_faults
door_in disks OnDoor (Err line) outside beyond input now output new does = absurd does.0.leaves
door_in disks OnDoor (Ok (Says speech)) outside beyond input now output new does = absurd
    does.0.leaves
door_in disks OnDoor (Ok (Serves stories budget folder)) outside beyond input now output new
    (inl none, doors) = not_lent_door disks _ outside beyond _ none
door_in disks OnDoor (Ok (Serves stories budget folder)) outside beyond input now output new
    (inr t, doors) =
    hosted_door disks _ t.given t.givens t.back input now output new _
    (λ journal snaps hosts. no_served hosts.0 _ hosts.1) t.done
door_in disks OnDoor (Ok (ServesLinks stories budget folder serving)) outside beyond input now
    output new
    does =
    does.1.fault refl
door_in disks OnDoor (Ok (Begins folder)) outside beyond input now output new (inl none, doors) =
    not_lent_door disks _ outside beyond _ none
door_in disks OnDoor (Ok (Begins folder)) outside beyond input now output new (inr i, doors) =
    elim i.inits.does [
      | inl done ↦ elim done.1 [
        | inl b ↦ unsaid _ (λ e. absurd (grind (arith, e))) b.0.says
        | inr n ↦ unrefused n.0.fault output new _ n.0.says
      ]
      | inr u ↦ elim u.cause [
        | inl failed ↦ absurd (grind (arith, failed.0))
        | inr wanted ↦ absurd (grind (arith, wanted))
      ]
    ]
door_in disks OnDoor (Ok (Replays stories folder)) outside beyond input now output new
    (inl none, doors) = not_lent_door disks _ outside beyond _ none
door_in disks OnDoor (Ok (Replays stories folder)) outside beyond input now output new
    (inr r, doors) = elim r.replays.does [
      | inl t ↦ unsaid _ (λ e. absurd (grind (arith, e))) t.says
      | inr n ↦ absurd (fault_no_door n.fault output new DoorFault n.says refl)
    ]
door_in disks OnDoor (Ok (PacksFrom folder into)) outside beyond input now output new
    (inl none, doors) = not_lent_door disks _ outside beyond _ none
door_in disks OnDoor (Ok (PacksFrom folder into)) outside beyond input now output new
    (inr p, doors) = elim p.packs.does [
      | inl done ↦ elim done.1 [
        | inl over ↦ elim over.0.does [
          | inl packed ↦ unsaid _ (λ e. absurd (grind (arith, e))) packed.says
          | inr n ↦ unpacked n.fault output new _ n.says
        ]
        | inr n ↦ unpacked n.0.fault output new _ n.0.says
      ]
      | inr u ↦ elim u.0.cause [
        | inl failed ↦ absurd (grind (arith, failed.0))
        | inr wanted ↦ absurd (grind (arith, wanted))
      ]
    ]

door_failed : {D : Type 0} (disks : DiskWords D) {OnDoor : OfDoor D} (asked : Asked)
    (outside beyond : OutsideState D) (input now : SourceState) (output new : SinkState)
    → FollowsCommand disks OnDoor asked DoorFault outside beyond input now output new
    → Rose outside.door_faults beyond.door_faults
door_failed disks asked outside beyond input now output new (inl none) = elim none.cause [
  | inl failed ↦ absurd (grind (arith, failed.0))
  | inr wanted ↦ absurd (grind (arith, wanted))
]
door_failed disks {OnDoor} asked outside beyond input now output new (inr some) =
    subst (λ (n : ℕ). Rose n beyond.door_faults) some.doors.door_faults
    (door_in disks OnDoor _ some.between beyond input now output new some.does)

nine : (status : Status) (code : ℕ) → status_of code ≡ Some status → code ≡ 9 → DoorFault ≡ status
nine status code is e = cc

-- exit code 9 is a door's
pub failed_nine : {D : Type 0} (disks : DiskWords D) {OnDoor : OfDoor D} (asked : Asked)
    (status : Status) (code : ℕ) (outside beyond : OutsideState D) (input now : SourceState)
    (output new : SinkState)
    → FollowsCommand disks OnDoor asked status outside beyond input now output new
    → status_of code ≡ Some status
    → code ≡ 9 → Rose outside.door_faults beyond.door_faults
failed_nine disks {OnDoor} asked status code outside beyond input now output new follows is e =
    door_failed disks asked outside beyond input now output new
    (subst
    (λ (s : Status). FollowsCommand disks OnDoor asked s outside beyond input now output new)
    (sym (nine status code is e)) follows)

pub coded_zero : (status : Status) (code : ℕ) → status_of code ≡ Some status → code ≡ 0
    → status ≡ Done
coded_zero status code is e = cc

pub coded_two : (status : Status) (code : ℕ) → status_of code ≡ Some status → code ≡ 2
    → status ≡ BadWords
coded_two status code is e = cc

pub coded_four : (status : Status) (code : ℕ) → status_of code ≡ Some status → code ≡ 4
    → status ≡ ReadFault
coded_four status code is e = cc

pub coded_five : (status : Status) (code : ℕ) → status_of code ≡ Some status → code ≡ 5
    → status ≡ WriteFault
coded_five status code is e = cc

pub coded_seven : (status : Status) (code : ℕ) → status_of code ≡ Some status → code ≡ 7
    → status ≡ NoMemory
coded_seven status code is e = cc
