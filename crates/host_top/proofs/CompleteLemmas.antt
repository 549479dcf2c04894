-- Where all is in order and no fault is counted, a command ends with 0 or 7.
use Rattle.std.proofs.Common.{◌≡◌, ℕ, ◌^◌, ◌<◌, ◌≤◌, ◌⊎◌, inl, inr, List, [], map, take, length}
use Rattle.std.proofs.Common.{refl, subst, arith, IsTrue, Some, Result, Ok, Err, IsOk}
use Rattle.std.proofs.Common.{Option, IfSome, IsErr}
use Rattle.command_words.specs.Words.{Asked}
use Rattle.command_words.specs.declared.words.Action.{Action}
use Rattle.command_words.specs.declared.words.Action.TheVariants.{Run, Check, Pipe, Init, Help}
use Rattle.command_words.specs.declared.words.Action.TheVariants.{Serve, Replay, Pack, Drill}
use Rattle.command_words.specs.declared.words.Action.TheVariants.{Version}
use Rattle.disk_model.proofs.Torn.{holds_front}
use Rattle.disk_model.specs.declared.disk.Disk.{Ghosts as DiskWords}
use Rattle.gate_journal.proofs.RowLemmas.{never_both}
use Rattle.gate_journal.specs.Rows.{SpellsRows, IsCorrupt, HasNoHeader, header_with, version_byte}
use Rattle.gate_journal.specs.Rows.{rows_behind_open_gates}
use Rattle.gate_journal.specs.declared.row.Row.{Row}
use Rattle.story_run.specs.declared.story.Story.{Story}
use Rattle.host_top.specs.Borrowed.{journal_in}
use Rattle.host_top.specs.Calls.{AreThere}
use Rattle.host_top.specs.Causes.{HasBadJournal}
use Rattle.host_top.specs.Complete.{HasFolder, IsInOrder, NoneRose, SpellsSome}
use Rattle.host_top.specs.DoorServed.{OfDoor}
use Rattle.host_top.specs.Files.{OutsideState, Told, Untold, Missing, There}
use Rattle.host_top.specs.Follows.{FollowsCommand}
use Rattle.host_top.specs.Served.{AreTold, RefusesJournal}
use Rattle.host_top.specs.Status.{status_of}
use Rattle.host_top.specs.Stories.{stories_of}
use Rattle.host_top.specs.ToldBytes.{BytesHave}
use Rattle.host_top.specs.declared.status.Status.{Status}
use Rattle.host_top.specs.declared.status.Status.TheVariants.{Done, BadWords, Refused, ReadFault}
use Rattle.host_top.specs.declared.status.Status.TheVariants.{WriteFault, DiskFault, NoMemory}
use Rattle.host_top.specs.declared.status.Status.TheVariants.{BadFolder, DoorFault, LineLimit}
use Rattle.host_top.specs.declared.stories.Refusal.{Refusal}
use Rattle.host_top.proofs.HasCauseLemmas.{ToldCause, disks_rose, doors_rose, tasked_cause}
use Rattle.host_top.proofs.ToldLemmas.{tells, whatever_is_asked}
use Rattle.line_talk.specs.Causes.{Rose}
use Rattle.line_talk.specs.Lines.{IsWithinLimits, ReachesLimit, lines}
use Rattle.line_talk.specs.Streams.{SourceState, SinkState}

-- no statuses of a refusal
abbrev IsNoRefusal : Status → Type 0
IsNoRefusal Done = Unit {0}
IsNoRefusal BadWords = ⊥
IsNoRefusal Refused = ⊥
IsNoRefusal ReadFault = Unit {0}
IsNoRefusal WriteFault = Unit {0}
IsNoRefusal DiskFault = Unit {0}
IsNoRefusal NoMemory = Unit {0}
IsNoRefusal BadFolder = ⊥
IsNoRefusal DoorFault = Unit {0}
IsNoRefusal LineLimit = ⊥

no_more_than : (n limit : ℕ) → limit ≤ n → n < limit → ⊥
no_more_than n limit reaches within = omega (arith, reaches, within)

-- bytes within the limits reach none
no_limit : (bytes : List ℕ) → IsWithinLimits bytes → ReachesLimit bytes → ⊥
no_limit bytes within (inl many) = no_more_than (length bytes) (2 ^ 31) many within.size
no_limit bytes within (inr many) = no_more_than (length (lines bytes)) (2 ^ 20) many within.count

-- bytes that spell rows have the header and no corrupt place
no_header_missing : (bytes : List ℕ) (rows : List Row) → SpellsRows bytes rows → HasNoHeader bytes
    → ⊥
no_header_missing bytes rows spells none =
    none
    (holds_front (header_with (version_byte bytes)) (rows_behind_open_gates rows) spells.front)

-- what is told of bytes is so of bytes that are told
told_both : {D : Type 0} (disks : DiskWords D) (told : Told D) (P Q : List ℕ → Type 0)
    → ((c : List ℕ) → P c → Q c → ⊥) → AreTold disks.seen told P → BytesHave disks.seen told Q → ⊥
told_both disks Untold P Q never are have = are
told_both disks Missing P Q never are have = never [] are have
told_both disks (There d) P Q never are have = never (disks.seen d) are have

not_refused : {D : Type 0} (disks : DiskWords D) (told : Told D) (line : List ℕ)
    → ((d : D) → IsTrue (disks.tells d)) → SpellsSome disks told → RefusesJournal disks told line
    → ⊥
not_refused disks told line tells some (inl none) =
    told_both disks told (λ c. SpellsRows c some.0) HasNoHeader
    (λ c spells header. no_header_missing c some.0 spells header) some.1 (none.1 tells)
not_refused disks told line tells some (inr corrupt) =
    told_both disks told (λ c. SpellsRows c some.0) (λ c. IsCorrupt c corrupt.0)
    (λ c spells place. never_both c some.0 corrupt.0 spells place) some.1 (corrupt.2 tells)

something : (c : List ℕ) → c ≡ [] → 0 < length c → ⊥
something c none some = omega (arith, subst (λ (l : List ℕ). 0 < length l) none some)

-- what makes a folder's journal bad isn't so where all is in order
never_bad : {D : Type 0} (disks : DiskWords D) (action : Action) (told into : Told D)
    → ((d : D) → IsTrue (disks.tells d)) → HasFolder disks action told into
    → HasBadJournal disks action told into → ⊥
never_bad disks Run told into tells f bad = bad
never_bad disks Check told into tells f bad = bad
never_bad disks Pipe told into tells f bad = not_refused disks told bad.0 tells f bad.1
never_bad disks (Serve serving) told into tells f bad = not_refused disks told bad.0 tells f bad.1
never_bad disks Init told into tells f bad =
    told_both disks told (λ c. c ≡ []) (λ c. 0 < length c) something f (bad tells)
never_bad disks Replay told into tells f bad = not_refused disks told bad.0 tells f bad.1
never_bad disks Pack told into tells f (inl bad) = not_refused disks told bad.0 tells f.0 bad.1
never_bad disks Pack told into tells f (inr some) =
    told_both disks into (λ c. c ≡ []) (λ c. 0 < length c) something f.1 (some tells)
never_bad disks (Drill number) told into tells f bad = bad
never_bad disks (Help topic) told into tells f bad = bad
never_bad disks Version told into tells f bad = bad

never_err : (found : Result (List Story) Refusal) → IsOk found → IsErr found → ⊥
never_err (Ok stories) ok err = absurd (grind (arith, err))
never_err (Err refusal) ok err = absurd (grind (arith, ok))

-- a status whose cause is told, of which none is so, is no refusal
no_refusal : (Refuses Bad : Type 0) (bytes : List ℕ) (status : Status) → (Refuses → ⊥)
    → (Bad → ⊥) → IsWithinLimits bytes → ToldCause Refuses Bad bytes status → IsNoRefusal status
no_refusal Refuses Bad bytes Done r b within cause = tt
no_refusal Refuses Bad bytes BadWords r b within cause = cause
no_refusal Refuses Bad bytes Refused r b within cause = r cause
no_refusal Refuses Bad bytes ReadFault r b within cause = tt
no_refusal Refuses Bad bytes WriteFault r b within cause = tt
no_refusal Refuses Bad bytes DiskFault r b within cause = tt
no_refusal Refuses Bad bytes NoMemory r b within cause = tt
no_refusal Refuses Bad bytes BadFolder r b within cause = b cause
no_refusal Refuses Bad bytes DoorFault r b within cause = tt
no_refusal Refuses Bad bytes LineLimit r b within cause = no_limit bytes within cause

done_is_0 : (code : ℕ) → status_of code ≡ Some Done → code ≡ 0
done_is_0 code is = grind (arith, is)

no_memory_is_7 : (code : ℕ) → status_of code ≡ Some NoMemory → code ≡ 7
no_memory_is_7 code is = grind (arith, is)

-- the statuses that are left
ends : (status : Status) (code : ℕ) → status_of code ≡ Some status → IsNoRefusal status
    → (status ≡ ReadFault → ⊥) → (status ≡ WriteFault → ⊥) → (status ≡ DiskFault → ⊥)
    → (status ≡ DoorFault → ⊥) → (code ≡ 0) ⊎ (code ≡ 7)
ends Done code is none r w d o = inl (done_is_0 code is)
ends BadWords code is none r w d o = absurd none
ends Refused code is none r w d o = absurd none
ends ReadFault code is none r w d o = absurd (r refl)
ends WriteFault code is none r w d o = absurd (w refl)
ends DiskFault code is none r w d o = absurd (d refl)
ends NoMemory code is none r w d o = inr (no_memory_is_7 code is)
ends BadFolder code is none r w d o = absurd none
ends DoorFault code is none r w d o = absurd (o refl)
ends LineLimit code is none r w d o = absurd none

no_read : {A B : Type 0} → A ⊎ B → (A → ⊥) → (B → ⊥) → ⊥
no_read (inl a) f g = f a
no_read (inr b) f g = g b

-- but for a load, a read or a disk that failed
ends_well : {D : Type 0} (disks : DiskWords D) {OnDoor : OfDoor D} (asked : Asked)
    (status : Status) (code : ℕ) (outside beyond : OutsideState D) (input now : SourceState)
    (output new : SinkState)
    → FollowsCommand disks OnDoor asked status outside beyond input now output new
    → status_of code ≡ Some status → (status ≡ ReadFault → ⊥) → (status ≡ DiskFault → ⊥)
    → (status ≡ WriteFault → Rose output.faults new.faults)
    → IsInOrder disks asked outside input output → NoneRose outside beyond input now output new
    → (code ≡ 0) ⊎ (code ≡ 7)
ends_well disks {OnDoor} asked status code outside beyond input now output new follows is reads
    fails writes order none =
    let t =
    tells disks asked status outside beyond input now output new follows order.files order.bytes
    order.held order.are_there order.left order.holds in
    ends status code is
    (no_refusal _ _ order.bytes status
    (never_err (stories_of (map (take 67108865) order.files)) order.are_stories)
    (never_bad disks asked.action (outside.disk (journal_in asked.folder))
    (outside.disk (journal_in asked.into)) order.tells order.folder)
    order.within
    (tasked_cause disks asked.action (stories_of (map (take 67108865) order.files)) asked.budget
    outside.disk asked.folder asked.into order.bytes t.0 status t.2))
    reads
    (λ e. none.writes (writes e))
    fails
    (λ e. none.doors
    (doors_rose disks asked status code outside beyond input now output new follows is e))

-- where no fault of a load and none of a disk is counted
pub completes : {D : Type 0} (disks : DiskWords D) {OnDoor : OfDoor D} (asked : Asked)
    (status : Status) (code : ℕ) (outside beyond : OutsideState D) (input now : SourceState)
    (output new : SinkState)
    → FollowsCommand disks OnDoor asked status outside beyond input now output new
    → status_of code ≡ Some status
    → (status ≡ ReadFault
    → Rose outside.faults beyond.faults ⊎ Rose input.faults now.faults)
    → (status ≡ WriteFault → Rose output.faults new.faults)
    → IsInOrder disks asked outside input output → (Rose outside.faults beyond.faults → ⊥)
    → (Rose outside.disk_faults beyond.disk_faults → ⊥)
    → NoneRose outside beyond input now output new → (code ≡ 0) ⊎ (code ≡ 7)
completes disks asked status code outside beyond input now output new follows is reads writes order
    loads fails none =
    ends_well disks asked status code outside beyond input now output new follows is
    (λ e. no_read (reads e) loads none.reads)
    (λ e. fails (disks_rose disks asked status code outside beyond input now output new follows is
    e)) writes order none

-- where no load is to fail, and no fault of a disk is counted or all disks stand
pub completes_unlisted : {D : Type 0} (disks : DiskWords D) {OnDoor : OfDoor D} (asked : Asked)
    (status : Status) (code : ℕ) (outside beyond : OutsideState D) (input now : SourceState)
    (output new : SinkState) (P Q : Type 0)
    → FollowsCommand disks OnDoor asked status outside beyond input now output new
    → status_of code ≡ Some status
    → (P → AreThere outside.file asked.names → status ≡ ReadFault
    → Rose input.faults now.faults)
    → (Q → status ≡ DiskFault → ⊥)
    → (status ≡ WriteFault → Rose output.faults new.faults)
    → IsInOrder disks asked outside input output → P
    → (Rose outside.disk_faults beyond.disk_faults → ⊥) ⊎ Q
    → NoneRose outside beyond input now output new → (code ≡ 0) ⊎ (code ≡ 7)
completes_unlisted disks asked status code outside beyond input now output new P Q follows is reads
    stood writes order unlisted stand none =
    ends_well disks asked status code outside beyond input now output new follows is
    (λ e. none.reads (reads unlisted (order.files, order.are_there) e))
    (λ e. elim stand [
      | inl fails ↦ fails
          (disks_rose disks asked status code outside beyond input now output new follows is e)
      | inr stands ↦ stood stands e
    ]) writes order none

-- where memory was wanted before the words were known
pub complete_no_memory : {D : Type 0} (disks : DiskWords D) (asked : Option Asked) (code : ℕ)
    (outside beyond : OutsideState D) (input now : SourceState) (output new : SinkState)
    (P Q : Type 0) → status_of code ≡ Some NoMemory
    → IfSome asked (λ one. IsInOrder disks one outside input output → P → Q
    → NoneRose outside beyond input now output new → (code ≡ 0) ⊎ (code ≡ 7))
complete_no_memory disks asked code outside beyond input now output new P Q is =
    whatever_is_asked asked (λ (one : Asked). IsInOrder disks one outside input output → P → Q
    → NoneRose outside beyond input now output new → (code ≡ 0) ⊎ (code ≡ 7))
    (λ one order p q none. inr (no_memory_is_7 code is))
