-- Each status has its cause, where the files and the input are told.
use Rattle.std.proofs.Common.{◌≡◌, ◌⊎◌, ℕ, inl, inr, List, map, take, refl, subst, sym, arith}
use Rattle.std.proofs.Common.{Some, IsErr, IsSomeAnd, Option, IfSome, Result, Ok, Err}
use Rattle.command_words.specs.Words.{Asked}
use Rattle.command_words.specs.declared.words.Action.{Action}
use Rattle.command_words.specs.declared.words.Action.TheVariants.{Run, Check, Pipe, Init, Help}
use Rattle.command_words.specs.declared.words.Action.TheVariants.{Serve, Replay, Pack, Drill}
use Rattle.command_words.specs.declared.words.Action.TheVariants.{Version}
use Rattle.disk_model.specs.declared.disk.Disk.{Ghosts as DiskWords}
use Rattle.story_run.specs.declared.story.Story.{Story}
use Rattle.host_top.specs.Begun.{WritesBegun}
use Rattle.host_top.specs.Borrowed.{journal_in}
use Rattle.host_top.specs.Causes.{CauseOf, HasBadJournal, HasCause, HoldsSome, IsRefusedJournal}
use Rattle.host_top.specs.DoorServed.{OfDoor}
use Rattle.host_top.specs.Files.{OutsideState, Told}
use Rattle.host_top.specs.Follows.{FollowsCommand, WritesFor}
use Rattle.host_top.specs.Headline.{Speech, WritesOf}
use Rattle.host_top.specs.LinksServed.{WritesLinks}
use Rattle.host_top.specs.Packed.{WritesPacked}
use Rattle.host_top.specs.Replayed.{WritesReplayed}
use Rattle.host_top.specs.Scene.{scene}
use Rattle.host_top.specs.Served.{WritesServed}
use Rattle.host_top.specs.Speech.{task_of, tasked}
use Rattle.host_top.specs.Status.{status_of}
use Rattle.host_top.specs.Stories.{stories_of}
use Rattle.host_top.specs.declared.status.Status.{Status}
use Rattle.host_top.specs.declared.status.Status.TheVariants.{Done, BadWords, Refused, ReadFault}
use Rattle.host_top.specs.declared.status.Status.TheVariants.{WriteFault, DiskFault, NoMemory}
use Rattle.host_top.specs.declared.status.Status.TheVariants.{BadFolder, DoorFault, LineLimit}
use Rattle.host_top.specs.declared.stories.Refusal.{Refusal}
use Rattle.host_top.proofs.CauseLemmas.{failed_six, failed_nine}
use Rattle.host_top.proofs.ToldLemmas.{tells, whatever_is_asked}
use Rattle.line_talk.specs.Causes.{Rose}
use Rattle.line_talk.specs.Lines.{ReachesLimit}
use Rattle.line_talk.specs.Streams.{SourceState, SinkState}

-- the causes that are told by bytes: a story is refused, a journal is bad, the input is too long
abbrev pub ToldCause : Type 0 → Type 0 → List ℕ → Status → Type 0
ToldCause Refuses Bad bytes Done = Unit {0}
ToldCause Refuses Bad bytes BadWords = ⊥
ToldCause Refuses Bad bytes Refused = Refuses
ToldCause Refuses Bad bytes ReadFault = Unit {0}
ToldCause Refuses Bad bytes WriteFault = Unit {0}
ToldCause Refuses Bad bytes DiskFault = Unit {0}
ToldCause Refuses Bad bytes NoMemory = Unit {0}
ToldCause Refuses Bad bytes BadFolder = Bad
ToldCause Refuses Bad bytes DoorFault = Unit {0}
ToldCause Refuses Bad bytes LineLimit = ReachesLimit bytes

says_cause : (speech : Speech) (bytes written : List ℕ) (Refuses Bad : Type 0) (status : Status)
    → WritesOf status (Ok speech) bytes written → ToldCause Refuses Bad bytes status
says_cause speech bytes written Refuses Bad Done w = tt
says_cause speech bytes written Refuses Bad BadWords w = absurd w
says_cause speech bytes written Refuses Bad Refused w = absurd (grind (arith, w))
says_cause speech bytes written Refuses Bad ReadFault w = tt
says_cause speech bytes written Refuses Bad WriteFault w = tt
says_cause speech bytes written Refuses Bad DiskFault w = tt
says_cause speech bytes written Refuses Bad NoMemory w = tt
says_cause speech bytes written Refuses Bad BadFolder w = absurd w
says_cause speech bytes written Refuses Bad DoorFault w = tt
says_cause speech bytes written Refuses Bad LineLimit w = w.1

serves_cause : {D : Type 0} (disks : DiskWords D) (stories : List Story) (budget : ℕ)
    (disk : List ℕ → Told D) (folder bytes written : List ℕ) (Refuses : Type 0) (status : Status)
    → WritesServed status disks stories budget disk folder bytes written
    → ToldCause Refuses (IsRefusedJournal disks (disk (journal_in folder))) bytes status
serves_cause disks stories budget disk folder bytes written Refuses Done w = tt
serves_cause disks stories budget disk folder bytes written Refuses BadWords w = absurd w
serves_cause disks stories budget disk folder bytes written Refuses Refused w = absurd w
serves_cause disks stories budget disk folder bytes written Refuses ReadFault w = tt
serves_cause disks stories budget disk folder bytes written Refuses WriteFault w = tt
serves_cause disks stories budget disk folder bytes written Refuses DiskFault w = tt
serves_cause disks stories budget disk folder bytes written Refuses NoMemory w = tt
serves_cause disks stories budget disk folder bytes written Refuses BadFolder w = (written, w)
serves_cause disks stories budget disk folder bytes written Refuses DoorFault w = tt
serves_cause disks stories budget disk folder bytes written Refuses LineLimit w = w.which.1

links_cause : {D : Type 0} (disks : DiskWords D) (journal : Told D) (bytes written : List ℕ)
    (Refuses : Type 0) (status : Status) → WritesLinks status disks journal written
    → ToldCause Refuses (IsRefusedJournal disks journal) bytes status
links_cause disks journal bytes written Refuses Done w = tt
links_cause disks journal bytes written Refuses BadWords w = absurd w
links_cause disks journal bytes written Refuses Refused w = absurd w
links_cause disks journal bytes written Refuses ReadFault w = tt
links_cause disks journal bytes written Refuses WriteFault w = tt
links_cause disks journal bytes written Refuses DiskFault w = tt
links_cause disks journal bytes written Refuses NoMemory w = tt
links_cause disks journal bytes written Refuses BadFolder w = (written, w)
links_cause disks journal bytes written Refuses DoorFault w = tt
links_cause disks journal bytes written Refuses LineLimit w = absurd w

begins_cause : {D : Type 0} (disks : DiskWords D) (journal : Told D) (bytes written : List ℕ)
    (Refuses : Type 0) (status : Status) → WritesBegun status disks journal written
    → ToldCause Refuses (HoldsSome disks journal) bytes status
begins_cause disks journal bytes written Refuses Done w = tt
begins_cause disks journal bytes written Refuses BadWords w = absurd w
begins_cause disks journal bytes written Refuses Refused w = absurd w
begins_cause disks journal bytes written Refuses ReadFault w = tt
begins_cause disks journal bytes written Refuses WriteFault w = tt
begins_cause disks journal bytes written Refuses DiskFault w = tt
begins_cause disks journal bytes written Refuses NoMemory w = tt
begins_cause disks journal bytes written Refuses BadFolder w = w.1
begins_cause disks journal bytes written Refuses DoorFault w = tt
begins_cause disks journal bytes written Refuses LineLimit w = absurd w

replays_cause : {D : Type 0} (disks : DiskWords D) (stories : List Story) (journal : Told D)
    (bytes written : List ℕ) (Refuses : Type 0) (status : Status)
    → WritesReplayed status disks stories journal written
    → ToldCause Refuses (IsRefusedJournal disks journal) bytes status
replays_cause disks stories journal bytes written Refuses Done w = tt
replays_cause disks stories journal bytes written Refuses BadWords w = absurd w
replays_cause disks stories journal bytes written Refuses Refused w = absurd w
replays_cause disks stories journal bytes written Refuses ReadFault w = tt
replays_cause disks stories journal bytes written Refuses WriteFault w = tt
replays_cause disks stories journal bytes written Refuses DiskFault w = tt
replays_cause disks stories journal bytes written Refuses NoMemory w = tt
replays_cause disks stories journal bytes written Refuses BadFolder w = (written, w)
replays_cause disks stories journal bytes written Refuses DoorFault w = tt
replays_cause disks stories journal bytes written Refuses LineLimit w = absurd w

packs_cause : {D : Type 0} (disks : DiskWords D) (journal into : Told D)
    (bytes written : List ℕ) (Refuses : Type 0) (status : Status)
    → WritesPacked status disks journal into written
    → ToldCause Refuses (IsRefusedJournal disks journal ⊎ HoldsSome disks into) bytes status
packs_cause disks journal into bytes written Refuses Done w = tt
packs_cause disks journal into bytes written Refuses BadWords w = absurd w
packs_cause disks journal into bytes written Refuses Refused w = absurd w
packs_cause disks journal into bytes written Refuses ReadFault w = tt
packs_cause disks journal into bytes written Refuses WriteFault w = tt
packs_cause disks journal into bytes written Refuses DiskFault w = tt
packs_cause disks journal into bytes written Refuses NoMemory w = tt
packs_cause disks journal into bytes written Refuses BadFolder (inl some) = inr some.1
packs_cause disks journal into bytes written Refuses BadFolder (inr refused) =
    inl (written, refused.0)
packs_cause disks journal into bytes written Refuses DoorFault w = tt
packs_cause disks journal into bytes written Refuses LineLimit w = absurd w

refused_cause : (line bytes written : List ℕ) (Refuses Bad : Type 0) (status : Status) → Refuses
    → WritesOf status (Err line) bytes written → ToldCause Refuses Bad bytes status
refused_cause line bytes written Refuses Bad Done r w = tt
refused_cause line bytes written Refuses Bad BadWords r w = absurd w
refused_cause line bytes written Refuses Bad Refused r w = r
refused_cause line bytes written Refuses Bad ReadFault r w = tt
refused_cause line bytes written Refuses Bad WriteFault r w = tt
refused_cause line bytes written Refuses Bad DiskFault r w = tt
refused_cause line bytes written Refuses Bad NoMemory r w = tt
refused_cause line bytes written Refuses Bad BadFolder r w = absurd w
refused_cause line bytes written Refuses Bad DoorFault r w = tt
refused_cause line bytes written Refuses Bad LineLimit r w = absurd w

does_cause : {D : Type 0} (disks : DiskWords D) (action : Action) (stories : List Story)
    (budget : ℕ) (disk : List ℕ → Told D) (folder into bytes written : List ℕ)
    (Refuses : Type 0) (status : Status)
    → WritesFor disks disk status (Ok (task_of action stories budget folder into)) bytes written
    → ToldCause Refuses
    (HasBadJournal disks action (disk (journal_in folder)) (disk (journal_in into))) bytes status
does_cause disks Run stories budget disk folder into bytes written Refuses status w =
    says_cause _ bytes written _ _ status w
does_cause disks Check stories budget disk folder into bytes written Refuses status w =
    says_cause _ bytes written _ _ status w
does_cause disks Pipe stories budget disk folder into bytes written Refuses status w =
    serves_cause disks stories budget disk folder bytes written Refuses status w
does_cause disks (Serve serving) stories budget disk folder into bytes written Refuses status w =
    links_cause disks (disk (journal_in folder)) bytes written Refuses status w
does_cause disks Init stories budget disk folder into bytes written Refuses status w =
    begins_cause disks (disk (journal_in folder)) bytes written Refuses status w
does_cause disks Replay stories budget disk folder into bytes written Refuses status w =
    replays_cause disks stories (disk (journal_in folder)) bytes written Refuses status w
does_cause disks Pack stories budget disk folder into bytes written Refuses status w =
    packs_cause disks (disk (journal_in folder)) (disk (journal_in into)) bytes written Refuses
    status w
does_cause disks (Drill number) stories budget disk folder into bytes written Refuses status w =
    says_cause _ bytes written _ _ status w
does_cause disks (Help topic) stories budget disk folder into bytes written Refuses status w =
    says_cause _ bytes written _ _ status w
does_cause disks Version stories budget disk folder into bytes written Refuses status w =
    says_cause _ bytes written _ _ status w

pub tasked_cause : {D : Type 0} (disks : DiskWords D) (action : Action)
    (found : Result (List Story) Refusal) (budget : ℕ) (disk : List ℕ → Told D)
    (folder into bytes written : List ℕ) (status : Status)
    → WritesFor disks disk status (tasked action found budget folder into) bytes written
    → ToldCause (IsErr found)
    (HasBadJournal disks action (disk (journal_in folder)) (disk (journal_in into))) bytes status
tasked_cause disks action (Ok stories) budget disk folder into bytes written status w =
    does_cause disks action stories budget disk folder into bytes written _ status w
tasked_cause disks action (Err refusal) budget disk folder into bytes written status w =
    refused_cause _ bytes written _ _ status refl w

-- with what the counts say
cause_of : {D : Type 0} (disks : DiskWords D) (asked : Asked) (files : List (List ℕ))
    (bytes : List ℕ) (outside beyond : OutsideState D) (input now : SourceState)
    (output new : SinkState) (status : Status)
    → ToldCause (IsErr (stories_of (map (take 67108865) files)))
    (HasBadJournal disks asked.action (outside.disk (journal_in asked.folder))
    (outside.disk (journal_in asked.into))) bytes status
    → (status ≡ ReadFault → Rose outside.faults beyond.faults ⊎ Rose input.faults now.faults)
    → (status ≡ WriteFault → Rose output.faults new.faults)
    → (status ≡ DiskFault → Rose outside.disk_faults beyond.disk_faults)
    → (status ≡ DoorFault → Rose outside.door_faults beyond.door_faults)
    → CauseOf disks asked files bytes (scene outside input output) (scene beyond now new) status
cause_of disks asked files bytes outside beyond input now output new Done t r w d o = tt
cause_of disks asked files bytes outside beyond input now output new BadWords t r w d o = t
cause_of disks asked files bytes outside beyond input now output new Refused t r w d o = t
cause_of disks asked files bytes outside beyond input now output new ReadFault t r w d o = r refl
cause_of disks asked files bytes outside beyond input now output new WriteFault t r w d o = w refl
cause_of disks asked files bytes outside beyond input now output new DiskFault t r w d o = d refl
cause_of disks asked files bytes outside beyond input now output new NoMemory t r w d o = tt
cause_of disks asked files bytes outside beyond input now output new BadFolder t r w d o = t
cause_of disks asked files bytes outside beyond input now output new DoorFault t r w d o = o refl
cause_of disks asked files bytes outside beyond input now output new LineLimit t r w d o = t

six : (status : Status) (code : ℕ) → status_of code ≡ Some status → status ≡ DiskFault → code ≡ 6
six status code is e = grind (arith, is, e)

nine : (status : Status) (code : ℕ) → status_of code ≡ Some status → status ≡ DoorFault → code ≡ 9
nine status code is e = grind (arith, is, e)

-- a status that is a disk's has risen counts
pub disks_rose : {D : Type 0} (disks : DiskWords D) {OnDoor : OfDoor D} (asked : Asked)
    (status : Status) (code : ℕ) (outside beyond : OutsideState D) (input now : SourceState)
    (output new : SinkState)
    → FollowsCommand disks OnDoor asked status outside beyond input now output new
    → status_of code ≡ Some status → status ≡ DiskFault
    → Rose outside.disk_faults beyond.disk_faults
disks_rose disks asked status code outside beyond input now output new follows is e =
    (failed_six disks asked status code outside beyond input now output new follows is
    (six status code is e)).0

-- and one that is a door's
pub doors_rose : {D : Type 0} (disks : DiskWords D) {OnDoor : OfDoor D} (asked : Asked)
    (status : Status) (code : ℕ) (outside beyond : OutsideState D) (input now : SourceState)
    (output new : SinkState)
    → FollowsCommand disks OnDoor asked status outside beyond input now output new
    → status_of code ≡ Some status → status ≡ DoorFault
    → Rose outside.door_faults beyond.door_faults
doors_rose disks asked status code outside beyond input now output new follows is e =
    failed_nine disks asked status code outside beyond input now output new follows is
    (nine status code is e)

pub has_cause : {D : Type 0} (disks : DiskWords D) {OnDoor : OfDoor D} (asked : Asked)
    (status : Status) (code : ℕ) (outside beyond : OutsideState D) (input now : SourceState)
    (output new : SinkState)
    → FollowsCommand disks OnDoor asked status outside beyond input now output new
    → status_of code ≡ Some status
    → (status ≡ ReadFault → Rose outside.faults beyond.faults ⊎ Rose input.faults now.faults)
    → (status ≡ WriteFault → Rose output.faults new.faults)
    → HasCause disks asked (scene outside input output) (scene beyond now new) status
has_cause disks asked status code outside beyond input now output new follows is reads writes files
    bytes held told =
    let t =
    tells disks asked status outside beyond input now output new follows files bytes held
    told.are_there told.left told.holds in
    cause_of disks asked files bytes outside beyond input now output new status
    (tasked_cause disks asked.action (stories_of (map (take 67108865) files)) asked.budget
    outside.disk asked.folder asked.into bytes t.0 status t.2)
    reads writes
    (disks_rose disks asked status code outside beyond input now output new follows is)
    (doors_rose disks asked status code outside beyond input now output new follows is)

-- where memory was wanted before the words were known
pub cause_no_memory : {D : Type 0} (disks : DiskWords D) (asked : Option Asked) (code : ℕ)
    (outside beyond : OutsideState D) (input now : SourceState) (output new : SinkState)
    → status_of code ≡ Some NoMemory
    → IfSome asked (λ one. IsSomeAnd (status_of code)
    (λ status. HasCause disks one (scene outside input output) (scene beyond now new) status))
cause_no_memory disks asked code outside beyond input now output new is =
    whatever_is_asked asked (λ (one : Asked). IsSomeAnd (status_of code)
    (λ status. HasCause disks one (scene outside input output) (scene beyond now new) status))
    (λ one. subst (λ (s : Option Status). IsSomeAnd s
    (λ status. HasCause disks one (scene outside input output) (scene beyond now new) status))
    (sym is) (λ files bytes held told. tt))
