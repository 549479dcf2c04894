-- A command for a caller who is told the files, the input and what the output holds.
use Rattle.std.proofs.Common.{◌≡◌, ℕ, ◌^◌, ◌≤◌, ◌⊎◌, inl, inr, List, [], ◌∷◌, ◌++◌, map, take}
use Rattle.std.proofs.Common.{length, refl, sym, ap, ◌∙◌, subst, append_assoc, slice_get, Option}
use Rattle.std.proofs.Common.{None, Some, IfSome, IsSomeAnd, Result, Ok, Err, IfOk, true}
use Rattle.std.proofs.lemmas.List.{append-nil}
use Rattle.std.specs.Io.KnownBytes.{Appends}
use Rattle.story_run.specs.declared.story.Story.{Story}
use Rattle.host_top.specs.DoorServed.{OfDoor}
use Rattle.host_top.specs.declared.status.Status.{Status}
use Rattle.host_top.specs.declared.status.Status.TheVariants.{Done, BadWords, Refused, ReadFault}
use Rattle.host_top.specs.declared.status.Status.TheVariants.{WriteFault, DiskFault, NoMemory}
use Rattle.host_top.specs.declared.status.Status.TheVariants.{BadFolder, DoorFault, LineLimit}
use Rattle.host_top.specs.declared.stories.Refusal.{Refusal}
use Rattle.host_drill.specs.Drill.{drill_text}
use Rattle.command_words.specs.declared.words.Action.{Action}
use Rattle.command_words.specs.declared.words.Action.TheVariants.{Run, Check, Pipe, Serve, Drill}
use Rattle.command_words.specs.declared.words.Action.TheVariants.{Init, Replay, Pack, Help, Version}
use Rattle.host_top.specs.Borrowed.{journal_in, snaps_below}
use Rattle.host_top.specs.Files.{OutsideState, KeepsDisks, KeepsDoors, Told}
use Rattle.host_top.specs.Follows.{DoesTask, FollowsCommand, TellsCaller, WritesFor}
use Rattle.host_top.specs.Begun.{WritesBegun, ready}
use Rattle.host_top.specs.LinksServed.{WritesLinks}
use Rattle.host_top.specs.Served.{WritesServed}
use Rattle.host_top.specs.Headline.{Speech, WritesOf, whole_text}
use Rattle.command_words.specs.Help.{help_text, version_text}
use Rattle.line_talk.specs.Lines.{lines, talk, IsWithinLimits}
use Rattle.disk_model.specs.declared.disk.Disk.{Ghosts as DiskWords}
use Rattle.host_top.specs.Packed.{WritesPacked}
use Rattle.host_top.specs.Replayed.{WritesReplayed}
use Rattle.host_top.specs.Speech.{Task, Says, Serves, ServesLinks, Begins, Replays, PacksFrom}
use Rattle.host_top.specs.Speech.{tasked}
use Rattle.host_top.specs.Status.{status_of}
use Rattle.host_top.specs.Spoken.{Spoken, SpeechLeaves}
use Rattle.host_top.specs.Stories.{stories_of}
use Rattle.line_talk.specs.Streams.{SourceState, SinkState}
use Rattle.line_talk.proofs.StreamsLemmas.{gave_none, wrote_none}
use Rattle.line_talk.specs.Talked.{IsReadToEnd}
use Rattle.command_words.specs.Words.{Asked}
use Rattle.line_talk.specs.Writing.{IsPartOf}
use Rattle.line_talk.proofs.LinesLemmas.{still_reached, talk_settled, talk_first}
use Rattle.host_top.proofs.ServedLemmas.{WroteSome, consumed, nothing_left, pipe_told}
use Rattle.host_top.proofs.WrittenLemmas.{never_begun, init_told, links_told}
use Rattle.host_top.proofs.PackToldLemmas.{pack_told}
use Rattle.host_top.proofs.ReplayLemmas.{replay_told}
use Rattle.host_top.proofs.LinksLemmas.{no_doors}
use Rattle.host_top.proofs.LoansLemmas.{doors_none, keeps_none}
use Rattle.host_top.proofs.UsedLemmas.{not_lent, takes_lent}
use Rattle.host_top.proofs.SpeechLemmas.{spoken_nothing, IsSteady, steady_once, steady_run}
use Rattle.host_top.proofs.SpeechLemmas.{steady_check}
use Rattle.host_top.proofs.StoriesLemmas.{settled_told}

held_then : (old new : Option (List ℕ)) (held written : List ℕ) → Appends old new written
    → old ≡ Some held → new ≡ Some (held ++ written)
held_then None new held written p e = cc
held_then (Some xs) None held written p e = absurd p
held_then (Some xs) (Some ys) held written p e = cc

part_of_part : (a b c : List ℕ) → IsPartOf a b → IsPartOf b c → IsPartOf a c
part_of_part a b c p q = (p.0 ++ q.0, q.1 ∙ ap (λ l. l ++ q.0) p.1 ∙ append_assoc a p.0 q.0)

-- what is said goes on as the input does
abbrev IsSteadySaid : Result Speech (List ℕ) → Type 0
IsSteadySaid said = IfOk said IsSteady

-- the text over a part of the input begins that over the whole
part_of_whole : (said : Result Speech (List ℕ)) → IsSteadySaid said → (read rest : List ℕ)
    → length read ≤ 2 ^ 31 → IsPartOf (whole_text said (talk read))
    (whole_text said (talk (read ++ rest)))
part_of_whole (Ok speech) s read rest within =
    let first = talk_first read rest within in
    let more = s.more (talk read) first.0 in
    (more.0, ap speech.text first.1 ∙ more.1)
part_of_whole (Err line) s read rest within = ([], sym (append-nil line))

done_writes : (speech : Speech) → IsSteady speech
    → (read rest : List ℕ) (now : SourceState) (written : List ℕ) → now.left ≡ Some rest
    → written ≡ speech.text (lines read)
    → IsReadToEnd read now ⊎ (speech.is_over (lines read) ≡ true)
    → (written ≡ speech.text (lines (read ++ rest)))
    × (IsWithinLimits (read ++ rest) ⊎ (speech.is_over (lines (read ++ rest)) ≡ true))
done_writes speech s read rest now written left text (inl end) =
    let all : read ++ rest ≡ read =
    ap (λ l. read ++ l) (nothing_left now.left rest end.at_end left) ∙ append-nil read in (
      text ∙ ap (λ b. speech.text (lines b)) (sym all),
      inl
          (subst (λ (b : List ℕ). IsWithinLimits b) (sym all) end.within),
    )
done_writes speech s read rest now written left text (inr over) =
    (text ∙ sym (s.settled read rest over), inr (s.still_over read rest over))

writes : (status : Status) (said : Result Speech (List ℕ)) → IsSteadySaid said
    → (read rest : List ℕ) (now : SourceState) (written : List ℕ)
    → length read ≤ 2 ^ 31 → now.left ≡ Some rest → SpeechLeaves status said read now written
    → WritesOf status said (read ++ rest) written
writes Done (Ok speech) s read rest now written within left leaves =
    done_writes speech s read rest now written left leaves.0 leaves.1
writes Done (Err line) s read rest now written within left leaves = absurd leaves
writes BadWords said s read rest now written within left leaves = absurd leaves
writes DiskFault said s read rest now written within left leaves = absurd leaves
writes BadFolder said s read rest now written within left leaves = absurd leaves
writes DoorFault said s read rest now written within left leaves = absurd leaves
writes Refused said s read rest now written within left leaves = leaves
writes ReadFault (Ok speech) s read rest now written within left leaves =
    inr (read, (rest, refl), leaves)
writes ReadFault (Err line) s read rest now written within left leaves = absurd leaves
writes WriteFault said s read rest now written within left leaves =
    part_of_part written _ _ leaves (part_of_whole said s read rest within)
writes NoMemory said s read rest now written within left leaves =
    part_of_part written _ _ leaves (part_of_whole said s read rest within)
writes LineLimit (Ok speech) s read rest now written within left leaves = (
  leaves.0 ∙ ap speech.text (sym (talk_settled read rest within leaves.1)),
  still_reached read
      rest leaves.1,
)
writes LineLimit (Err line) s read rest now written within left leaves = absurd leaves

nothing_writes : (status : Status) (P : Type 0) (said : Result Speech (List ℕ)) (input : List ℕ)
    → (status ≡ ReadFault) × P ⊎ (status ≡ NoMemory) → WritesOf status said input []
nothing_writes status P said input = never_begun (λ (s : Status). WritesOf s said input [])
    ReadFault status P (inl refl) (whole_text said (talk input), refl)

abbrev IsSteadyTask : Result Task (List ℕ) → Type 0
IsSteadyTask (Ok (Says speech)) = IsSteady speech
IsSteadyTask (Ok (Serves stories budget folder)) = Unit {0}
IsSteadyTask (Ok (ServesLinks stories budget folder serving)) = Unit {0}
IsSteadyTask (Ok (Begins folder)) = Unit {0}
IsSteadyTask (Ok (Replays stories folder)) = Unit {0}
IsSteadyTask (Ok (PacksFrom folder into)) = Unit {0}
IsSteadyTask (Err line) = Unit {0}

steady : (action : Action) (found : Result (List Story) Refusal) (budget : ℕ)
    (folder into : List ℕ) → IsSteadyTask (tasked action found budget folder into)
steady Run (Ok stories) budget folder into = steady_run (slice_get stories 0) budget
steady Check (Ok stories) budget folder into = steady_check (slice_get stories 0)
steady Pipe (Ok stories) budget folder into = tt
steady (Serve serving) (Ok stories) budget folder into = tt
steady Init (Ok stories) budget folder into = tt
steady Replay (Ok stories) budget folder into = tt
steady Pack (Ok stories) budget folder into = tt
steady (Drill number) (Ok stories) budget folder into = steady_once (drill_text number)
steady (Help topic) (Ok stories) budget folder into = steady_once (help_text topic)
steady Version (Ok stories) budget folder into = steady_once version_text
steady action (Err refusal) budget folder into = tt

-- what a task leaves of an output that is told
said_held : (said : Result Speech (List ℕ)) → IsSteadySaid said
    → (bytes held : List ℕ) {input now : SourceState} {output new : SinkState} (status : Status)
    → Spoken said input now output new status → input.left ≡ Some bytes → output.held ≡ Some held
    → (written : List ℕ) × (new.held ≡ Some (held ++ written)) × WritesOf status said bytes written
said_held said s bytes held {input} {now} {output} {new} status spoken left_is held_is =
    let c = consumed input.left now.left bytes spoken.read spoken.gave.told left_is in
    let w : WritesOf status said (spoken.read ++ c.0) spoken.written =
    writes status said s spoken.read c.0 now spoken.written spoken.within c.2 spoken.leaves in (
      spoken.written,
      held_then output.held new.held held spoken.written spoken.wrote.told held_is,
      subst (λ (b : List ℕ). WritesOf status said b spoken.written) (sym c.1) w,
    )

-- what was written is held behind what was held
held_so : {output new : SinkState} (held : List ℕ) (P : List ℕ → Type 0) → output.held ≡ Some held
    → WroteSome output new P → (written : List ℕ) × (new.held ≡ Some (held ++ written)) × P written
held_so {output} {new} held P held_is w =
    (w.0, held_then output.held new.held held w.0 w.1.told held_is, w.2)

held_on : {D : Type 0} (disks : DiskWords D) (OnDoor : OfDoor D) (task : Result Task (List ℕ))
    → IsSteadyTask task → (bytes held : List ℕ) (outside beyond : OutsideState D)
    (input now : SourceState) (output new : SinkState) (status : Status)
    → DoesTask disks OnDoor task outside beyond input now output new status
    → input.left ≡ Some bytes → output.held ≡ Some held
    → (written : List ℕ) × (new.held ≡ Some (held ++ written))
    × WritesFor disks outside.disk status task bytes written
held_on disks OnDoor (Err line) s bytes held outside beyond input now output new status does left_is
    held_is = said_held (Err line) tt bytes held status does.0 left_is held_is
held_on disks OnDoor (Ok (Says speech)) s bytes held outside beyond input now output new status does
    left_is held_is = said_held (Ok speech) s bytes held status does.0 left_is held_is
held_on disks OnDoor (Ok (Serves stories budget folder)) s bytes held outside beyond input now
    output new status (inl none, doors) left_is held_is =
    held_so held _ held_is (
      [],
      none.wrote,
      never_begun (λ (s : Status). WritesServed s disks stories budget outside.disk folder bytes [])
          DiskFault status _ refl (inl refl) none.cause,
    )
held_on disks OnDoor (Ok (Serves stories budget folder)) s bytes held outside beyond input now
    output new status (inr t, doors) left_is held_is =
    held_so held _ held_is (pipe_told disks stories budget outside.disk folder bytes t.given
    t.givens t.back input now output new status
    (takes_lent disks folder t.given t.givens t.back outside beyond t.many t.borrowed) left_is
    t.done)
held_on disks OnDoor (Ok (ServesLinks stories budget folder serving))
    s bytes held outside beyond input now output new
    status (inl none, doors) left_is held_is =
    held_so held _ held_is (
      [],
      none.wrote,
      never_begun (λ (s : Status). WritesLinks s disks (outside.disk (journal_in folder)) [])
          DiskFault status _ refl (inl refl) none.cause,
    )
held_on disks OnDoor (Ok (ServesLinks stories budget folder serving))
    s bytes held outside beyond input now output new
    status (inr t, doors) left_is held_is =
    held_so held _ held_is (links_told disks OnDoor stories budget serving.workers
    (outside.disk (journal_in folder)) t.given t.givens t.back input now output new status
    t.borrowed.each.0.lent t.done)
held_on disks OnDoor (Ok (Begins folder)) s bytes held outside beyond input now output new status
    does left_is held_is =
    held_so held _ held_is
    (init_told disks folder outside beyond input now output new status does.0)
held_on disks OnDoor (Ok (Replays stories folder)) s bytes held outside beyond input now output new
    status does left_is held_is =
    held_so held _ held_is
    (replay_told disks stories folder outside beyond input now output new status does.0)
held_on disks OnDoor (Ok (PacksFrom folder into)) s bytes held outside beyond input now output new
    status does left_is held_is =
    held_so held _ held_is
    (pack_told disks folder into outside beyond input now output new status does.0)

nothing_tells : {D : Type 0} (disks : DiskWords D) (disk : List ℕ → Told D) (status : Status)
    (P : Type 0) (task : Result Task (List ℕ)) (input : List ℕ)
    → (status ≡ ReadFault) × P ⊎ (status ≡ NoMemory) → WritesFor disks disk status task input []
nothing_tells disks disk status P (Err line) input c = nothing_writes status P (Err line) input c
nothing_tells disks disk status P (Ok (Says speech)) input c =
    nothing_writes status P (Ok speech) input c
nothing_tells disks disk status P (Ok (Serves stories budget folder)) input c =
    never_begun (λ (s : Status). WritesServed s disks stories budget disk folder input []) ReadFault
    status P (inl refl) (inl refl) c
nothing_tells disks disk status P (Ok (ServesLinks stories budget folder serving)) input c =
    never_begun (λ (s : Status). WritesLinks s disks (disk (journal_in folder)) []) ReadFault status
    P refl (inl refl) c
nothing_tells disks disk status P (Ok (Begins folder)) input c =
    never_begun (λ (s : Status). WritesBegun s disks (disk (journal_in folder)) []) ReadFault status
    P refl (inl (ready, refl)) c
nothing_tells disks disk status P (Ok (Replays stories folder)) input c =
    never_begun (λ (s : Status). WritesReplayed s disks stories (disk (journal_in folder)) [])
    ReadFault status P refl (inl refl) c
nothing_tells disks disk status P (Ok (PacksFrom folder into)) input c =
    never_begun
    (λ (s : Status). WritesPacked s disks (disk (journal_in folder)) (disk (journal_in into)) [])
    ReadFault status P refl (inl refl) c

-- the disks that are told are those from before the loads
same_told : {D : Type 0} (disks : DiskWords D) (old new : List ℕ → Told D) (status : Status)
    (task : Result Task (List ℕ)) (input written : List ℕ)
    → ((name : List ℕ) → new name ≡ old name) → WritesFor disks new status task input written
    → WritesFor disks old status task input written
same_told {D} disks old new status task input written same w =
    subst (λ (f : List ℕ → Told D). WritesFor disks f status task input written)
    (λ i name. same name i) w

pub tells : {D : Type 0} (disks : DiskWords D) {OnDoor : OfDoor D} (asked : Asked) (status : Status)
    (outside beyond : OutsideState D) (input now : SourceState) (output new : SinkState)
    → FollowsCommand disks OnDoor asked status outside beyond input now output new
    → TellsCaller disks asked status outside input output new
tells disks asked status outside beyond input now output new (inl none) files bytes held files_are
    left_is held_is = (
      [],
      held_then output.held new.held held [] none.wrote.told held_is,
      nothing_tells disks
          outside.disk status _ _ bytes none.cause,
    )
tells disks {OnDoor} asked status outside beyond input now output new (inr some) files bytes held
    files_are left_is held_is =
    let task =
    tasked asked.action (stories_of some.files) asked.budget asked.folder asked.into in
    let t =
    held_on disks OnDoor task (steady asked.action (stories_of some.files) asked.budget
    asked.folder asked.into)
    bytes held some.between beyond input now output new status some.does left_is held_is in
    let same : stories_of some.files ≡ stories_of (map (take 67108865) files) =
    sym (settled_told outside.file asked.names some.files files some.are_files some.settled
    files_are) in (
      t.0,
      t.1,
      subst (λ (f : Result (List Story) Refusal). WritesFor disks outside.disk status
          (tasked asked.action f asked.budget asked.folder asked.into) bytes t.0) same
          (same_told disks outside.disk some.between.disk status task bytes t.0 some.loaded.disk
          t.2),
    )

-- two facts as one
pub both : {A B : Type 0} → A → B → A × B
both a b = (a, b)

-- what is so, of an outside that was left alone
pub left_alone : {D A : Type 0} (outside : OutsideState D) → A
    → A × KeepsDisks outside outside × KeepsDoors outside outside
left_alone outside a = (a, keeps_none outside, doors_none outside)

-- memory was wanted before a task was begun
pub does_nothing : {D : Type 0} (disks : DiskWords D) (OnDoor : OfDoor D)
    (task : Result Task (List ℕ))
    (outside : OutsideState D) (input : SourceState) (output : SinkState)
    → DoesTask disks OnDoor task outside outside input input output output NoMemory
does_nothing disks OnDoor (Err line) outside input output =
    left_alone outside (spoken_nothing (Err line) input output)
does_nothing disks OnDoor (Ok (Says speech)) outside input output =
    left_alone outside (spoken_nothing (Ok speech) input output)
does_nothing disks OnDoor (Ok (Serves stories budget folder)) outside input output = (
  inl (not_lent disks (journal_in folder ∷ snaps_below folder 64) outside input output),
  doors_none outside,
)
does_nothing disks OnDoor (Ok (ServesLinks stories budget folder serving)) outside input output = (
  inl (not_lent disks (journal_in folder ∷ snaps_below folder 64) outside input output),
  no_doors outside NoMemory (λ e. cc) (λ e. cc),
)
does_nothing disks OnDoor (Ok (Begins folder)) outside input output =
    (inl (not_lent disks (journal_in folder ∷ []) outside input output), doors_none outside)
does_nothing disks OnDoor (Ok (Replays stories folder)) outside input output =
    (inl (not_lent disks (journal_in folder ∷ []) outside input output), doors_none outside)
does_nothing disks OnDoor (Ok (PacksFrom folder into)) outside input output = (
  inl (not_lent disks (journal_in folder ∷ journal_in into ∷ []) outside input output),
  doors_none outside,
)

-- where memory was wanted before a file was loaded, each caller is told so
tells_nothing : {D : Type 0} (disks : DiskWords D) (asked : Asked) (outside : OutsideState D)
    (input : SourceState) (output : SinkState)
    → TellsCaller disks asked NoMemory outside input output output
tells_nothing disks asked outside input output files bytes held files_are left_is held_is = (
  [],
  held_then output.held output.held held [] (wrote_none output).told held_is,
  nothing_tells
      disks outside.disk NoMemory (Unit {0}) _ bytes (inr refl),
)

pub whatever_is_asked : (asked : Option Asked) (P : Asked → Type 0) → ((one : Asked) → P one)
    → IfSome asked P
whatever_is_asked None P p = tt
whatever_is_asked (Some one) P p = p one

pub told_no_memory : {D : Type 0} (disks : DiskWords D) (asked : Option Asked) (code : ℕ)
    (outside : OutsideState D) (input : SourceState) (output : SinkState)
    → status_of code ≡ Some NoMemory
    → IfSome asked (λ one. IsSomeAnd (status_of code)
    (λ status. TellsCaller disks one status outside input output output))
told_no_memory disks asked code outside input output is =
    whatever_is_asked asked (λ (one : Asked). IsSomeAnd (status_of code)
    (λ status. TellsCaller disks one status outside input output output))
    (λ one. subst (λ (s : Option Status). IsSomeAnd s
    (λ status. TellsCaller disks one status outside input output output)) (sym is)
    (tells_nothing disks one outside input output))

-- and so it is with what is done
pub done_no_memory : {D : Type 0} (disks : DiskWords D) (OnDoor : OfDoor D)
    (asked : Option Asked) (code : ℕ) (outside : OutsideState D) (input : SourceState)
    (output : SinkState)
    → status_of code ≡ Some NoMemory
    → IfSome asked (λ one. IsSomeAnd (status_of code)
    (λ status. FollowsCommand disks OnDoor one status outside outside input input output output))
done_no_memory disks OnDoor asked code outside input output is =
    whatever_is_asked asked (λ (one : Asked). IsSomeAnd (status_of code)
    (λ status. FollowsCommand disks OnDoor one status outside outside input input output output))
    (λ one. subst (λ (s : Option Status). IsSomeAnd s
    (λ status. FollowsCommand disks OnDoor one status outside outside input input output output))
    (sym is)
    (inl (record {
      behind = record { front = []; are_files = tt; are_stories = refl; next = λ e. cc };
      cause = inr refl;
      gave = gave_none input;
      wrote = wrote_none output;
      disks = keeps_none outside;
      doors = doors_none outside;
    })))
