-- What the workers of a host did at a door, by the exit status (own).
use Rattle.std.specs.Prelude.{◌≡◌, ◌⊎◌, ℕ, ◌<◌, ◌≤◌, List, [], ◌∷◌, ◌++◌, length, map, take}
use Rattle.std.specs.Prelude.{Some, slice_get}
use Rattle.turn_cell.specs.History.{Each, IsAmong}
use Rattle.disk_model.specs.declared.disk.Disk.{Ghosts as DiskWords}
use Rattle.gate_journal.specs.declared.entry.Entry.{Entry as JournalEntry}
use Rattle.gate_journal.specs.declared.row.Row.{Row}
use Rattle.host_serve.specs.Crews.{EachDid}
use Rattle.host_serve.specs.Doors.{IsDoorShut, Works, turns_of_visits}
use Rattle.host_serve.specs.Holders.{holder_at, holders, seen_at, seens}
use Rattle.host_serve.specs.Hosts.{IsSound}
use Rattle.host_serve.specs.Joining.{ArePartsOf}
use Rattle.host_serve.specs.Opening.{AreAgreed, histories_in_rows}
use Rattle.host_serve.specs.Serves.{AddedOnce, AnsweredLine, own_world, turned_again}
use Rattle.host_serve.specs.declared.door.Door.{Ghosts as DoorWords}
use Rattle.host_serve.specs.declared.host.Host.{Host}
use Rattle.host_serve.specs.declared.host.Passes.{Passes}
use Rattle.host_serve.specs.declared.worked.Worked.{Worked}
use Rattle.line_talk.specs.Streams.{SourceState, SinkState}
use Rattle.session_core.specs.Hosts.{session_on}
use Rattle.session_core.specs.Turning.{entry_by}
use Rattle.session_core.specs.declared.entry.Entry.{Entry}
use Rattle.session_desk.specs.Shared.{unnumbered}
use Rattle.session_desk.specs.Turn.{history_in}
use Rattle.story_run.specs.declared.story.Story.{Story}
use Rattle.host_top.specs.Rejoining.{AreAllApart, GoOnFrom, HaveSeen, Rejoins}
use Rattle.host_top.specs.declared.status.Status.{Status}
use Rattle.host_top.specs.declared.status.Status.TheVariants as ends

-- What is said of a door that was served: of the exit status, the stories, the budget and the
-- number of workers, of the journal's rows and the stores' disks as they were handed in, and of the
-- journal's entries then.
abbrev pub OfDoor : Type 0 → Type 1
OfDoor D = Status → List Story → ℕ → ℕ → List Row → List D → List JournalEntry → Type 0

-- By the exit status: with 0 a crew was at work, and ended so; with 9 a crew was at work, or none
-- was and this holds, as with 7.
abbrev pub AtDoor : Status → (Crew : Type 0) → (Crew → Type 0) → Type 0 → Type 0
AtDoor ends.Done Crew Ends Idle = (crew : Crew) × Ends crew
AtDoor ends.DoorFault Crew Ends Idle = Crew ⊎ Idle
AtDoor ends.NoMemory Crew Ends Idle = Idle
AtDoor status Crew Ends Idle = ⊥

-- P holds of what one of the members did
abbrev pub OneDid : {M A : Type 0} (Did : M → M → A → Type 0)
    → ((x y : M) (a : A) → Did x y a → Type 0) → (xs ys : List M) (answers : List A)
    → EachDid Did xs ys answers → Type 0
OneDid Did P [] [] [] did = ⊥
OneDid Did P [] [] (a ∷ answers) did = ⊥
OneDid Did P [] (y ∷ ys) answers did = ⊥
OneDid Did P (x ∷ xs) [] answers did = ⊥
OneDid Did P (x ∷ xs) (y ∷ ys) [] did = ⊥
OneDid Did P (x ∷ xs) (y ∷ ys) (a ∷ answers) did = P x y a did.0 ⊎ OneDid Did P xs ys answers did.1

-- The entry at this place of a session's history is the one that the turn of a line adds to the
-- entries before it. The line names the session, and on a sound host the turn is made in the world
-- to which these entries bring it.
pub record AddsAt (stories : List Story) (budget : ℕ) (sound : Type 0) (s : ℕ)
    (history : List Entry) (k : ℕ) (e : Entry) (t : AnsweredLine) : Type 0 where
  pub names : session_on t.line ≡ s
  pub adds :
      (turned_again stories budget (take k history) (entry_by e) t).history
      ≡ take k history ++ e ∷ []
  pub own : sound → t.world ≡ own_world stories (take k history)

-- no history has an entry behind those of the rows
abbrev pub AddsNoEntry : List Row → List (List Entry) → Type 0
AddsNoEntry rows finals =
    (s : ℕ) → s < 64 → seen_at finals s ≡ seen_at (histories_in_rows rows) s

module _ {O Conn Lent Done Fault : Type 0} (doors : DoorWords O Conn Done Fault)
    (source : Conn → SourceState) (sink : Conn → SinkState) (lent : Conn → Lent) where
  -- what one worker with these passes did at this door
  abbrev pub WorksAt : {D : Type 0} → (Host D → Type 0) → Host D → O → Passes D → Passes D
      → Worked O Conn Done Fault → Type 0
  WorksAt sound host door =
      Works source sink lent (doors.gives door) (doors.shuts door) (doors.fails door) sound host

  -- this worker holds the entry's number, and one of the lines that it answered, no other, has the
  -- turn that added the entry
  pub record AddsForLine {D : Type 0} (sound : Host D → Type 0) (host : Host D) (door : O) (s : ℕ)
      (history : List Entry) (k : ℕ) (e : Entry) (old new : Passes D)
      (answer : Worked O Conn Done Fault) (works : WorksAt sound host door old new answer)
      : Type 0 where
    pub holds : IsAmong (entry_by e) (holder_at (holders new.desks.items) s).holds
    pub stands : slice_get (seen_at (seens new.desks.items) s) k ≡ Some e
    pub once : AddedOnce host.stories.now host.budget (holders old.desks.items)
        (seens new.desks.items) (turns_of_visits works.served.visits) s k
    pub adds : AddsAt host.stories.now host.budget (sound host) s history k e once.turn

  -- workers with these passes served the links of a door, each one after the other, until the door
  -- answered one of them that it is shut, or failed
  pub record WorkersServe {D : Type 0} (sound : Host D → Type 0) (host : Host D)
      (before after : List (Passes D)) : Type 0 where
    pub door : O
    pub answers : List (Worked O Conn Done Fault)
    pub each : EachDid (WorksAt sound host door) before after answers

  -- so many workers served so, whose passes had seen these histories; of their passes afterwards
  -- this holds, and no two of them hold one number
  pub record CrewServes {D : Type 0} (sound : Host D → Type 0) (host : Host D) (workers : ℕ)
      (seen : List (List Entry)) (Then : Passes D → Type 0) : Type 0 where
    pub before : List (Passes D)
    pub after : List (Passes D)
    pub many : length before ≡ workers
    pub begin : Each (HaveSeen seen) before
    pub serve : WorkersServe sound host before after
    pub then : Each Then after
    pub apart : AreAllApart after

  -- what these knew was joined again into the roots that they were split off
  abbrev pub CrewRejoins : {D : Type 0} → (Host D → Type 0) → Host D → ℕ → Passes D → Passes D
      → Type 0
  CrewRejoins sound host workers old new =
      (crew : CrewServes sound host workers (seens old.desks.items) (ArePartsOf new))
      × Rejoins old crew.after new

  -- They served so from the histories that the journal's rows give, and these as they are at last
  -- go on from what each worker had seen. No entry came that no line asked for: each one behind
  -- those of the rows was added by the turn of a line which one worker answered, and its number is
  -- that worker's alone.
  pub record ServesDoor {D : Type 0} (sound : Host D → Type 0) (host : Host D) (workers : ℕ)
      (rows : List Row) (finals : List (List Entry)) : Type 0 where
    pub crew : CrewServes sound host workers (histories_in_rows rows) (GoOnFrom finals)
    pub turns :
        (s k : ℕ) (e : Entry) → s < 64 → length (seen_at (histories_in_rows rows) s) ≤ k
        → slice_get (seen_at finals s) k ≡ Some e
        → OneDid (WorksAt sound host crew.serve.door)
        (AddsForLine sound host crew.serve.door s (seen_at finals s) k e) crew.before crew.after
        crew.serve.answers crew.serve.each

  -- each of them was told that the door is shut
  abbrev pub AreAllShut : {D : Type 0} {sound : Host D → Type 0} {host : Host D}
      {before after : List (Passes D)} → WorkersServe sound host before after → Type 0
  AreAllShut serve = Each IsDoorShut serve.answers

  -- A host over these stories with this budget, which is sound where the stores handed in agree
  -- with these rows: as it ended the journal had of each session the commands and faults of one
  -- history, and its workers served a door, or there was none, by the exit status.
  pub record HostServes {D : Type 0} (disks : DiskWords D) (status : Status)
      (stories : List Story) (budget workers : ℕ) (rows : List Row) (givens : List D)
      (journal : List JournalEntry) : Type 0 where
    pub host : Host D
    pub plays : host.stories.now ≡ stories
    pub ticks : host.budget ≡ budget
    pub sound :
        AreAgreed disks stories rows givens → IsSound disks host
    pub finals : List (List Entry)
    pub entries : (s : ℕ) → s < 64 → history_in journal s ≡ map unnumbered (seen_at finals s)
    pub served :
        AtDoor status (ServesDoor (IsSound disks) host workers rows finals)
        (λ served. AreAllShut served.crew.serve) (AddsNoEntry rows finals)
