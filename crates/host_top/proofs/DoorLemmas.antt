-- What workers did at a door, by the exit status, from what their host says of them and of its end.
use Rattle.std.proofs.Common.{◌≡◌, ◌≢◌, ◌<◌, ℕ, List, [], ◌∷◌, length, sym, subst, ap, ◌∙◌}
use Rattle.std.proofs.Common.{inl, inr}
use Rattle.disk_model.specs.declared.disk.Disk.{Ghosts as DiskWords}
use Rattle.turn_cell.specs.History.{Each, IsAmong}
use Rattle.turn_cell.proofs.HistoryLemmas.{each_append, each_map}
use Rattle.gate_journal.specs.declared.row.Row.{Row}
use Rattle.host_serve.specs.Crews.{AllDid, EachDid}
use Rattle.host_serve.specs.Doors.{IsDoorShut}
use Rattle.host_serve.specs.Ending.{EndsAt}
use Rattle.host_serve.specs.Holders.{Holder, holder_at, holders, seen_at, seens}
use Rattle.host_serve.specs.Hosts.{AreOf, IsSound, rows_at_opening}
use Rattle.host_serve.specs.Joining.{ArePartsOf, HasNoRoot}
use Rattle.host_serve.specs.Opening.{AreAgreed, IsOpenedHost, histories_in_rows}
use Rattle.host_serve.specs.declared.door.Door.{Ghosts as DoorWords}
use Rattle.host_serve.specs.declared.host.Host.{Host}
use Rattle.host_serve.specs.declared.host.Passes.{Passes}
use Rattle.host_serve.specs.declared.worked.Worked.{Worked}
use Rattle.host_serve.specs.declared.worked.Worked.TheVariants as worked
use Rattle.host_serve.proofs.JoinLemmas.{part_of_final}
use Rattle.line_talk.specs.Streams.{SourceState, SinkState}
use Rattle.session_core.specs.declared.entry.Entry.{Entry}
use Rattle.story_run.specs.declared.story.Story.{Story}
use Rattle.host_top.specs.DoorServed.{AreAllShut, AtDoor, CrewRejoins, HostServes, ServesDoor}
use Rattle.host_top.specs.DoorServed.{WorkersServe, WorksAt}
use Rattle.host_top.specs.Rejoining.{AreAllHeld, GoOnFrom, HaveSeen, IsHeldByOne, JoinsAll}
use Rattle.host_top.specs.Rejoining.{SeeNoMore, SplitsFrom}
use Rattle.host_top.specs.Status.{status_of_worked}
use Rattle.host_top.specs.declared.status.Status.{Status}
use Rattle.host_top.specs.declared.status.Status.TheVariants as ends
use Rattle.host_top.proofs.AddedLemmas.{all_added}
use Rattle.host_top.proofs.CrewLemmas.{heard, held_then, none_seen, rejoins, who}
use Rattle.host_top.proofs.IdleLemmas.{no_entry}
use Rattle.host_top.proofs.ConversedLemmas.{EndsOn, opened_rows}

-- by the exit status, what comes of what was done at a door
pub at_door : {Crew Crew' Idle Idle' : Type 0} (Ends : Crew → Type 0) (Ends' : Crew' → Type 0)
    (f : Crew → Crew') → ((c : Crew) → Ends c → Ends' (f c)) → (Idle → Idle')
    → (status : Status) → AtDoor status Crew Ends Idle → AtDoor status Crew' Ends' Idle'
at_door Ends Ends' f g h ends.Done did = (f did.0, g did.0 did.1)
at_door Ends Ends' f g h ends.DoorFault (inl did) = inl (f did)
at_door Ends Ends' f g h ends.DoorFault (inr none) = inr (h none)
at_door Ends Ends' f g h ends.NoMemory none = h none
at_door Ends Ends' f g h ends.BadWords did = absurd did
at_door Ends Ends' f g h ends.Refused did = absurd did
at_door Ends Ends' f g h ends.ReadFault did = absurd did
at_door Ends Ends' f g h ends.WriteFault did = absurd did
at_door Ends Ends' f g h ends.DiskFault did = absurd did
at_door Ends Ends' f g h ends.BadFolder did = absurd did
at_door Ends Ends' f g h ends.LineLimit did = absurd did

-- where memory was wanted there was no crew
pub none_at_seven : {Crew Idle : Type 0} (Ends : Crew → Type 0) (status : Status)
    → AtDoor status Crew Ends Idle → status ≡ ends.NoMemory → Idle
none_at_seven {Crew} {Idle} Ends status did is =
    subst (λ (s : Status). AtDoor s Crew Ends Idle) is did

module _ {O Conn Lent Done Fault : Type 0} (doors : DoorWords O Conn Done Fault)
    (source : Conn → SourceState) (sink : Conn → SinkState) (lent : Conn → Lent) where
  -- what a crew did at a door, by the exit status
  pub workers_serve : {D : Type 0} (sound : Host D → Type 0) (host : Host D) (door : O)
      (before after : List (Passes D)) (how : Worked O Conn Done Fault) (status : Status)
      → AllDid (WorksAt doors source sink lent sound host door) IsDoorShut before after how
      → status ≡ status_of_worked how
      → AtDoor status (WorkersServe doors source sink lent sound host before after)
      (AreAllShut doors source sink lent) (after ≡ before)
  workers_serve sound host door before after how status did is =
      subst (λ (s : Status). AtDoor s (WorkersServe doors source sink lent sound host before after)
      (AreAllShut doors source sink lent) (after ≡ before)) (sym is) (ended how did.end)
    where
      crew : WorkersServe doors source sink lent sound host before after
      crew = record { door = door; answers = did.answers; each = did.each }

      ended : (w : Worked O Conn Done Fault) → (IsDoorShut w → Each IsDoorShut did.answers)
          → AtDoor (status_of_worked w) (WorkersServe doors source sink lent sound host before after)
          (AreAllShut doors source sink lent) (after ≡ before)
      ended (worked.Shut end) shut = (crew, shut tt)
      ended (worked.DoorFault fault) shut = inl crew

  -- their passes stay passes of the host
  pub workers_kept : {D : Type 0} (sound : Host D → Type 0) (host : Host D) (door : O)
      (before after : List (Passes D)) (answers : List (Worked O Conn Done Fault))
      → EachDid (WorksAt doors source sink lent sound host door) before after answers → Each (AreOf host) after
  workers_kept sound host door [] [] [] did = tt
  workers_kept sound host door [] [] (a ∷ answers) did = absurd did
  workers_kept sound host door [] (y ∷ ys) answers did = absurd did
  workers_kept sound host door (x ∷ xs) [] answers did = absurd did
  workers_kept sound host door (x ∷ xs) (y ∷ ys) [] did = absurd did
  workers_kept sound host door (x ∷ xs) (y ∷ ys) (a ∷ answers) did =
      (did.0.served.kept, workers_kept sound host door xs ys answers did.1)

  -- and none becomes a root
  pub workers_no_root : {D : Type 0} (sound : Host D → Type 0) (host : Host D) (door : O)
      (before after : List (Passes D)) (answers : List (Worked O Conn Done Fault))
      → EachDid (WorksAt doors source sink lent sound host door) before after answers
      → Each HasNoRoot before → Each HasNoRoot after
  workers_no_root sound host door [] [] [] did none = tt
  workers_no_root sound host door [] [] (a ∷ answers) did none = absurd did
  workers_no_root sound host door [] (y ∷ ys) answers did none = absurd did
  workers_no_root sound host door (x ∷ xs) [] answers did none = absurd did
  workers_no_root sound host door (x ∷ xs) (y ∷ ys) [] did none = absurd did
  workers_no_root sound host door (x ∷ xs) (y ∷ ys) (a ∷ answers) did none = (
    subst (λ (hs : List Holder). (s : ℕ) → s < 64 → (holder_at hs s).number ≢ 0)
        (sym did.0.served.held) none.0,
    workers_no_root sound host door xs ys answers did.1 none.1,
  )

  -- and each holds what it held
  pub workers_held : {D : Type 0} (sound : Host D → Type 0) (host : Host D) (door : O)
      (before after : List (Passes D)) (answers : List (Worked O Conn Done Fault))
      → EachDid (WorksAt doors source sink lent sound host door) before after answers
      → (s n : ℕ) → IsHeldByOne s n before → IsHeldByOne s n after
  workers_held sound host door [] [] [] did s n held = absurd held
  workers_held sound host door [] [] (a ∷ answers) did s n held = absurd did
  workers_held sound host door [] (y ∷ ys) answers did s n held = absurd did
  workers_held sound host door (x ∷ xs) [] answers did s n held = absurd did
  workers_held sound host door (x ∷ xs) (y ∷ ys) [] did s n held = absurd did
  workers_held sound host door (x ∷ xs) (y ∷ ys) (a ∷ answers) did s n (inl own) =
      inl (subst (λ (hs : List Holder). IsAmong n (holder_at hs s).holds)
      (sym did.0.served.held) own)
  workers_held sound host door (x ∷ xs) (y ∷ ys) (a ∷ answers) did s n (inr other) =
      inr (workers_held sound host door xs ys answers did.1 s n other)

  -- a crew that served with passes split off roots, once these were joined again
  pub crew_rejoins : {D : Type 0} (sound : Host D → Type 0) (host : Host D) (workers : ℕ)
      (old mid new : Passes D) (before after : List (Passes D)) (status : Status)
      → length before ≡ workers → Each (HaveSeen (seens old.desks.items)) before
      → AtDoor status (WorkersServe doors source sink lent sound host before after)
      (AreAllShut doors source sink lent) (after ≡ before)
      → SplitsFrom old mid → AreAllHeld mid (mid ∷ before)
      → ((s n : ℕ) → IsHeldByOne s n before → IsHeldByOne s n after) → JoinsAll mid after new
      → AtDoor status (CrewRejoins doors source sink lent sound host workers old new)
      (λ c. AreAllShut doors source sink lent c.0.serve) (SeeNoMore old new)
  crew_rejoins sound host workers old mid new before after status many begin served split held
      still joined =
      at_door (AreAllShut doors source sink lent)
      (λ (c : CrewRejoins doors source sink lent sound host workers old new). AreAllShut doors source sink lent c.0.serve)
      (λ serve. (
        record {
          before = before;
          after = after;
          many = many;
          begin = begin;
          serve = serve;
          then = joined.parts;
          apart = joined.apart.1;
        },
        rejoins old mid new after split (held_then mid before after still held) joined,
      ))
      (λ serve shut. shut)
      (λ none. none_seen old mid new before split.seen begin
      (subst (λ (l : List (Passes _)). JoinsAll mid l new) none joined))
      status served

  -- such a crew as its host ends
  serves_door : {D : Type 0} (sound : Host D → Type 0) (host : Host D) (workers : ℕ)
      (rows : List Row) (finals : List (List Entry)) (first last : Passes D)
      → seens first.desks.items ≡ histories_in_rows rows → AreAllHeld last (last ∷ [])
      → ((s : ℕ) → s < 64 → EndsAt (who last s) (heard last s) (seen_at finals s))
      → CrewRejoins doors source sink lent sound host workers first last
      → ServesDoor doors source sink lent sound host workers rows finals
  serves_door sound host workers rows finals first last seen whole each (crew, rejoined) = record {
    crew = record {
      before = crew.before;
      after = crew.after;
      many = crew.many;
      begin = begin;
      serve = crew.serve;
      then = then;
      apart = crew.apart;
    };
    turns = λ s k e low from at. all_added doors source sink lent sound host crew.serve.door
        (histories_in_rows rows) finals s k e first last crew.before crew.after
        crew.serve.answers crew.serve.each low seen rejoined whole begin then (each s low) from at;
  }
    where
      begin : Each (HaveSeen (histories_in_rows rows)) crew.before
      begin = subst (λ (hs : List (List Entry)). Each (HaveSeen hs) crew.before) seen crew.begin

      then : Each (GoOnFrom finals) crew.after
      then = each_map (ArePartsOf last) (GoOnFrom finals) crew.after
          (λ passes parts s low. part_of_final _ _ _ _ _ (parts s low) (each s low)) crew.then

  -- the host that was opened over the stories with the budget is one whose workers served so
  pub host_serves : {D : Type 0} (disks : DiskWords D) (stories : List Story) (budget : ℕ)
      (rows : List Row) (given : D) (host : Host D) (first last : Passes D)
      (workers : ℕ) (givens : List D) (back : D) (backs : List D) (status : Status)
      → IsOpenedHost stories budget rows (record { disk = given; found = length rows }) host first
      → (AreAgreed disks stories (rows_at_opening host) givens → IsSound disks host)
      → AtDoor status (CrewRejoins doors source sink lent (IsSound disks) host workers first last)
      (λ c. AreAllShut doors source sink lent c.0.serve) (SeeNoMore first last)
      → AreAllHeld last (last ∷ [])
      → (end : EndsOn disks host last back backs)
      → HostServes doors source sink lent disks status stories budget workers rows givens
      end.0.entries
  unfolding serves_door
  host_serves disks stories budget rows given host first last workers givens back backs status
      opened sound did whole end = record {
        host = host;
        plays = opened.stories;
        ticks = opened.budget;
        sound = subst (λ (rs : List Row). AreAgreed disks stories rs givens → IsSound disks host)
            (opened_rows stories budget rows _ host first opened) sound;
        finals = end.2.finals;
        entries = end.2.kept;
        served =
            at_door
            (λ (c : CrewRejoins doors source sink lent (IsSound disks) host workers first last).
            AreAllShut doors source sink lent c.0.serve)
            (λ (d : ServesDoor doors source sink lent (IsSound disks) host workers
            rows end.2.finals). AreAllShut doors source sink lent d.crew.serve)
            (serves_door (IsSound disks) host workers rows end.2.finals first last
            opened.histories whole end.2.each)
            (λ c shut. shut)
            (no_entry disks _ back givens backs stories budget rows host first last opened end whole)
            status did;
      }
