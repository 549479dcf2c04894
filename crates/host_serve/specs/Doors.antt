-- A door, and what a worker does with the links that it gives (own).
use Rattle.std.specs.Prelude.{◌≡◌, ◌^◌, ◌<◌, ◌≤◌, List, [], ◌∷◌, ◌++◌, true, false}
use Rattle.line_talk.specs.Streams.{SourceState, SinkState}
use Rattle.line_talk.specs.declared.ended.Ended.{Ended}
use Rattle.line_talk.specs.declared.ended.Ended.TheVariants.{End, ReadFault, WriteFault}
use Rattle.line_talk.specs.declared.ended.Ended.TheVariants.{LineLimit, NoMemory}
use Rattle.host_serve.specs.declared.door.Next.{Next}
use Rattle.host_serve.specs.declared.door.Next.TheVariants.{Link, Shut, Failed}
use Rattle.host_serve.specs.declared.host.Host.{Host}
use Rattle.host_serve.specs.declared.host.Passes.{Passes}
use Rattle.host_serve.specs.declared.mark.Mark.{Mark}
use Rattle.host_serve.specs.declared.worked.Worked.{Worked}
use Rattle.host_serve.specs.declared.worked.Worked.TheVariants as worked
use Rattle.host_serve.specs.Chain.{AnswersInOrder}
use Rattle.host_serve.specs.Holders.{holders, seens}
use Rattle.host_serve.specs.Hosts.{AreOf}
use Rattle.host_serve.specs.Serves.{ServesLines, AnsweredLine}
use Rattle.host_serve.specs.Told.{TellsLink}
use Rattle.turn_cell.specs.History.{Each}

-- nothing was read from the link yet, and neither side has failed
pub record IsFresh (input : SourceState) (output : SinkState) : Type 0 where
  pub taken : input.taken ≡ 0
  pub ended : input.ended ≡ false
  pub reads : input.faults ≡ 0
  pub writes : output.faults ≡ 0

-- a link may be hung up for this
abbrev pub MayHangUp : Ended → SourceState → SinkState → Type 0
MayHangUp End input output = input.ended ≡ true
MayHangUp ReadFault input output = 0 < input.faults
MayHangUp WriteFault input output = 0 < output.faults
MayHangUp LineLimit input output = 2 ^ 20 ≤ input.taken
MayHangUp NoMemory input output = Unit {0}

module _ {O Conn Done Fault : Type 0} where
  -- a door answers so
  abbrev pub IsAnswer : (Conn → Type 0) → (Done → Type 0) → (Fault → Type 0)
      → Next O Conn Done Fault → Type 0
  IsAnswer Gives Shuts Fails (Link link) = Gives link
  IsAnswer Gives Shuts Fails (Shut end) = Shuts end
  IsAnswer Gives Shuts Fails (Failed fault) = Fails fault

  -- a worker ends so, by what the door answered last
  abbrev pub IsEndOf : (Done → Type 0) → (Fault → Type 0) → Worked O Conn Done Fault → Type 0
  IsEndOf Shuts Fails (worked.Shut end) = Shuts end
  IsEndOf Shuts Fails (worked.DoorFault fault) = Fails fault

  -- the door was shut
  abbrev pub IsDoorShut : Worked O Conn Done Fault → Type 0
  IsDoorShut (worked.Shut end) = Unit {0}
  IsDoorShut (worked.DoorFault fault) = ⊥

-- one link: as it was taken, as it was hung up, why, and the turns of its lines
pub record Visit (Conn : Type 0) : Type 0 where
  pub taken : Conn
  pub left : Conn
  pub why : Ended
  pub turns : List AnsweredLine

-- the turns of all lines, link after link
abbrev pub turns_of_visits : {Conn : Type 0} → List (Visit Conn) → List AnsweredLine
turns_of_visits [] = []
turns_of_visits (v ∷ visits) = v.turns ++ turns_of_visits visits

module _ {Conn Lent : Type 0} (source : Conn → SourceState) (sink : Conn → SinkState)
    (lent : Conn → Lent) (Gives : Conn → Type 0) where
  -- a link of the door, which was served and then hung up
  pub record IsVisit (v : Visit Conn) : Type 0 where
    pub given : Gives v.taken
    pub fresh : IsFresh (source v.taken) (sink v.taken)
    pub marks : List Mark
    pub tells : TellsLink v.turns (source v.taken) (source v.left) (sink v.taken) (sink v.left) []
        marks v.why
    pub same : lent v.left ≡ lent v.taken
    pub ends : MayHangUp v.why (source v.left) (sink v.left)

  -- the links that one worker has served: their lines were answered one after the other, from what
  -- its passes had seen
  pub record Visits {D : Type 0} (sound : Host D → Type 0) (host : Host D) (old new : Passes D)
      : Type 0 where
    pub visits : List (Visit Conn)
    pub each : Each IsVisit visits
    pub chain : AnswersInOrder host.stories.now host.budget (sound host) (holders old.desks.items)
        (seens old.desks.items) (turns_of_visits visits) (seens new.desks.items)
    pub kept : AreOf host new
    pub held : holders new.desks.items ≡ holders old.desks.items

  -- one worker: its links, and what ended it
  pub record Works {D O Done Fault : Type 0} (Shuts : Done → Type 0) (Fails : Fault → Type 0)
      (sound : Host D → Type 0) (host : Host D) (old new : Passes D)
      (answer : Worked O Conn Done Fault) : Type 0 where
    pub served : Visits sound host old new
    pub serves : ServesLines host.stories.now host.budget (sound host) (holders old.desks.items)
        (seens old.desks.items) (turns_of_visits served.visits) (seens new.desks.items)
    pub ends : IsEndOf Shuts Fails answer
