-- What the answers to lines tell: each is one turn on the history of its session (own).
use Rattle.std.specs.Prelude.{◌≡◌, ◌⊎◌, ℕ, ◌<◌, ◌≤◌, List, [], ◌∷◌, ◌++◌, length}
use Rattle.std.specs.Prelude.{take, set, slice_get, Option, Some}
use Rattle.turn_cell.specs.History.{IsAmong}
use Rattle.disk_model.specs.Disk.{Rose}
use Rattle.line_words.specs.declared.reply.No.TheVariants.{DiskFault, NoMemory}
use Rattle.line_words.specs.declared.reply.Reply.{Reply}
use Rattle.line_words.specs.declared.reply.Reply.TheVariants.{No}
use Rattle.story_run.specs.declared.story.Story.{Story}
use Rattle.story_run.specs.World.{WorldState}
use Rattle.session_core.specs.declared.decision.Decision.{Decision}
use Rattle.session_core.specs.declared.entry.Entry.{Entry}
use Rattle.session_core.specs.declared.entry.Entry.TheVariants.{Faulted}
use Rattle.session_core.specs.declared.entry.Outcome.{Outcome}
use Rattle.session_core.specs.declared.entry.Outcome.TheVariants.{OutOfMemory}
use Rattle.session_core.specs.History.{game_of, world_of}
use Rattle.session_core.specs.Hosts.{session_on}
use Rattle.session_core.specs.Turning.{commands_in, entry_by, MayMeet, Turned}
use Rattle.host_serve.specs.declared.mark.Mark.{Mark}
use Rattle.host_serve.specs.Holders.{Holder, IsAloneHolder, holder_at, seen_at}
use Rattle.host_serve.specs.Said.{said_in, turn_said_in}

-- one answered line: the world that its session had come to, as the host held it, what its turn
-- met, its mark and its reply
pub record AnsweredLine : Type 0 where
  pub line : List ℕ
  pub world : Option WorldState
  pub outcome : Outcome
  pub mark : Mark
  pub reply : Reply

-- the line names no session, or its reading found no memory
abbrev pub IsOfNoSession : AnsweredLine → Type 0
IsOfNoSession t = (t.mark.session ≡ 64) × (t.mark.length ≡ 0)
    × ((session_on t.line ≡ 64) ⊎ (t.outcome ≡ OutOfMemory))

-- the mark's session is the line's
abbrev pub IsOfItsSession : AnsweredLine → Type 0
IsOfItsSession t = (t.mark.session < 64) × (t.mark.session ≡ session_on t.line)

-- the i-th turn
abbrev pub IsTurn : List AnsweredLine → ℕ → AnsweredLine → Type 0
IsTurn turns i t = slice_get turns i ≡ Some t

-- the prefix of its session's history that the turn's mark names
abbrev pub marked : List (List Entry) → AnsweredLine → List Entry
marked new t = take t.mark.length (seen_at new t.mark.session)

-- the world that a session with this history has come to
abbrev pub own_world : List Story → List Entry → Option WorldState
own_world stories history = world_of stories (game_of (commands_in history))

module _ (stories : List Story) (budget : ℕ) where
  -- what the session says to the line, with this history and in the world that the host held
  abbrev pub decided_on_line : List Entry → AnsweredLine → Decision
  decided_on_line history t = said_in stories budget (commands_in history) t.world t.line

  -- a turn on this history may meet what this one met
  abbrev pub MayMeetIn : List Entry → AnsweredLine → Type 0
  MayMeetIn history t = MayMeet (decided_on_line history t).accepted t.outcome

  -- the turn of the same line on this history and in the same world, by a pass of this number,
  -- where it meets the same
  abbrev pub turned_again : List Entry → ℕ → AnsweredLine → Turned
  turned_again history by t = turn_said_in stories budget history t.world by t.line t.outcome

  -- the turn on the prefix that its mark names
  abbrev pub turned : List Holder → List (List Entry) → AnsweredLine → Turned
  turned holders new t = turned_again (marked new t) (holder_at holders t.mark.session).number t

  abbrev pub AddsNothing : List Holder → List (List Entry) → AnsweredLine → Type 0
  AddsNothing holders new t = (turned holders new t).history ≡ marked new t

  -- the turn adds the entry that stands there, and this is the pass's own
  abbrev pub AddsItsEntry : List Holder → List (List Entry) → AnsweredLine → Type 0
  AddsItsEntry holders new t = (e : Entry)
      × ((turned holders new t).history ≡ marked new t ++ e ∷ [])
      × (slice_get (seen_at new t.mark.session) t.mark.length ≡ Some e)
      × (entry_by e ≡ (holder_at holders t.mark.session).number)

  -- the reply is the session's on the marked prefix, or `NO 12`; or the disk failed, its count rose,
  -- and its fault stands there as this pass's entry
  abbrev pub IsExact : List Holder → List (List Entry) → AnsweredLine → Type 0
  IsExact holders new t = (t.reply ≡ (decided_on_line (marked new t) t).reply)
      ⊎ (t.reply ≡ No NoMemory)
      ⊎ ((from : ℕ) × (to : ℕ) × (t.reply ≡ No (DiskFault from to))
      × (slice_get (seen_at new t.mark.session) t.mark.length
      ≡ Some (Faulted (holder_at holders t.mark.session).number from to)) × Rose from to)

  -- exactly one turn adds the entry at this place of the session's history
  pub record AddedOnce (holders : List Holder) (new : List (List Entry)) (turns : List AnsweredLine)
      (s k : ℕ) : Type 0 where
    pub which : ℕ
    pub turn : AnsweredLine
    pub stands : IsTurn turns which turn
    pub session : turn.mark.session ≡ s
    pub place : turn.mark.length ≡ k
    pub adds : AddsItsEntry holders new turn
    pub only : (j : ℕ) (u : AnsweredLine) → IsTurn turns j u → u.mark.session ≡ s
        → u.mark.length ≡ k → AddsItsEntry holders new u → j ≡ which

  -- the fold of turns, each on what its session's pass has seen so far
  abbrev pub Folds : List Holder → List (List Entry) → List AnsweredLine → List (List Entry)
      → Type 0
  Folds holders seens [] new = new ≡ seens
  Folds holders seens (t ∷ ts) new =
      (t.mark.length ≡ length (seen_at seens t.mark.session))
      × (t.reply ≡ (turned_again (seen_at seens t.mark.session)
      (holder_at holders t.mark.session).number t).reply)
      × Folds holders (set seens t.mark.session (turned_again (seen_at seens t.mark.session)
      (holder_at holders t.mark.session).number t).history) ts new

  -- the turns of one call: what the passes had seen as it began is `old`, as it ended `new`
  pub record ServesLines (sound : Type 0) (holders : List Holder) (old : List (List Entry))
      (turns : List AnsweredLine) (new : List (List Entry)) : Type 0 where
    -- the mark is the line's session and the length of a prefix of its history, or (64, 0)
    pub marks : (i : ℕ) (t : AnsweredLine) → IsTurn turns i t → IsOfItsSession t ⊎ IsOfNoSession t
    pub prefix : (i : ℕ) (t : AnsweredLine) → IsTurn turns i t
        → t.mark.length ≤ length (seen_at new t.mark.session)
    -- a mark is at least the length of what was seen as the call began
    pub begins : (i : ℕ) (t : AnsweredLine) → IsTurn turns i t
        → length (seen_at old t.mark.session) ≤ t.mark.length
    -- marks of a session don't fall, and after a turn that adds an entry they are greater
    pub rises : (i j : ℕ) (t u : AnsweredLine) → IsTurn turns i t → IsTurn turns j u → i < j
        → t.mark.session ≡ u.mark.session → t.mark.length ≤ u.mark.length
        × (AddsItsEntry holders new t → t.mark.length < u.mark.length)
    -- on a sound host a turn is made in the world to which its session had come
    pub own : sound → (i : ℕ) (t : AnsweredLine) → IsTurn turns i t
        → t.world ≡ own_world stories (marked new t)
    -- a reply is that of `turn_said_in` on the marked prefix, in the turn's world and by an outcome
    -- with which it adds nothing, or the entry that stands there
    pub replies : (i : ℕ) (t : AnsweredLine) → IsTurn turns i t
        → (t.reply ≡ (turned holders new t).reply)
        × (AddsNothing holders new t ⊎ AddsItsEntry holders new t)
    pub exact : (i : ℕ) (t : AnsweredLine) → IsTurn turns i t → IsExact holders new t
    -- every entry of this pass made in the call is so added by exactly one line
    pub once : (s place : ℕ) (e : Entry) → length (seen_at old s) ≤ place
        → slice_get (seen_at new s) place ≡ Some e
        → IsAmong (entry_by e) (holder_at holders s).holds
        → AddedOnce holders new turns s place
    -- what was seen stays
    pub grows : (s : ℕ) → (rest : List Entry) × (seen_at new s ≡ seen_at old s ++ rest)
    -- while the passes are alone each mark is the length of what was seen so far, and the replies
    -- are the fold
    pub alone : ((s : ℕ) → IsAloneHolder (holder_at holders s)) → Folds holders old turns new
