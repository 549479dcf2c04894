-- Turns one after the other, each on what its session's pass had seen and what others added (own).
use Rattle.std.specs.Prelude.{◌≡◌, ◌⊎◌, ℕ, List, [], ◌∷◌, length, set, None}
use Rattle.turn_cell.specs.History.{Continues, IsForeign}
use Rattle.story_run.specs.declared.story.Story.{Story}
use Rattle.session_core.specs.declared.entry.Entry.{Entry}
use Rattle.session_core.specs.Turning.{entry_by}
use Rattle.host_serve.specs.Holders.{Holder, IsAloneHolder, holder_at, seen_at}
use Rattle.host_serve.specs.Serves.{AnsweredLine, IsOfItsSession, IsOfNoSession, MayMeetIn}
use Rattle.host_serve.specs.Serves.{own_world, turned_again}

module _ (stories : List Story) (budget : ℕ) where
  -- an answer without a session, on a history that is empty
  pub record TurnsOnNone (old : List (List Entry)) (t : AnsweredLine) (new : List (List Entry))
      : Type 0 where
    pub none : IsOfNoSession t
    pub world : t.world ≡ None
    pub met : MayMeetIn stories budget [] t
    pub reply : t.reply ≡ (turned_again stories budget [] 0 t).reply
    pub seen : new ≡ old

  -- `sound` says that the host is sound
  module _ (sound : Type 0) where
    -- a turn in one session: `old` is what the holder's pass had seen, `new` what it has seen then
    pub record TurnsIn (h : Holder) (old : List Entry) (t : AnsweredLine) (new : List Entry)
        : Type 0 where
      -- the history as the turn began: only others' entries came since
      pub before : List Entry
      pub since : Continues (IsForeign entry_by h.holds) before old
      pub alone : IsAloneHolder h → before ≡ old
      pub length : t.mark.length ≡ length before
      -- on a sound host the session's world is its own
      pub own : sound → t.world ≡ own_world stories before
      pub met : MayMeetIn stories budget before t
      pub reply : t.reply ≡ (turned_again stories budget before h.number t).reply
      pub history : new ≡ (turned_again stories budget before h.number t).history

    -- a turn in the session that the line names; all other sessions stay
    pub record TurnsOn (holders : List Holder) (old : List (List Entry)) (t : AnsweredLine)
        (new : List (List Entry)) : Type 0 where
      pub session : IsOfItsSession t
      pub after : List Entry
      pub turn : TurnsIn (holder_at holders t.mark.session) (seen_at old t.mark.session) t after
      pub seen : new ≡ set old t.mark.session after

    -- one answered line
    abbrev pub Answers : List Holder → List (List Entry) → AnsweredLine → List (List Entry) → Type 0
    Answers holders old t new = TurnsOn holders old t new ⊎ TurnsOnNone old t new

    -- answered lines, in order
    abbrev pub AnswersInOrder :
        List Holder → List (List Entry) → List AnsweredLine → List (List Entry)
        → Type 0
    AnswersInOrder holders old [] new = new ≡ old
    AnswersInOrder holders old (t ∷ ts) new =
        (mid : List (List Entry)) × Answers holders old t mid × AnswersInOrder holders mid ts new
