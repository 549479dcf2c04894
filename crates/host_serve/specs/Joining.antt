-- Passes that are joined into others, session by session (own).
use Rattle.std.specs.Prelude.{◌≡◌, ◌≢◌, ◌⊎◌, ℕ, ◌<◌, ◌≤◌, List, ◌++◌}
use Rattle.turn_cell.specs.History.{AreApart, Continues, IsAmong, IsForeign}
use Rattle.session_core.specs.declared.entry.Entry.{Entry}
use Rattle.session_core.specs.Turning.{entry_by}
use Rattle.host_serve.specs.declared.host.Passes.{Passes}
use Rattle.host_serve.specs.Holders.{Holder, holder_at, holders, seen_at, seens}

-- who holds a pass once another one's was joined into it
abbrev pub with_pass : Holder → Holder → Holder
with_pass h other = record { number = h.number; made = h.made; holds = h.holds ++ other.holds }

-- What a holder's pass knows is part of what another one's does: its numbers are among the other's,
-- and what it has seen is a beginning, behind which no entry has one of its numbers.
pub record IsPart (h : Holder) (seen : List Entry) (whole : Holder) (more : List Entry) : Type 0
  where
    pub numbers : (n : ℕ) → IsAmong n h.holds → IsAmong n whole.holds
    pub since : Continues (IsForeign entry_by h.holds) more seen

module _ {D : Type 0} where
  -- none of the passes is a root
  abbrev pub HasNoRoot : Passes D → Type 0
  HasNoRoot passes = (s : ℕ) → s < 64 → (holder_at (holders passes.desks.items) s).number ≢ 0

  -- what passes know is part of what others do, session by session
  abbrev pub ArePartsOf : Passes D → Passes D → Type 0
  ArePartsOf whole passes =
      (s : ℕ) → s < 64
      → IsPart (holder_at (holders passes.desks.items) s) (seen_at (seens passes.desks.items) s)
      (holder_at (holders whole.desks.items) s) (seen_at (seens whole.desks.items) s)

  -- no number is held by both
  abbrev pub HoldApart : Passes D → Passes D → Type 0
  HoldApart passes others =
      (s : ℕ) → s < 64
      → AreApart (holder_at (holders passes.desks.items) s).holds
      (holder_at (holders others.desks.items) s).holds

  -- what roots hadn't seen, and later have, is of numbers that they had given
  abbrev pub HaveGiven : Passes D → Passes D → Type 0
  HaveGiven old new =
      (s : ℕ) → s < 64 → (holder_at (holders old.desks.items) s).number ≡ 0
      → Continues (λ (e : Entry). entry_by e ≤ (holder_at (holders old.desks.items) s).made)
      (seen_at (seens new.desks.items) s) (seen_at (seens old.desks.items) s)

  -- the passes of others were joined into these
  pub record JoinsPasses (old other new : Passes D) : Type 0 where
    pub holders :
        (s : ℕ) → s < 64
        → holder_at (holders new.desks.items) s
        ≡ with_pass (holder_at (holders old.desks.items) s)
        (holder_at (holders other.desks.items) s)
    -- of the two histories that were seen one is the longer
    pub seen :
        (s : ℕ) → s < 64
        → (seen_at (seens new.desks.items) s ≡ seen_at (seens old.desks.items) s)
        ⊎ (seen_at (seens new.desks.items) s ≡ seen_at (seens other.desks.items) s)
    pub first : ArePartsOf new old
    pub second : ArePartsOf new other
    pub apart : HoldApart old other
    pub given : HaveGiven old new
