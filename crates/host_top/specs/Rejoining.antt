-- Passes that are split off the roots of a host for its workers, and joined into these again (own).
use Rattle.std.specs.Prelude.{◌≡◌, ◌⊎◌, ℕ, ◌<◌, ◌≤◌, List, [], ◌∷◌}
use Rattle.turn_cell.specs.History.{Continues, Each, IsAmong, IsForeign}
use Rattle.host_serve.specs.Holders.{holder_at, holders, seen_at, seens}
use Rattle.host_serve.specs.Joining.{ArePartsOf, HaveGiven, HoldApart}
use Rattle.host_serve.specs.declared.host.Passes.{Passes}
use Rattle.session_core.specs.Turning.{entry_by}
use Rattle.session_core.specs.declared.entry.Entry.{Entry}

module _ {D : Type 0} where
  -- ---- what passes have seen

  -- the passes have seen these histories
  abbrev pub HaveSeen : List (List Entry) → Passes D → Type 0
  HaveSeen seen passes = seens passes.desks.items ≡ seen

  -- these passes have seen what those had, and no more
  abbrev pub SeeNoMore : Passes D → Passes D → Type 0
  SeeNoMore old new =
      (s : ℕ) → s < 64
      → seen_at (seens new.desks.items) s ≡ seen_at (seens old.desks.items) s

  -- of this session one of these passes has seen this history
  abbrev pub IsSeenByOne : ℕ → List Entry → List (Passes D) → Type 0
  IsSeenByOne s history [] = ⊥
  IsSeenByOne s history (p ∷ ps) =
      (history ≡ seen_at (seens p.desks.items) s) ⊎ IsSeenByOne s history ps

  -- these histories go on from what the passes have seen, by entries of other numbers
  abbrev pub GoOnFrom : List (List Entry) → Passes D → Type 0
  GoOnFrom finals passes =
      (s : ℕ) → s < 64
      → Continues (IsForeign entry_by (holder_at (holders passes.desks.items) s).holds)
      (seen_at finals s) (seen_at (seens passes.desks.items) s)

  -- ---- the numbers that passes hold

  -- of this session one of these passes holds the number
  abbrev pub IsHeldByOne : ℕ → ℕ → List (Passes D) → Type 0
  IsHeldByOne s n [] = ⊥
  IsHeldByOne s n (p ∷ ps) =
      IsAmong n (holder_at (holders p.desks.items) s).holds ⊎ IsHeldByOne s n ps

  -- each number that these roots gave, and their own, is held by one of these passes
  abbrev pub AreAllHeld : Passes D → List (Passes D) → Type 0
  AreAllHeld roots passes =
      (s n : ℕ) → s < 64 → n ≤ (holder_at (holders roots.desks.items) s).made
      → IsHeldByOne s n passes

  -- no two of these passes hold one number
  abbrev pub AreAllApart : List (Passes D) → Type 0
  AreAllApart [] = Unit {0}
  AreAllApart (p ∷ ps) = Each (HoldApart p) ps × AreAllApart ps

  -- ---- splits and joins

  -- more passes were split off these roots, which hold and have seen as much
  pub record SplitsFrom (old new : Passes D) : Type 0 where
    pub same :
        (s : ℕ) → s < 64
        → ((holder_at (holders new.desks.items) s).holds
        ≡ (holder_at (holders old.desks.items) s).holds)
        × ((holder_at (holders new.desks.items) s).number ≡ 0)
    pub seen : seens new.desks.items ≡ seens old.desks.items

  -- The passes of all workers were joined into these roots, which have seen what one of all these
  -- had; no two of them held one number, and no number more was given.
  pub record JoinsAll (old : Passes D) (workers : List (Passes D)) (new : Passes D) : Type 0
    where
      pub first : ArePartsOf new old
      pub parts : Each (ArePartsOf new) workers
      pub apart : AreAllApart (old ∷ workers)
      pub given : HaveGiven old new
      pub made :
          (s : ℕ) → s < 64
          → (holder_at (holders new.desks.items) s).made
          ≡ (holder_at (holders old.desks.items) s).made
      pub seen :
          (s : ℕ) → s < 64
          → IsSeenByOne s (seen_at (seens new.desks.items) s) (old ∷ workers)

  -- Workers' passes that were split off roots were joined into them again. Each number that the
  -- roots gave was the workers' or their own, and what they hadn't seen before is of these numbers.
  pub record Rejoins (old : Passes D) (workers : List (Passes D)) (new : Passes D) : Type 0
    where
      pub first : ArePartsOf new old
      pub given :
          (s : ℕ) → s < 64
          → Continues (λ (e : Entry). entry_by e ≤ (holder_at (holders new.desks.items) s).made)
          (seen_at (seens new.desks.items) s) (seen_at (seens old.desks.items) s)
      pub held : AreAllHeld new (old ∷ workers)
