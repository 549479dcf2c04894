-- What turns keep to (own).
use Rattle.std.specs.Prelude.{◌≡◌, ◌≢◌, ℕ, ◌+◌, ◌<◌, List, true, false}
use Rattle.story_text.specs.declared.input.Input.{Input}
use Rattle.story_run.specs.Faults.{IsFaultNumber}
use Rattle.story_run.specs.Solo.{is_over, is_wanted, opening, world_after_input}
use Rattle.story_run.specs.Step.{Running}
use Rattle.story_run.specs.Turn.{rest, steps}
use Rattle.story_run.specs.World.{StandsAt, WorldState}
use Rattle.glk_dispatch.specs.declared.glk.Glk.{Glk}
use Rattle.story_run.specs.declared.setup.Setup.{Setup}
use Rattle.story_run.specs.declared.stage.Stage.{Stage}
use Rattle.story_run.specs.declared.stage.Stage.TheVariants.{Fault}

-- a turn never runs out of steps: any number above the budget comes to the same rest
abbrev pub TurnsEnd : Type 0
TurnsEnd =
    (image : List ℕ) (n budget : ℕ) (r : Running)
    → budget < n → steps image n budget r ≡ rest image budget r

-- a budget does nothing but end turns: one that is kept gives the same turn as any greater one
abbrev pub BudgetsOnlyEnd : Type 0
BudgetsOnlyEnd =
    (image : List ℕ) (budget more : ℕ) (r : Running) (g : Glk) (s : Stage)
    → rest image budget r ≡ (g, s) → s ≢ Fault 24
    → rest image (budget + more) r ≡ (g, s)

-- a story that is over wants nothing
abbrev pub OverWantsNothing : Type 0
OverWantsNothing =
    (w : WorldState) (input : Input) → is_over w ≡ true → is_wanted w input ≡ false

-- an input that isn't wanted leaves the world as it is
abbrev pub UnwantedLeaves : Type 0
UnwantedLeaves =
    (w : WorldState) (input : Input) → is_wanted w input ≡ false → world_after_input w input ≡ w

-- Glk states stay valid: the opening makes one that waits with what the story waits for, and each
-- turn makes such a one of such a one
pub record GlkStaysValid : Type 0 where
  pub opened : (image : List ℕ) (setup : Setup)
      → StandsAt (opening image setup).stage (opening image setup).glk
  pub turned : (w : WorldState) (input : Input) → StandsAt w.stage w.glk
      → StandsAt (world_after_input w input).stage (world_after_input w input).glk

-- a turn that ends with a fault ends with the number of one, whatever it goes on from; so does a
-- story that begins, and one that gets an input which it waits for
pub record FaultsAreNumbered : Type 0 where
  pub rested : (image : List ℕ) (budget : ℕ) (r : Running) (g : Glk) (n : ℕ)
      → rest image budget r ≡ (g, Fault n) → IsFaultNumber n
  pub opened : (image : List ℕ) (setup : Setup) (n : ℕ)
      → (opening image setup).stage ≡ Fault n → IsFaultNumber n
  pub turned : (w : WorldState) (input : Input) (n : ℕ) → is_wanted w input ≡ true
      → (world_after_input w input).stage ≡ Fault n → IsFaultNumber n
