-- A world: a story between two turns (own).
use Rattle.std.specs.Prelude.{◌≡◌, ◌≤◌, ℕ, List, length}
use Rattle.vm_exec.specs.Machine.{IsFit, IsSoundMachine}
use Rattle.vm_exec.specs.Start.{IsOver}
use Rattle.vm_exec.specs.declared.machine.Machine.{Machine}
use Rattle.glk_dispatch.specs.Glk.{turn_begun}
use Rattle.glk_dispatch.specs.Valid.{IsValidGlk, IsValidWaiting}
use Rattle.glk_dispatch.specs.declared.called.Called.{Called}
use Rattle.glk_dispatch.specs.declared.called.Called.TheVariants as call
use Rattle.glk_dispatch.specs.declared.glk.Glk.{Glk}
use Rattle.story_run.specs.Faults.{IsFaultNumber}
use Rattle.story_run.specs.declared.stage.Stage.{Stage}
use Rattle.story_run.specs.declared.stage.Stage.TheVariants.{AtSelect, AtPrompt, Quit, Fault}
use Rattle.story_run.specs.declared.world.Held.{Held}
use Rattle.story_run.specs.declared.step.Progress.{Progress}
use Rattle.story_run.specs.declared.step.Progress.TheVariants.{Runs, Waits, Prompts, Quits}

-- the image, the seed with which the story began, the budget of a turn, the Glk state, the story
-- that waits or how it ended, and the last show
pub record WorldState : Type 0 where
  pub image : List ℕ
  pub seed : ℕ
  pub budget : ℕ
  pub glk : Glk
  pub stage : Stage
  pub last : List ℕ

-- the state of what a world holds
abbrev pub world_of_held : Held → WorldState
world_of_held h = record {
  image = h.image;
  seed = h.seed;
  budget = h.budget;
  glk = h.glk;
  stage = h.stage;
  last = h.last;
}

-- the machine of a story with this image that runs: it is sound
pub record IsRunning (image : List ℕ) (m : Machine) : Type 0 where
  pub sound : IsSoundMachine m
  pub over : IsOver image m

-- the machine of one that waits: it is fit
pub record IsWaiting (image : List ℕ) (m : Machine) : Type 0 where
  pub fit : IsFit m
  pub over : IsOver image m

-- the machine of one that rests, begun with this seed: it waits, and its stack has room for what
-- stands on it
pub record IsResting (image : List ℕ) (seed : ℕ) (m : Machine) : Type 0 where
  pub waiting : IsWaiting image m
  pub room : length m.stack.bytes ≤ m.stack.limit
  pub begun : m.random.seed ≡ seed

-- where a story with this image and this seed waits, its machine is so; where it met a fault, that
-- has the number of one
abbrev pub IsStageOf : List ℕ → ℕ → Stage → Type 0
IsStageOf image seed (AtSelect m) = IsResting image seed m
IsStageOf image seed (AtPrompt m) = IsResting image seed m
IsStageOf image seed Quit = Unit {0}
IsStageOf image seed (Fault n) = IsFaultNumber n

-- after a step the machine is so, unless the story has quit
abbrev pub StaysOver : List ℕ → Machine → Progress → Type 0
StaysOver image m (Runs left) = IsRunning image m
StaysOver image m Waits = IsWaiting image m
StaysOver image m Prompts = IsWaiting image m
StaysOver image m Quits = Unit {0}

-- the answer of the call with which the Glk state waits; that of an exit once the story is over
abbrev pub answer_awaited : Stage → Called
answer_awaited (AtSelect m) = call.Wait
answer_awaited (AtPrompt m) = call.Prompt
answer_awaited Quit = call.Exit
answer_awaited (Fault n) = call.Exit

-- the Glk state is valid, and waits with what the story waits for, and with nothing else
abbrev pub StandsAt : Stage → Glk → Type 0
StandsAt stage g = IsValidWaiting (answer_awaited stage) g

-- so it is where a turn came to rest, but that a fault may come while it waits
abbrev pub ComesTo : Stage → Glk → Type 0
ComesTo (AtSelect m) g = IsValidWaiting call.Wait g
ComesTo (AtPrompt m) g = IsValidWaiting call.Prompt g
ComesTo Quit g = IsValidWaiting call.Exit g
ComesTo (Fault n) g = IsValidGlk g

-- a world as turns make it: the counts of its last turn are set back
pub record IsValidWorld (w : WorldState) : Type 0 where
  pub machine : IsStageOf w.image w.seed w.stage
  pub glk : StandsAt w.stage w.glk
  pub begun : turn_begun w.glk ≡ w.glk
