-- A turn: steps until the story waits or ends, within its budget (own).
use Rattle.std.specs.Prelude.{◌≡◌, ◌<◌, ℕ, zero, suc, ◌+◌, List, Result, Ok, Err, IfOk, IsErr}
use Rattle.std.specs.declared.alloc.AllocError.{AllocError}
use Rattle.vm_exec.specs.Start.{finished}
use Rattle.vm_exec.specs.declared.machine.Machine.{Machine}
use Rattle.vm_memory.specs.declared.fault.Trap.{Trap}
use Rattle.vm_memory.specs.declared.fault.Trap.TheVariants as trap
use Rattle.story_text.specs.declared.input.Input.{Input}
use Rattle.glk_dispatch.specs.Answer.{Reached, CallRule, glk_call}
use Rattle.glk_dispatch.specs.Events as events
use Rattle.glk_dispatch.specs.declared.glk.Glk.{Glk}
use Rattle.story_run.specs.Step.{Next, Runs, Rests, Running, machine_after_call, next_step, running}
use Rattle.story_run.specs.declared.stage.Stage.{Stage}
use Rattle.story_run.specs.declared.stage.Stage.TheVariants.{AtPrompt, AtSelect, Fault, Quit}
use Rattle.story_run.specs.declared.step.Progress.{Progress}
use Rattle.story_run.specs.declared.step.Progress.TheVariants as progress

-- what comes after a step: further steps, or the turn is at rest
abbrev pub after_step : (ℕ → Running → Glk × Stage) → Next → Glk × Stage
after_step steps (Runs left r) = steps left r
after_step steps (Rests g s) = (g, s)

-- at most so many steps of the story with this image, with so many ticks left
unfoldable pub steps : List ℕ → ℕ → ℕ → Running → Glk × Stage
steps image zero left r = (r.glk, Fault 24)
steps image (suc n) left r = after_step (steps image n) (next_step image left r)

-- how a story that runs comes to rest within a budget. Each step takes a tick at least, so the
-- budget ends before one step more.
unfoldable pub rest : List ℕ → ℕ → Running → Glk × Stage
rest image budget r = steps image (budget + 1) budget r

-- a machine that was made or resumed runs; else the story ends with the fault
abbrev pub story_begun : List ℕ → ℕ → Glk → Result Machine ℕ → Glk × Stage
story_begun image budget g (Ok m) = rest image budget (running g m)
story_begun image budget g (Err n) = (g, Fault n)

-- a result was stored, or that was a fault
abbrev pub stored_or_fault : Glk → Result Machine ℕ → Reached (Glk × Machine)
stored_or_fault g (Ok m) = Ok (g, m)
stored_or_fault g (Err n) = Err (g, n)

-- the input was delivered: the answer of the call that waited for it is stored
abbrev pub answer_stored : Machine → CallRule ℕ → Reached (Glk × Machine)
answer_stored m (Ok x) = stored_or_fault x.0.glk (finished (machine_after_call m x.0) x.1)
answer_stored m (Err e) = Err e

-- an input is delivered to the call that waits for it, which takes no ticks
abbrev pub delivered_to_call : Glk → Machine → Input → Reached (Glk × Machine)
delivered_to_call g m input =
    answer_stored m (events.input_answered (glk_call g m.memory m.stack) input)

-- the story runs on, or ends with a fault
abbrev pub turn_resumed : List ℕ → ℕ → Reached (Glk × Machine) → Glk × Stage
turn_resumed image budget (Ok x) = rest image budget (running x.0 x.1)
turn_resumed image budget (Err e) = (e.0, Fault e.1)

-- a turn on an input, from the delivery on
abbrev pub turn_on : List ℕ → ℕ → Glk → Machine → Input → Glk × Stage
turn_on image budget g m input = turn_resumed image budget (delivered_to_call g m input)

-- With so many ticks left the story came to this and left these, unless memory ran out: what was to
-- do is what is left to do, on fewer ticks, or the turn has come to rest.
abbrev pub Proceeds : List ℕ → ℕ → Running → Glk → Machine → Result Progress Trap → Type 0
Proceeds image left r g m (Ok (progress.Runs l)) =
    (rest image left r ≡ rest image l (running g m)) × (l < left)
Proceeds image left r g m (Ok progress.Waits) = rest image left r ≡ (g, AtSelect m)
Proceeds image left r g m (Ok progress.Prompts) = rest image left r ≡ (g, AtPrompt m)
Proceeds image left r g m (Ok progress.Quits) = rest image left r ≡ (g, Quit)
Proceeds image left r g m (Err (trap.Fault n)) = rest image left r ≡ (g, Fault n)
Proceeds image left r g m (Err trap.NoMemory) = Unit {0}

-- A trap became this stage: a fault, unless memory ran out.
abbrev pub Stops : Trap → Result Stage AllocError → Type 0
Stops (trap.Fault n) result = IfOk result (λ stage. stage ≡ Fault n)
Stops trap.NoMemory result = IsErr result

-- The call delivered the input and stored the answer, leaving these, unless memory ran out.
abbrev pub Resumes : Reached (Glk × Machine) → Glk → Machine → Result (Unit {0}) Trap
    → Type 0
Resumes should g m (Ok x) = should ≡ Ok (g, m)
Resumes should g m (Err (trap.Fault n)) = should ≡ Err (g, n)
Resumes should g m (Err trap.NoMemory) = Unit {0}
