-- One step of a story: the machine's, and then what it asks of Glk (own).
use Rattle.std.specs.Prelude.{◌≡◌, ℕ, List, ◌-◌, nat_lt, if◌then◌else◌, Result, Ok, Err}
use Rattle.vm_exec.specs.Row.{row, step_within}
use Rattle.vm_exec.specs.Start.{finished}
use Rattle.vm_exec.specs.declared.machine.Machine.{Machine}
use Rattle.vm_exec.specs.declared.step.Step.{Step}
use Rattle.vm_exec.specs.declared.step.Step.TheVariants as step
use Rattle.vm_memory.specs.MemoryMap.{MemoryMap}
use Rattle.vm_memory.specs.declared.fault.Trap.{Trap}
use Rattle.vm_memory.specs.declared.fault.Trap.TheVariants as trap
use Rattle.glk_dispatch.specs.Answer.{GlkCall, Reached, CallRule, glk_call}
use Rattle.glk_dispatch.specs.Call.{selector_called}
use Rattle.glk_dispatch.specs.Output.{put_code}
use Rattle.glk_dispatch.specs.declared.called.Called.{Called}
use Rattle.glk_dispatch.specs.declared.called.Called.TheVariants as call
use Rattle.glk_dispatch.specs.declared.glk.Glk.{Glk}
use Rattle.story_run.specs.Saves.{restored, saved}
use Rattle.story_run.specs.declared.stage.Stage.{Stage}
use Rattle.story_run.specs.declared.stage.Stage.TheVariants as stage
use Rattle.story_run.specs.declared.step.Progress.{Progress}
use Rattle.story_run.specs.declared.step.Progress.TheVariants as progress

-- a story that runs
pub record Running : Type 0 where
  pub glk : Glk
  pub machine : Machine

-- the story with this Glk state and this machine
abbrev pub running : Glk → Machine → Running
running g m = record { glk = g; machine = m }

-- what a step comes to: the story runs on with so many ticks left, or the turn has come to rest
pub data Next : Type 0 where
  Runs : ℕ → Running → Next
  Rests : Glk → Stage → Next

-- the story ends with a fault
abbrev pub faults : Glk → ℕ → Next
faults g n = Rests g (stage.Fault n)

-- a character went to the current stream, or nowhere where there is none
abbrev pub character_put : ℕ → Machine → Reached (Glk × MemoryMap) → Next
character_put left m (Ok x) = Runs left (running x.0 (record m { memory = x.1 }))
character_put left m (Err e) = faults e.0 e.1

-- the result of a call is stored
abbrev pub call_stored : ℕ → Glk → Result Machine ℕ → Next
call_stored left g (Ok m) = Runs left (running g m)
call_stored left g (Err n) = faults g n

-- what a call answers is stored; or the turn ends, for an event, for a file's name, or for good
abbrev pub done : ℕ → Glk → Machine → Called → Next
done left g m (call.Value value) = call_stored left g (finished m value)
done left g m call.Wait = Rests g (stage.AtSelect m)
done left g m call.Prompt = Rests g (stage.AtPrompt m)
done left g m call.Exit = Rests g stage.Quit

-- a call was done: the characters that it read or wrote take a tick each, its effect standing
abbrev pub call_charged : ℕ → ℕ → Glk → Machine → Called → Next
call_charged left chars g m answer =
    if nat_lt left chars then faults g 24 else done (left - chars) g m answer

-- the machine with a call's memory and stack
abbrev pub machine_after_call : Machine → GlkCall → Machine
machine_after_call m d = record m { memory = d.memory; stack = d.stack }

-- a call was done over this Glk state, or was a fault
abbrev pub after_glk_call : ℕ → Glk → Machine → CallRule Called → Next
after_glk_call left g m (Ok x) =
    call_charged left (x.0.glk.chars - g.chars) x.0.glk (machine_after_call m x.0) x.1
after_glk_call left g m (Err e) = faults e.0 e.1

-- a save or a restore was done over this Glk state, or was a fault
abbrev pub went_on : ℕ → Reached (Glk × Machine) → Next
went_on left (Ok x) = Runs left (running x.0 x.1)
went_on left (Err e) = faults e.0 e.1

-- what the machine of the story with this image told
abbrev pub step_followed : List ℕ → ℕ → Glk → Machine → Step → Next
step_followed image left g m (step.Ran cost) = Runs (left - cost) (running g m)
step_followed image left g m (step.Out code cost) =
    character_put (left - cost) m (put_code g m.memory g.streams.current code)
step_followed image left g m (step.Glk selector args cost) =
    after_glk_call (left - cost) g m (selector_called (glk_call g m.memory m.stack) selector args)
step_followed image left g m (step.Save stream cost) =
    went_on (left - cost) (saved image g m stream)
step_followed image left g m (step.Restore stream cost) =
    went_on (left - cost) (restored image g m stream)
step_followed image left g m step.Quit = Rests g stage.Quit

-- the machine did a step, or met a fault
abbrev pub stepped : List ℕ → ℕ → Glk → Result (Machine × Step) ℕ → Next
stepped image left g (Ok x) = step_followed image left g x.0 x.1
stepped image left g (Err n) = faults g n

-- one step of the story with this image, with so many ticks left
unfoldable pub next_step : List ℕ → ℕ → Running → Next
next_step image left r = stepped image left r.glk (step_within left (row r.machine))

-- The call came to this and left these, as it should, unless memory ran out.
abbrev pub Advances : Next → Glk → Machine → Result Progress Trap → Type 0
Advances should g m (Ok (progress.Runs left)) = should ≡ Runs left (running g m)
Advances should g m (Ok progress.Waits) = should ≡ Rests g (stage.AtSelect m)
Advances should g m (Ok progress.Prompts) = should ≡ Rests g (stage.AtPrompt m)
Advances should g m (Ok progress.Quits) = should ≡ Rests g stage.Quit
Advances should g m (Err (trap.Fault n)) = should ≡ faults g n
Advances should g m (Err trap.NoMemory) = Unit {0}
