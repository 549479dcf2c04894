-- Which Glk states are valid (Glk 0.7.5, "Opaque Objects"; own: the limits).
use Rattle.std.specs.Prelude.{◌≡◌, ◌≤◌, ℕ, true, is_some, Result, Ok, Err}
use Rattle.vm_memory.specs.declared.fault.Trap.{Trap}
use Rattle.vm_memory.specs.declared.fault.Trap.TheVariants.{Fault, NoMemory}
use Rattle.glk_numbers.specs.Numbered.{has}
use Rattle.glk_windows.specs.Areas.{HaveAreas}
use Rattle.glk_windows.specs.Valid as windows
use Rattle.glk_streams.specs.Laws as streams
use Rattle.glk_input.specs.Request as request
use Rattle.glk_input.specs.Valid as requests
use Rattle.glk_dispatch.specs.Events.{may_ask}
use Rattle.glk_dispatch.specs.Glk.{has_window, no_prompt}
use Rattle.glk_dispatch.specs.Links.{AreLinked, links, stream_ends}
use Rattle.glk_dispatch.specs.declared.called.Called.{Called}
use Rattle.glk_dispatch.specs.declared.called.Called.TheVariants.{Value, Exit, Wait, Prompt}
use Rattle.glk_dispatch.specs.declared.glk.Glk.{Glk}

-- the windows are one tree with sound grids, their next number is one or none is left; streams,
-- file references, files and requests are valid
pub record AreValid (g : Glk) : Type 0 where
  pub windows : windows.IsValidTree g.windows
  pub streams : streams.AreValidStreams g.streams
  pub requests : requests.are_valid_inputs g.requests ≡ true
  pub next : g.windows.next ≤ 4294967295

-- each live window has its entry for input, and no other number has one; buffers and grids alone
-- have requests
pub record AreAsked (g : Glk) : Type 0 where
  pub listed : (win : ℕ) → has request.input_window_number g.requests win ≡ has_window g win
  pub askers : (win : ℕ) → is_some (request.window_request g.requests win) ≡ true
      → may_ask g win ≡ true

-- a Glk state as calls and inputs keep it
pub record IsValidGlk (g : Glk) : Type 0 where
  -- windows, streams, file references, files and requests, each by itself
  pub parts : AreValid g
  -- and what they say of each other
  pub linked : AreLinked (links g) (stream_ends g)
  pub asked : AreAsked g
  -- windows have their rectangles of the screen
  pub areas : HaveAreas g.windows g.cols g.rows

-- no select and no prompt is waited with
pub record IsAtRest (g : Glk) : Type 0 where
  pub event : g.event ≡ 0
  pub prompt : g.prompt ≡ no_prompt

-- a valid state in which calls may be made
pub record IsReadyGlk (g : Glk) : Type 0 where
  pub valid : IsValidGlk g
  pub rests : IsAtRest g

-- the state waits with what the call's answer says, and with nothing else
abbrev pub WaitsFor : Called → Glk → Type 0
WaitsFor (Value x) g = IsAtRest g
WaitsFor Exit g = IsAtRest g
WaitsFor Wait g = g.prompt ≡ no_prompt
WaitsFor Prompt g = g.event ≡ 0

-- a valid state that waits so
pub record IsValidWaiting (answer : Called) (g : Glk) : Type 0 where
  pub valid : IsValidGlk g
  pub waits : WaitsFor answer g

-- What a call leaves of a state in which calls may be made, unless memory ran out: a valid one that
-- waits with what it answered, and after a fault one in which calls may be made.
abbrev pub LeavesValid : Glk → Glk → Result Called Trap → Type 0
LeavesValid old new (Ok answer) = IsReadyGlk old → IsValidWaiting answer new
LeavesValid old new (Err (Fault n)) = IsReadyGlk old → IsReadyGlk new
LeavesValid old new (Err NoMemory) = Unit {0}
