-- A show of a turn that has come to rest (own: docs/FORMATS.md, "Shows").
use Rattle.std.specs.Prelude.{ℕ, zero, suc, ◌+◌, ◌*◌, Bool, List, [], ◌∷◌, ◌++◌, Option, Some, None}
use Rattle.std.specs.Prelude.{Result, Ok, Err}
use Rattle.std.specs.List.{flat_map}
use Rattle.vm_memory.specs.Access.{read}
use Rattle.vm_memory.specs.MemoryMap.{MemoryMap}
use Rattle.vm_memory.specs.declared.fault.MemFault.{MemFault}
use Rattle.glk_input.specs.Delivery.{width}
use Rattle.glk_input.specs.declared.request.Request.{Request}
use Rattle.glk_input.specs.declared.request.Request.TheVariants.{Line, Char}
use Rattle.glk_input.specs.declared.request.WindowInput.{WindowInput}
use Rattle.glk_dispatch.specs.declared.glk.Glk.{Glk}
use Rattle.story_show.specs.Lines.{text_of_show}
use Rattle.story_show.specs.Making as making
use Rattle.story_show.specs.declared.show.End.{End}
use Rattle.story_show.specs.declared.show.End.TheVariants as end
use Rattle.story_run.specs.declared.stage.Stage.{Stage}
use Rattle.story_run.specs.declared.stage.Stage.TheVariants.{AtSelect, AtPrompt, Quit, Fault}

-- what a read gives, 0 where it passes memory's end
abbrev pub or_zero : Result ℕ MemFault → ℕ
or_zero (Ok code) = code
or_zero (Err fault) = 0

-- the character at a place, a byte or a word
abbrev pub character_in_memory : Bool → MemoryMap → ℕ → ℕ
character_in_memory unicode m at = or_zero (read (width unicode) m at)

-- so many characters of an array
unfoldable pub initial : ℕ → Bool → MemoryMap → ℕ → List ℕ
initial zero unicode m buf = []
initial (suc n) unicode m buf =
    initial n unicode m buf ++ character_in_memory unicode m (buf + n * width unicode) ∷ []

-- a line that may begin with what its array holds, or a character
abbrev pub want_of : MemoryMap → ℕ → Request → End
want_of m win (Line r) = end.WantLine win r.max (initial r.init r.unicode m r.buf)
want_of m win (Char unicode) = end.WantChar win

abbrev pub wants_by : MemoryMap → ℕ → Option Request → List End
wants_by m win None = []
wants_by m win (Some r) = want_of m win r ∷ []

-- what a window asks for
unfoldable pub window_wants : MemoryMap → WindowInput → List End
window_wants m w = wants_by m w.win w.request

-- what is asked for, by ascending window or of a prompt, or how the story ended
abbrev pub ends_of : Glk → Stage → List End
ends_of g (AtSelect m) = flat_map (window_wants m.memory) g.requests
ends_of g (AtPrompt m) = end.Prompt g.prompt.usage g.prompt.mode ∷ []
ends_of g Quit = end.Quit ∷ []
ends_of g (Fault n) = end.Fault n ∷ []

-- the lines of a turn that has come to rest
abbrev pub turn_show : Glk → Stage → List ℕ
turn_show g s = text_of_show (making.show_of g.windows (ends_of g s))
