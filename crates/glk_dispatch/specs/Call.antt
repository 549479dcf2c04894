-- A Glk call: its selector, its arguments, its work (Glk 0.7.5, "The Dispatch Layer").
use Rattle.std.specs.Prelude.{ℕ, slice_index, Option, Some, None, Err}
use Rattle.vm_memory.specs.Chaining.{◌>>=◌}
use Rattle.glk_dispatch.specs.Answer.{GlkCall, CallRule, within}
use Rattle.glk_dispatch.specs.Arguments.{call_arguments}
use Rattle.glk_dispatch.specs.Case.{case_work}
use Rattle.glk_dispatch.specs.Events.{event_work}
use Rattle.glk_dispatch.specs.FileRefs.{fileref_work}
use Rattle.glk_dispatch.specs.Gestalt.{base_work}
use Rattle.glk_dispatch.specs.Output.{output_work}
use Rattle.glk_dispatch.specs.Reference.{gives}
use Rattle.glk_dispatch.specs.Selector.{call_of}
use Rattle.glk_dispatch.specs.Streams.{stream_work}
use Rattle.glk_dispatch.specs.Style.{style_work}
use Rattle.glk_dispatch.specs.Windows.{window_work}
use Rattle.glk_dispatch.specs.declared.called.Called.{Called}
use Rattle.glk_dispatch.specs.declared.selector.Call as c
use Rattle.glk_dispatch.specs.declared.selector.Call.TheVariants.{Base, Window, Stream, FileRef}
use Rattle.glk_dispatch.specs.declared.selector.Call.TheVariants.{Output, Style, Case, Event}
use Rattle.glk_dispatch.specs.declared.selector.Call.TheVariants.{Nothing}

-- what each call does, with l 0, l 1 .. its arguments
abbrev pub call_work : c.Call → GlkCall → (ℕ → ℕ) → CallRule Called
call_work (Base call) s l = base_work call s l
call_work (Window call) s l = window_work call s l
call_work (Stream call) s l = stream_work call s l
call_work (FileRef call) s l = fileref_work call s l
call_work (Output call) s l = output_work call s l
call_work (Style call) s l = style_work call s l
call_work (Case call) s l = case_work call s l
call_work (Event call) s l = event_work call s l
call_work Nothing s l = gives 0 s

-- the arguments are taken from the stack, and then the call's work is done
abbrev pub called_with : Option (c.Call × Option ℕ) → GlkCall → ℕ → CallRule Called
called_with None s given = Err (s.glk, 20)
called_with (Some p) s given =
    within s.glk (call_arguments s.stack p.1 given)
    >>= (λ t. call_work p.0 (record s { stack = t.0 }) (slice_index t.1))

-- the call of this selector with so many arguments
abbrev pub selector_called : GlkCall → ℕ → ℕ → CallRule Called
selector_called s selector given = called_with (call_of selector) s given
