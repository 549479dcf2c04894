-- The selectors, and how many arguments each call takes (Glk 0.7.5, "Table of Selectors").
use Rattle.std.specs.Prelude.{ℕ, ◌==◌, ◌&&◌, ◌||◌, nat_le, Bool, true, false, if◌then◌else◌, List}
use Rattle.std.specs.Prelude.{[], ◌∷◌, Option, Some, None}
use Rattle.glk_dispatch.specs.declared.selector.Call.{Call}
use Rattle.glk_dispatch.specs.declared.selector.Call.TheVariants as call
use Rattle.glk_dispatch.specs.declared.base.BaseCall.{BaseCall}
use Rattle.glk_dispatch.specs.declared.base.BaseCall.TheVariants as base
use Rattle.glk_dispatch.specs.declared.windows.WindowCall.{WindowCall}
use Rattle.glk_dispatch.specs.declared.windows.WindowCall.TheVariants as win
use Rattle.glk_dispatch.specs.declared.streams.StreamCall.{StreamCall}
use Rattle.glk_dispatch.specs.declared.streams.StreamCall.TheVariants as str
use Rattle.glk_dispatch.specs.declared.filerefs.FileRefCall.{FileRefCall}
use Rattle.glk_dispatch.specs.declared.filerefs.FileRefCall.TheVariants as ref
use Rattle.glk_dispatch.specs.declared.output.OutputCall.{OutputCall}
use Rattle.glk_dispatch.specs.declared.output.OutputCall.TheVariants as out
use Rattle.glk_dispatch.specs.declared.style.StyleCall.{StyleCall}
use Rattle.glk_dispatch.specs.declared.style.StyleCall.TheVariants as sty
use Rattle.glk_dispatch.specs.declared.case.CaseCall.{CaseCall}
use Rattle.glk_dispatch.specs.declared.case.CaseCall.TheVariants as case
use Rattle.glk_dispatch.specs.declared.events.EventCall.{EventCall}
use Rattle.glk_dispatch.specs.declared.events.EventCall.TheVariants as ev

-- a call's selector, how many arguments it takes, and which it is
abbrev pub SelectorRow : Type 0 → Type 0
SelectorRow C = ℕ × ℕ × C

unfoldable pub base_calls : List (SelectorRow BaseCall)
base_calls =
    (0x01, 0, base.Exit)
    ∷ (0x02, 1, base.SetInterruptHandler)
    ∷ (0x03, 0, base.Tick)
    ∷ (0x04, 2, base.Gestalt)
    ∷ (0x05, 4, base.GestaltExt)
    ∷ []

unfoldable pub window_calls : List (SelectorRow WindowCall)
window_calls =
    (0x20, 2, win.Iterate)
    ∷ (0x21, 1, win.GetRock)
    ∷ (0x22, 0, win.GetRoot)
    ∷ (0x23, 5, win.Open)
    ∷ (0x24, 2, win.Close)
    ∷ (0x25, 3, win.GetSize)
    ∷ (0x26, 4, win.SetArrangement)
    ∷ (0x27, 4, win.GetArrangement)
    ∷ (0x28, 1, win.GetType)
    ∷ (0x29, 1, win.GetParent)
    ∷ (0x2A, 1, win.Clear)
    ∷ (0x2B, 3, win.MoveCursor)
    ∷ (0x2C, 1, win.GetStream)
    ∷ (0x2D, 2, win.SetEchoStream)
    ∷ (0x2E, 1, win.GetEchoStream)
    ∷ (0x2F, 1, win.SetWindow)
    ∷ (0x30, 1, win.GetSibling)
    ∷ []

unfoldable pub stream_calls : List (SelectorRow StreamCall)
stream_calls =
    (0x40, 2, str.Iterate)
    ∷ (0x41, 1, str.GetRock)
    ∷ (0x42, 3, str.OpenFile false)
    ∷ (0x138, 3, str.OpenFile true)
    ∷ (0x43, 4, str.OpenMemory false)
    ∷ (0x139, 4, str.OpenMemory true)
    ∷ (0x44, 2, str.Close)
    ∷ (0x45, 3, str.SetPosition)
    ∷ (0x46, 1, str.GetPosition)
    ∷ (0x47, 1, str.SetCurrent)
    ∷ (0x48, 0, str.GetCurrent)
    ∷ (0x49, 2, str.OpenResource)
    ∷ (0x13A, 2, str.OpenResource)
    ∷ (0x90, 1, str.GetChar false)
    ∷ (0x130, 1, str.GetChar true)
    ∷ (0x91, 3, str.GetLine false)
    ∷ (0x132, 3, str.GetLine true)
    ∷ (0x92, 3, str.GetBuffer false)
    ∷ (0x131, 3, str.GetBuffer true)
    ∷ []

unfoldable pub fileref_calls : List (SelectorRow FileRefCall)
fileref_calls =
    (0x60, 2, ref.CreateTemp)
    ∷ (0x61, 3, ref.CreateByName)
    ∷ (0x62, 3, ref.CreateByPrompt)
    ∷ (0x68, 3, ref.CreateFromFileref)
    ∷ (0x63, 1, ref.Destroy)
    ∷ (0x64, 2, ref.Iterate)
    ∷ (0x65, 1, ref.GetRock)
    ∷ (0x66, 1, ref.DeleteFile)
    ∷ (0x67, 1, ref.DoesFileExist)
    ∷ []

unfoldable pub output_calls : List (SelectorRow OutputCall)
output_calls =
    (0x80, 1, out.PutChar false)
    ∷ (0x128, 1, out.PutChar true)
    ∷ (0x81, 2, out.PutCharStream false)
    ∷ (0x12B, 2, out.PutCharStream true)
    ∷ (0x82, 1, out.PutString false)
    ∷ (0x129, 1, out.PutString true)
    ∷ (0x83, 2, out.PutStringStream false)
    ∷ (0x12C, 2, out.PutStringStream true)
    ∷ (0x84, 2, out.PutBuffer false)
    ∷ (0x12A, 2, out.PutBuffer true)
    ∷ (0x85, 3, out.PutBufferStream false)
    ∷ (0x12D, 3, out.PutBufferStream true)
    ∷ []

unfoldable pub style_calls : List (SelectorRow StyleCall)
style_calls =
    (0x86, 1, sty.Set)
    ∷ (0x87, 2, sty.SetStream)
    ∷ (0xB0, 4, sty.HintSet)
    ∷ (0xB1, 3, sty.HintClear)
    ∷ (0xB2, 3, sty.Distinguish)
    ∷ (0xB3, 4, sty.Measure)
    ∷ []

unfoldable pub case_calls : List (SelectorRow CaseCall)
case_calls =
    (0xA0, 1, case.CharToLower)
    ∷ (0xA1, 1, case.CharToUpper)
    ∷ (0x120, 3, case.BufferToLower)
    ∷ (0x121, 3, case.BufferToUpper)
    ∷ (0x122, 4, case.BufferToTitle)
    ∷ []

unfoldable pub event_calls : List (SelectorRow EventCall)
event_calls =
    (0xC0, 1, ev.Select)
    ∷ (0xC1, 1, ev.SelectPoll)
    ∷ (0xD0, 4, ev.RequestLine false)
    ∷ (0x141, 4, ev.RequestLine true)
    ∷ (0xD1, 2, ev.CancelLine)
    ∷ (0xD2, 1, ev.RequestChar false)
    ∷ (0x140, 1, ev.RequestChar true)
    ∷ (0xD3, 1, ev.CancelChar)
    ∷ (0x150, 2, ev.SetEcho)
    ∷ (0x151, 3, ev.SetTerminators)
    ∷ []

-- mouse input, sounds, images and hyperlinks, of which there are none: any count of arguments
abbrev pub is_nothing : ℕ → Bool
is_nothing n =
    (nat_le 0xD4 n && nat_le n 0xD6) || (nat_le 0xE0 n && nat_le n 0xEB)
    || (nat_le 0xF0 n && nat_le n 0xFF) || (nat_le 0x100 n && nat_le n 0x103)

-- the call with this selector, and its count
abbrev pub at_number : {C : Type 0} → List (SelectorRow C) → ℕ → Option (C × ℕ)
at_number [] n = None
at_number (row ∷ rows) n = if n == row.0 then Some (row.2, row.1) else at_number rows n

-- the call of a class, or what comes of the other classes
abbrev pub of_class : {C : Type 0} → (C → Call) → Option (C × ℕ)
    → Option (Call × Option ℕ)
    → Option (Call × Option ℕ)
of_class kind None rest = rest
of_class kind (Some p) rest = Some (kind p.0, Some p.1)

abbrev pub nothing_or : ℕ → Option (Call × Option ℕ)
nothing_or n = if is_nothing n then Some (call.Nothing, None) else None

-- the call of a selector, and how many arguments it takes
abbrev pub call_of : ℕ → Option (Call × Option ℕ)
call_of n =
    of_class call.Base (at_number base_calls n)
    (of_class call.Window (at_number window_calls n)
    (of_class call.Stream (at_number stream_calls n)
    (of_class call.FileRef (at_number fileref_calls n)
    (of_class call.Output (at_number output_calls n)
    (of_class call.Style (at_number style_calls n)
    (of_class call.Case (at_number case_calls n)
    (of_class call.Event (at_number event_calls n)
    (nothing_or n))))))))
