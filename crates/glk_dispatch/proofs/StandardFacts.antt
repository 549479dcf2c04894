-- Values that the profile of Glk gives, said of the definitions.
use Rattle.std.specs.Prelude.{◌≡◌, [], ◌∷◌, map, Some, None, true}
use Rattle.std.proofs.Common.{refl}
use Rattle.glk_dispatch.specs.Case.{lower, upper}
use Rattle.glk_dispatch.specs.Events.{event_words}
use Rattle.glk_dispatch.specs.Gestalt.{glk_gestalt}
use Rattle.glk_dispatch.specs.Reference.{next_field}
use Rattle.glk_dispatch.specs.Selector.{base_calls, call_of, case_calls, event_calls, fileref_calls}
use Rattle.glk_dispatch.specs.Selector.{output_calls, stream_calls, style_calls, window_calls}
use Rattle.glk_dispatch.specs.declared.events.EventCall.TheVariants.{RequestLine}
use Rattle.glk_dispatch.specs.declared.events.TheConstants.{INPUT, MAX_INITIAL, NEWLINE}
use Rattle.glk_dispatch.specs.declared.output.TheConstants.{MAX_PRINTED}
use Rattle.glk_dispatch.specs.declared.output.OutputCall.TheVariants.{PutBufferStream}
use Rattle.glk_dispatch.specs.declared.selector.Call.TheVariants.{Event, Nothing, Output, Window}
use Rattle.glk_dispatch.specs.declared.windows.WindowCall.TheVariants.{GetSibling}

-- the style of input, the newline, the most characters with which a line begins, and the most that
-- windows show in a turn
pub numbers : INPUT ∷ NEWLINE ∷ MAX_INITIAL ∷ MAX_PRINTED ∷ [] ≡ 8 ∷ 10 ∷ 1024 ∷ 0x100000 ∷ []
numbers = refl

-- the version; Unicode and line echo are there, sounds aren't
pub version : glk_gestalt 0 0 ≡ 0x705
version = refl

pub capabilities : map (λ sel. glk_gestalt sel 0) (8 ∷ 15 ∷ 17 ∷ 18 ∷ 22 ∷ [])
    ≡ 0 ∷ 1 ∷ 1 ∷ 1 ∷ 0 ∷ []
capabilities = refl

-- a character is printed as one; so is the newline; a control character and half a pair aren't
pub printed : map (glk_gestalt 3) (65 ∷ 10 ∷ 127 ∷ 0xD800 ∷ []) ≡ 2 ∷ 2 ∷ 0 ∷ 0 ∷ []
printed = refl

-- Return may be asked for as a character, and ends no line as a terminator; Escape does
pub keys : map (glk_gestalt 1) (0xFFFFFFFA ∷ 10 ∷ []) ≡ 1 ∷ 0 ∷ []
keys = refl

pub terminators : map (glk_gestalt 19) (0xFFFFFFFA ∷ 0xFFFFFFF8 ∷ []) ≡ 0 ∷ 1 ∷ []
terminators = refl

-- A and À have lower letters, the multiplication sign has none
pub lower_letters : map lower (0x41 ∷ 0xC0 ∷ 0xD7 ∷ 0x61 ∷ []) ≡ 0x61 ∷ 0xE0 ∷ 0xD7 ∷ 0x61 ∷ []
lower_letters = refl

-- nor has the division sign or ÿ an upper one
pub upper_letters : map upper (0x61 ∷ 0xFE ∷ 0xF7 ∷ 0xFF ∷ []) ≡ 0x41 ∷ 0xDE ∷ 0xF7 ∷ 0xFF ∷ []
upper_letters = refl

-- the fields of a structure on the stack and in memory
pub fields : map next_field (0 ∷ 0xFFFFFFFF ∷ 0x120 ∷ []) ≡ 0 ∷ 0xFFFFFFFF ∷ 0x124 ∷ []
fields = refl

-- an event has four words
pub event : event_words (record { kind = 3; win = 1; val1 = 2; val2 = 0 }) ≡ 3 ∷ 1 ∷ 2 ∷ 0 ∷ []
event = refl

-- some selectors with their counts; sounds take any; no call has 0x99
pub selectors : map call_of (0x30 ∷ 0x12D ∷ 0x141 ∷ 0xF8 ∷ 0x99 ∷ [])
    ≡ Some (Window GetSibling, Some 1) ∷ Some (Output (PutBufferStream true), Some 3)
    ∷ Some (Event (RequestLine true), Some 4) ∷ Some (Nothing, None) ∷ None ∷ []
unfolding base_calls window_calls stream_calls fileref_calls output_calls style_calls case_calls
    event_calls
selectors = refl
