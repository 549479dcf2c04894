-- What the library can do (Glk 0.7.5, "Testing for Capabilities").
use Rattle.std.specs.Prelude.{ℕ, ◌==◌, ◌&&◌, ◌||◌, not, nat_le, nat_lt, Bool, if◌then◌else◌, Ok}
use Rattle.story_text.specs.Keycode.{is_keycode, is_terminator}
use Rattle.vm_memory.specs.Chaining.{◌>>=◌}
use Rattle.vm_memory.specs.Access.{written}
use Rattle.vm_memory.specs.Fault.{coded}
use Rattle.glk_dispatch.specs.Answer.{GlkCall, Reached, CallRule, within}
use Rattle.glk_dispatch.specs.Reference.{gives}
use Rattle.glk_dispatch.specs.declared.called.Called.{Called}
use Rattle.glk_dispatch.specs.declared.called.Called.TheVariants as called
use Rattle.glk_dispatch.specs.declared.base.BaseCall.{BaseCall}
use Rattle.glk_dispatch.specs.declared.base.BaseCall.TheVariants.{Exit, SetInterruptHandler, Tick}
use Rattle.glk_dispatch.specs.declared.base.BaseCall.TheVariants as base

-- a Unicode scalar value that is no control character
abbrev pub is_printable : ℕ → Bool
is_printable c =
    (nat_le 32 c && nat_lt c 127) || (nat_le 160 c && nat_lt c 0xD800)
    || (nat_le 0xE000 c && nat_lt c 0x110000)

abbrev pub one_if : Bool → ℕ
one_if holds = if holds then 1 else 0

-- version; character input; line input; character output; Unicode; line echo; terminators, and
-- which keys may end a line; resource streams aren't there
abbrev pub glk_gestalt : ℕ → ℕ → ℕ
glk_gestalt selector value =
    if selector == 0 then 0x00000705
    else (if selector == 1 then one_if (is_printable value || is_keycode value)
    else (if selector == 2 then one_if (is_printable value)
    else (if selector == 3 then (if is_printable value || value == 10 then 2 else 0)
    else (if selector == 15 || selector == 17 || selector == 18 then 1
    else (if selector == 19 then one_if (is_terminator value) else 0)))))

-- a word at the start of an array, which is a plain address; nowhere for 0
abbrev pub array_begun : GlkCall → ℕ → ℕ → Reached GlkCall
array_begun s array x =
    if array == 0 then Ok s
    else within s.glk (coded (written 4 s.memory array x)) >>= (λ m. Ok (record s { memory = m }))

-- glk_gestalt_ext sel, val, array, len: a character is printed as one
abbrev pub gestalt_told : GlkCall → ℕ → ℕ → ℕ → ℕ → CallRule Called
gestalt_told s selector value array len =
    (if selector == 3 && not (len == 0) then array_begun s array 1 else Ok s)
    >>= gives (glk_gestalt selector value)

unfoldable pub base_work : BaseCall → GlkCall → (ℕ → ℕ) → CallRule Called
base_work Exit s l = Ok (s, called.Exit)
base_work SetInterruptHandler s l = gives 0 s
base_work Tick s l = gives 0 s
base_work base.Gestalt s l = gives (glk_gestalt (l 0) (l 1)) s
base_work base.GestaltExt s l = gestalt_told s (l 0) (l 1) (l 2) (l 3)
