-- Output of characters, one by one (Glk 0.7.5, "How To Print", "Echo Streams").
use Rattle.std.specs.Prelude.{ℕ, zero, suc, ◌+◌, ◌%◌, ◌^◌, ◌==◌, nat_le, Bool, if◌then◌else◌}
use Rattle.std.specs.Prelude.{length, bit_and, Result, Ok, Err}
use Rattle.vm_memory.specs.Chaining.{◌>>=◌}
use Rattle.vm_memory.specs.MemoryMap.{MemoryMap}
use Rattle.vm_memory.specs.Access.{read, written}
use Rattle.vm_memory.specs.Fault.{coded}
use Rattle.glk_windows.specs.Output as windows
use Rattle.glk_windows.specs.Reading.{echo_of}
use Rattle.glk_streams.specs.Output as streams
use Rattle.glk_input.specs.Delivery.{width}
use Rattle.glk_dispatch.specs.Answer.{GlkCall, Reached, CallRule, within}
use Rattle.glk_dispatch.specs.Fault.{streams_coded}
use Rattle.glk_dispatch.specs.Glk.{character_charged, stream, style_of_stream, window_of_stream}
use Rattle.glk_dispatch.specs.Reference.{gives}
use Rattle.glk_dispatch.specs.declared.called.Called.{Called}
use Rattle.glk_dispatch.specs.declared.glk.Glk.{Glk}
use Rattle.glk_dispatch.specs.declared.output.OutputCall.{OutputCall}
use Rattle.glk_dispatch.specs.declared.output.OutputCall.TheVariants.{PutChar, PutCharStream}
use Rattle.glk_dispatch.specs.declared.output.OutputCall.TheVariants.{PutString, PutStringStream}
use Rattle.glk_dispatch.specs.declared.output.OutputCall.TheVariants.{PutBuffer, PutBufferStream}
use Rattle.glk_dispatch.specs.declared.output.TheConstants.{MAX_PRINTED}

-- a window shows one more character of this turn
abbrev pub character_shown : Glk → ℕ → ℕ → ℕ → Glk
character_shown g win style code =
    record g { windows = windows.put_on_window g.windows win code style; printed = g.printed + 1 }

-- a stream takes a character: a window's counts it, a file's or an array's keeps it
abbrev pub streamed : Glk → MemoryMap → ℕ → ℕ → Reached (Glk × MemoryMap)
streamed g m n code =
    within g (streams_coded (streams.put_on_stream g.streams m n code))
    >>= (λ p. Ok (record g { streams = p.0 }, p.1))

-- a character put to one stream in this style; fault 23 where windows show too many in this turn
abbrev pub put_once : Glk → MemoryMap → ℕ → ℕ → ℕ → Reached (Glk × MemoryMap)
put_once g m n style code =
    if window_of_stream g n == 0 then streamed g m n code
    else (if nat_le MAX_PRINTED g.printed then Err (g, 23)
    else streamed (character_shown g (window_of_stream g n) style code) m n code)

-- the stream to which the output of a window's stream goes too, or 0
abbrev pub echo_from : Glk → ℕ → ℕ
echo_from g n = echo_of g.windows.slots (window_of_stream g n)

-- a character put to a stream in its own style, to its window's echo stream, and so on; to none
-- for 0
unfoldable pub spread : ℕ → Glk → MemoryMap → ℕ → ℕ → Reached (Glk × MemoryMap)
spread zero g m n code = Ok (g, m)
spread (suc steps) g m n code =
    if n == 0 then Ok (g, m)
    else put_once g m n (style_of_stream g n) code
    >>= (λ p. spread steps p.0 p.1 (echo_from p.0 n) code)

-- no chain of echoes is longer than the windows and a last stream
abbrev pub spread_all : Glk → MemoryMap → ℕ → ℕ → Reached (Glk × MemoryMap)
spread_all g m n code = spread (length g.windows.slots + 1) g m n code

-- a character of this turn, put to a stream
abbrev pub put_code : Glk → MemoryMap → ℕ → ℕ → Reached (Glk × MemoryMap)
put_code g m n code = spread_all (character_charged g) m n code

-- the character at an address of an array of bytes or words
abbrev pub array_code_at : Bool → MemoryMap → ℕ → Result ℕ ℕ
array_code_at unicode m at = coded (read (width unicode) m at)

-- a character written there
abbrev pub code_written : Bool → MemoryMap → ℕ → ℕ → Result MemoryMap ℕ
code_written unicode m at code = coded (written (width unicode) m at code)

-- the character of an array at an address put to a stream
abbrev pub put_item : Bool → Glk → MemoryMap → ℕ → ℕ → Reached (Glk × MemoryMap)
put_item unicode g m n at =
    within g (array_code_at unicode m at) >>= (λ code. put_code g m n code)

-- so many characters of an array, one by one
unfoldable pub put_array : ℕ → Bool → Glk → MemoryMap → ℕ → ℕ
    → Reached (Glk × MemoryMap)
put_array zero unicode g m n at = Ok (g, m)
put_array (suc count) unicode g m n at =
    put_item unicode g m n at
    >>= (λ p. put_array count unicode p.0 p.1 n ((at + width unicode) % 2 ^ 32))

-- where the characters of a string begin, whose first byte tells its kind; else fault 15
abbrev pub text_start : Bool → MemoryMap → ℕ → Result ℕ ℕ
text_start unicode m at =
    coded (read 1 m at) >>= (λ kind.
    if kind == (if unicode then 0xE2 else 0xE0)
    then Ok ((at + (if unicode then 4 else 1)) % 2 ^ 32) else Err 15)

-- the characters of a string up to its 0, put one by one; none has more than memory has bytes
unfoldable pub put_text : ℕ → Bool → Glk → MemoryMap → ℕ → ℕ
    → Reached (Glk × MemoryMap)
put_text zero unicode g m n at = Err (g, 1)
put_text (suc left) unicode g m n at =
    within g (array_code_at unicode m at) >>= (λ code.
    if code == 0 then Ok (g, m)
    else put_code g m n code
    >>= (λ p. put_text left unicode p.0 p.1 n ((at + width unicode) % 2 ^ 32)))

abbrev pub put_string : Bool → Glk → MemoryMap → ℕ → ℕ → Reached (Glk × MemoryMap)
put_string unicode g m n at =
    within g (text_start unicode m at)
    >>= (λ from. put_text (length m.bytes + 1) unicode g m n from)

-- a plain character is the low byte
abbrev pub plain_or_unicode : Bool → ℕ → ℕ
plain_or_unicode unicode code = if unicode then code else bit_and code 255

-- characters in a style, put to a window's stream and its echo streams without being counted as
-- read or written by a call
unfoldable pub echo_put : Glk → MemoryMap → ℕ → ℕ → ℕ → Reached (Glk × MemoryMap)
echo_put g m n style code =
    put_once g m n style code >>= (λ p. spread_all p.0 p.1 (echo_from p.0 n) code)

-- the call answers 0
abbrev pub leaves_glk_and_memory : GlkCall → Reached (Glk × MemoryMap) → CallRule Called
leaves_glk_and_memory s done = done >>= (λ p. gives 0 (record s { glk = p.0; memory = p.1 }))

-- the current stream, or none
abbrev pub current : GlkCall → ℕ
current s = s.glk.streams.current

-- glk_put_char ch · glk_put_string s · glk_put_buffer buf, len; _stream: str first; _uni
unfoldable pub output_work : OutputCall → GlkCall → (ℕ → ℕ) → CallRule Called
output_work (PutChar unicode) s l =
    leaves_glk_and_memory s (put_code s.glk s.memory (current s) (plain_or_unicode unicode (l 0)))
output_work (PutCharStream unicode) s l =
    stream s.glk (l 0)
    (leaves_glk_and_memory s (put_code s.glk s.memory (l 0) (plain_or_unicode unicode (l 1))))
output_work (PutString unicode) s l =
    leaves_glk_and_memory s (put_string unicode s.glk s.memory (current s) (l 0))
output_work (PutStringStream unicode) s l =
    stream s.glk (l 0) (leaves_glk_and_memory s (put_string unicode s.glk s.memory (l 0) (l 1)))
output_work (PutBuffer unicode) s l =
    leaves_glk_and_memory s (put_array (l 1) unicode s.glk s.memory (current s) (l 0))
output_work (PutBufferStream unicode) s l =
    stream s.glk (l 0)
    (leaves_glk_and_memory s (put_array (l 2) unicode s.glk s.memory (l 0) (l 1)))
