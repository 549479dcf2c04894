-- The calls of streams (Glk 0.7.5, "Streams").
use Rattle.std.specs.Prelude.{ℕ, zero, suc, ◌+◌, ◌-◌, ◌*◌, ◌%◌, ◌^◌, ◌==◌, ◌&&◌, Bool}
use Rattle.std.specs.Prelude.{if◌then◌else◌, true, false, [], ◌∷◌, Option, Some, None, Ok}
use Rattle.vm_memory.specs.Chaining.{◌>>=◌}
use Rattle.vm_memory.specs.MemoryMap.{MemoryMap}
use Rattle.glk_numbers.specs.Numbered.{number_above}
use Rattle.glk_windows.specs.Closing as windows
use Rattle.glk_streams.specs.Streams as table
use Rattle.glk_streams.specs.Opening as opening
use Rattle.glk_streams.specs.Position as place
use Rattle.glk_streams.specs.Input as input
use Rattle.glk_streams.specs.FileRefs as refs
use Rattle.glk_streams.specs.declared.opening.Counts.{Counts}
use Rattle.glk_streams.specs.declared.fault.StreamStop.{StreamStop}
use Rattle.std.specs.Prelude.{Result}
use Rattle.glk_input.specs.Delivery.{code_taken, width}
use Rattle.glk_dispatch.specs.Answer.{GlkCall, Reached, CallRule, within}
use Rattle.glk_dispatch.specs.Fault.{streams_coded}
use Rattle.glk_dispatch.specs.Glk.{character_charged, characters_charged, stream, stream_or_none}
use Rattle.glk_dispatch.specs.Glk.{stream_rock}
use Rattle.glk_dispatch.specs.Output.{code_written}
use Rattle.glk_dispatch.specs.Reference.{gives, refers, refers_all}
use Rattle.glk_dispatch.specs.declared.called.Called.{Called}
use Rattle.glk_dispatch.specs.declared.glk.Glk.{Glk}
use Rattle.glk_dispatch.specs.declared.streams.StreamCall.{StreamCall}
use Rattle.glk_dispatch.specs.declared.streams.StreamCall.TheVariants.{Iterate, GetRock, OpenFile}
use Rattle.glk_dispatch.specs.declared.streams.StreamCall.TheVariants.{OpenMemory, Close}
use Rattle.glk_dispatch.specs.declared.streams.StreamCall.TheVariants.{SetPosition, GetPosition}
use Rattle.glk_dispatch.specs.declared.streams.StreamCall.TheVariants.{SetCurrent, GetCurrent}
use Rattle.glk_dispatch.specs.declared.streams.StreamCall.TheVariants.{OpenResource, GetChar}
use Rattle.glk_dispatch.specs.declared.streams.StreamCall.TheVariants.{GetLine, GetBuffer}

-- a call changes the streams, and gives a value
abbrev pub streams_changed : {A : Type 0} → Glk → Result (table.StreamTable × A) StreamStop
    → Reached (Glk × A)
streams_changed g new = within g (streams_coded new) >>= (λ p. Ok (record g { streams = p.0 }, p.1))

-- the same of one that gives none
abbrev pub streams_left : Glk → Result table.StreamTable StreamStop → Reached Glk
streams_left g new = within g (streams_coded new) >>= (λ t. Ok (record g { streams = t }))

-- the call answers the value, or 0
abbrev pub makes : GlkCall → Reached (Glk × ℕ) → CallRule Called
makes s new = new >>= (λ p. gives p.1 (record s { glk = p.0 }))

abbrev pub leaves_streams : GlkCall → Reached Glk → CallRule Called
leaves_streams s new = new >>= (λ g. gives 0 (record s { glk = g }))

-- glk_stream_iterate str or 0, &rock
abbrev pub iterates_streams : GlkCall → ℕ → ℕ → CallRule Called
iterates_streams s n rock =
    let next = number_above table.stream_number s.glk.streams.streams n in
    stream_or_none s.glk n (refers s rock (stream_rock s.glk next) >>= gives next)

-- a stream that is no window's closed, with its counts; no window echoes to it any more
abbrev pub glk_without_stream : Glk → ℕ → Reached (Glk × Counts)
glk_without_stream g n =
    streams_changed g (opening.closed_stream g.streams n)
    >>= (λ p. Ok (record p.0 { windows = windows.echo_ended g.windows n }, p.1))

-- glk_stream_close str, &result: read count and write count, written after the closing
abbrev pub closes_stream : GlkCall → ℕ → ℕ → CallRule Called
closes_stream s n result =
    glk_without_stream s.glk n
    >>= (λ p. refers_all (record s { glk = p.0 }) result (p.1.read ∷ p.1.written ∷ []))
    >>= gives 0

abbrev pub file_opened : Glk → ℕ → ℕ → ℕ → Bool → Reached (Glk × ℕ)
file_opened g fref mode rock unicode =
    streams_changed g (opening.opened_file g.streams fref mode rock unicode)

abbrev pub memory_opened : Glk → ℕ → ℕ → ℕ → ℕ → Bool → Reached (Glk × ℕ)
memory_opened g buf len mode rock unicode =
    streams_changed g (opening.opened_memory g.streams buf len mode rock unicode)

abbrev pub position_moved : Glk → ℕ → ℕ → ℕ → Reached Glk
position_moved g n by from = streams_left g (place.position_sought g.streams n by from)

abbrev pub current_set : Glk → ℕ → Reached Glk
current_set g n = streams_left g (refs.with_current g.streams n)

abbrev pub stream_position : Glk → ℕ → Result ℕ ℕ
stream_position g n = streams_coded (place.position g.streams n)

abbrev pub char_got : Glk → MemoryMap → ℕ → Reached (Glk × Option ℕ)
char_got g m n = streams_changed g (input.got g.streams m n)

-- a character of a stream, which is then counted as read; None at the end
abbrev pub read_counted : Option ℕ → Glk → Glk
read_counted None g = g
read_counted (Some code) g = character_charged g

abbrev pub got_code : Glk → MemoryMap → ℕ → Reached (Glk × Option ℕ)
got_code g m n = char_got g m n >>= (λ p. Ok (read_counted p.1 p.0, p.1))

-- the bytes ahead of a plain stream of a file read, all of them, which are then counted
abbrev pub ahead_counted : Glk → table.StreamTable × ℕ → Glk
ahead_counted g p = characters_charged p.1 (record g { streams = p.0 })

abbrev pub ahead_read : Glk → ℕ → Glk
ahead_read g n = ahead_counted g (input.ahead_passed g.streams n)

-- a plain read of a code above 255 gives `?`; the end is -1
abbrev pub code_or_end : Bool → Option ℕ → ℕ
code_or_end unicode None = 4294967295
code_or_end unicode (Some code) = code_taken unicode code

-- glk_get_char_stream str
abbrev pub char_read : Bool → Glk → MemoryMap → ℕ → Reached (Glk × ℕ)
char_read unicode g m n =
    stream g n (got_code g m n >>= (λ p. Ok (p.0, code_or_end unicode p.1)))

-- a character that was read is written at an address
abbrev pub item_kept : Bool → Glk → MemoryMap → ℕ → Option ℕ
    → Reached (Glk × MemoryMap × Option ℕ)
item_kept unicode g m at None = Ok (g, m, None)
item_kept unicode g m at (Some code) =
    within g (code_written unicode m at (code_taken unicode code))
    >>= (λ n. Ok (g, n, Some code))

abbrev pub got_item : Bool → Glk → MemoryMap → ℕ → ℕ
    → Reached (Glk × MemoryMap × Option ℕ)
got_item unicode g m n at = got_code g m n >>= (λ p. item_kept unicode p.0 m at p.1)

-- what follows a character: nothing more at the end, and behind the newline of a line
abbrev pub got_on : (Glk → MemoryMap → ℕ → Reached (Glk × MemoryMap × ℕ)) → Bool
    → Glk → MemoryMap → ℕ → Option ℕ → Reached (Glk × MemoryMap × ℕ)
got_on rest line g m count None = Ok (g, m, count)
got_on rest line g m count (Some code) =
    if line && code == 10 then Ok (g, m, count + 1) else rest g m (count + 1)

-- at most so many characters of a stream into an array, and how many came with those before
unfoldable pub got_array : ℕ → Bool → Bool → Glk → MemoryMap → ℕ → ℕ → ℕ
    → Reached (Glk × MemoryMap × ℕ)
got_array zero line unicode g m n at count = Ok (g, m, count)
got_array (suc left) line unicode g m n at count =
    got_item unicode g m n at
    >>= (λ p. got_on (λ h k c. got_array left line unicode h k n
    ((at + width unicode) % 2 ^ 32) c)
    line p.0 p.1 count p.2)

-- glk_get_buffer_stream str, buf, len: the count
abbrev pub buffer_read : Bool → Glk → MemoryMap → ℕ → ℕ → ℕ
    → Reached (Glk × MemoryMap × ℕ)
buffer_read unicode g m n buf len = stream g n (got_array len false unicode g m n buf 0)

-- the place behind so many characters of an array
abbrev pub address_behind : Bool → ℕ → ℕ → ℕ
address_behind unicode buf count = (buf + width unicode * count % 2 ^ 32) % 2 ^ 32

-- a line, and a zero behind it
abbrev pub got_line : Bool → Glk → MemoryMap → ℕ → ℕ → ℕ
    → Reached (Glk × MemoryMap × ℕ)
got_line unicode g m n buf len =
    got_array (len - 1) true unicode g m n buf 0
    >>= (λ p. within p.0 (code_written unicode p.1 (address_behind unicode buf p.2) 0)
    >>= (λ k. Ok (p.0, k, p.2)))

-- glk_get_line_stream str, buf, len: at most len - 1 characters, to a newline with it, then a zero;
-- the count. For len 0 nothing is read
abbrev pub line_read : Bool → Glk → MemoryMap → ℕ → ℕ → ℕ
    → Reached (Glk × MemoryMap × ℕ)
line_read unicode g m n buf len =
    stream g n (if len == 0 then Ok (g, m, 0) else got_line unicode g m n buf len)

-- the call answers the count
abbrev pub gets : GlkCall → Reached (Glk × MemoryMap × ℕ) → CallRule Called
gets s new = new >>= (λ p. gives p.2 (record s { glk = p.0; memory = p.1 }))

unfoldable pub stream_work : StreamCall → GlkCall → (ℕ → ℕ) → CallRule Called
stream_work Iterate s l = iterates_streams s (l 0) (l 1)
stream_work GetRock s l = stream s.glk (l 0) (gives (stream_rock s.glk (l 0)) s)
stream_work (OpenFile unicode) s l = makes s (file_opened s.glk (l 0) (l 1) (l 2) unicode)
stream_work (OpenMemory unicode) s l =
    makes s (memory_opened s.glk (l 0) (l 1) (l 2) (l 3) unicode)
stream_work Close s l = closes_stream s (l 0) (l 1)
stream_work SetPosition s l = leaves_streams s (position_moved s.glk (l 0) (l 1) (l 2))
stream_work GetPosition s l = within s.glk (stream_position s.glk (l 0)) >>= (λ x. gives x s)
stream_work SetCurrent s l = leaves_streams s (current_set s.glk (l 0))
stream_work GetCurrent s l = gives s.glk.streams.current s
stream_work OpenResource s l = gives 0 s
stream_work (GetChar unicode) s l = makes s (char_read unicode s.glk s.memory (l 0))
stream_work (GetLine unicode) s l = gets s (line_read unicode s.glk s.memory (l 0) (l 1) (l 2))
stream_work (GetBuffer unicode) s l =
    gets s (buffer_read unicode s.glk s.memory (l 0) (l 1) (l 2))
