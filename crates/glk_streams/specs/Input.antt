-- What a character that is read does (Glk 0.7.5, "Streams").
use Rattle.std.specs.Prelude.{ℕ, ◌+◌, ◌<◌, ◌%◌, ◌^◌, nat_lt, if◌then◌else◌, Bool}
use Rattle.std.specs.Prelude.{List, length, drop, slice_index, Option, Some, None, Result, Ok, Err}
use Rattle.vm_memory.specs.Chaining.{◌>>=◌}
use Rattle.vm_memory.specs.MemoryMap.{MemoryMap}
use Rattle.vm_memory.specs.Access.{read}
use Rattle.glk_streams.specs.Answer.{live, of_memory}
use Rattle.glk_streams.specs.Coding.{coding_of, unit_of, character_at}
use Rattle.glk_streams.specs.Files.{content_of}
use Rattle.glk_streams.specs.Output.{length_of, address_of}
use Rattle.glk_streams.specs.Streams.{StreamTable, of_stream, stream_at, with_stream, is_read_mode}
use Rattle.glk_streams.specs.declared.coding.Coding.{Coding}
use Rattle.glk_streams.specs.declared.coding.Reading.{Reading}
use Rattle.glk_streams.specs.declared.file.File.{File}
use Rattle.glk_streams.specs.declared.stream.Stream.{Stream}
use Rattle.glk_streams.specs.declared.stream.Target.{Target}
use Rattle.glk_streams.specs.declared.stream.Target.TheVariants as from
use Rattle.glk_streams.specs.declared.fault.StreamStop.{StreamStop}
use Rattle.glk_streams.specs.declared.fault.StreamStop.TheVariants.{BadArgument}

-- a character out of a buffer; None at its end
abbrev pub got_from_memory : MemoryMap → ℕ → ℕ → ℕ → Coding
    → Result (Option Reading) StreamStop
got_from_memory m place buf len c =
    if nat_lt place (length_of buf len)
    then of_memory (read (unit_of c) m (address_of c buf place))
    >>= (λ code. Ok (Some (record { code = code; steps = 1 })))
    else Ok None

-- a character from where a stream's characters come; a window's stream is never read
abbrev pub got_from : Target → Bool → List File → MemoryMap → ℕ
    → Result (Option Reading) StreamStop
got_from (from.Window win) unicode fs m place = Err BadArgument
got_from (from.Memory buf len) unicode fs m place =
    got_from_memory m place buf len (coding_of unicode (from.Memory buf len))
got_from (from.File usage name) unicode fs m place =
    Ok (character_at (coding_of unicode (from.File usage name)) (content_of fs usage name) place)

-- a character of a stream that is open for reading
abbrev pub got_by : List File → MemoryMap → Stream → Result (Option Reading) StreamStop
got_by fs m s =
    if is_read_mode s.mode then got_from s.target s.unicode fs m s.place else Err BadArgument

-- one character more was read
abbrev pub passed : Reading → Stream → Stream
passed r s = record s { read = (s.read + 1) % 2 ^ 32; place = s.place + r.steps }

-- the stream behind the character that was read
abbrev pub stream_behind : StreamTable → ℕ → Stream → Option Reading → StreamTable × Option ℕ
stream_behind t n s None = (t, None)
stream_behind t n s (Some r) = (with_stream t n (passed r s), Some r.code)

-- a character of the stream with this number, which counts it; None at its end
abbrev pub got : StreamTable → MemoryMap → ℕ → Result (StreamTable × Option ℕ) StreamStop
got t m n = live (stream_at t n) (λ s. got_by t.files m s >>= (λ r. Ok (stream_behind t n s r)))

-- ---- a file's characters all at once

-- the bytes from a position on, of which there is one at least
abbrev pub bytes_from : List ℕ → ℕ → Option (List ℕ)
bytes_from bytes place = if nat_lt place (length bytes) then Some (drop place bytes) else None

-- the characters that a plain stream of a file gives from a position on, each a byte
abbrev pub bytes_in_target : Target → Bool → List File → ℕ → Option (List ℕ)
bytes_in_target (from.Window win) unicode fs place = None
bytes_in_target (from.Memory buf len) unicode fs place = None
bytes_in_target (from.File usage name) unicode fs place =
    if unicode then None else bytes_from (content_of fs usage name) place

-- the same of a stream that is open for reading
abbrev pub bytes_by : List File → Stream → Option (List ℕ)
bytes_by fs s =
    if is_read_mode s.mode then bytes_in_target s.target s.unicode fs s.place else None

-- the bytes from the position on of a plain stream of a file that is open for reading; None at its
-- end, and of each other stream
abbrev pub bytes_ahead : StreamTable → ℕ → Option (List ℕ)
bytes_ahead t n = of_stream (stream_at t n) None (λ s. bytes_by t.files s)

-- each of these is a byte
abbrev pub AreBytes : List ℕ → Type 0
AreBytes bytes = (k : ℕ) → k < length bytes → slice_index bytes k < 256

-- so many characters more were read, each of which takes one position
abbrev pub passed_by : ℕ → Stream → Stream
passed_by count s = record s { read = (s.read + count) % 2 ^ 32; place = s.place + count }

-- the streams behind those bytes, and how many they were
abbrev pub stream_passed : StreamTable → ℕ → Stream → Option (List ℕ) → StreamTable × ℕ
stream_passed t n s None = (t, 0)
stream_passed t n s (Some bytes) = (with_stream t n (passed_by (length bytes) s), length bytes)

-- the bytes ahead read, all of them
abbrev pub ahead_passed : StreamTable → ℕ → StreamTable × ℕ
ahead_passed t n = of_stream (stream_at t n) (t, 0) (λ s. stream_passed t n s (bytes_by t.files s))
