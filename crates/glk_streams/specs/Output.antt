-- What a character that is put does (Glk 0.7.5, "Output").
use Rattle.std.specs.Prelude.{ℕ, ◌+◌, ◌-◌, ◌*◌, ◌%◌, ◌^◌, ◌==◌, ◌&&◌, nat_le, nat_lt, min}
use Rattle.std.specs.Prelude.{if◌then◌else◌, Bool, List, length, Result, Ok, Err}
use Rattle.vm_memory.specs.Chaining.{◌>>=◌}
use Rattle.vm_memory.specs.MemoryMap.{MemoryMap, replaced}
use Rattle.vm_memory.specs.Access.{written}
use Rattle.glk_streams.specs.Answer.{live, of_memory}
use Rattle.glk_streams.specs.Coding.{coding_of, bytes_kept, kept_code, unit_of, units_of, steps_of}
use Rattle.glk_streams.specs.Files.{content_of, files_holding, file_may_stand, room_of}
use Rattle.glk_streams.specs.Streams.{StreamTable, stream_at, with_stream, is_write_mode}
use Rattle.glk_streams.specs.declared.coding.Coding.{Coding}
use Rattle.glk_streams.specs.declared.file.File.{File}
use Rattle.glk_streams.specs.declared.stream.Stream.{Stream}
use Rattle.glk_streams.specs.declared.stream.Target.{Target}
use Rattle.glk_streams.specs.declared.stream.Target.TheVariants as to
use Rattle.glk_streams.specs.declared.fault.StreamStop.{StreamStop}
use Rattle.glk_streams.specs.declared.fault.StreamStop.TheVariants.{BadArgument}

-- one character more was written
abbrev pub write_counted : Stream → Stream
write_counted s = record s { written = (s.written + 1) % 2 ^ 32 }

-- at this position
abbrev pub at_position : ℕ → Stream → Stream
at_position place s = record s { place = place }

-- how many positions a memory stream has: none without a buffer
abbrev pub length_of : ℕ → ℕ → ℕ
length_of buf len = if buf == 0 then 0 else len

-- where a character of a buffer stands: addresses are modulo 2^32, as those of all arrays
abbrev pub address_of : Coding → ℕ → ℕ → ℕ
address_of c buf place = (buf + unit_of c * place) % 2 ^ 32

-- a character put into a buffer, and where its stream then stands; it is dropped at the end
abbrev pub put_in_memory : MemoryMap → ℕ → ℕ → ℕ → Coding → ℕ
    → Result (MemoryMap × ℕ) StreamStop
put_in_memory m place buf len c code =
    if nat_lt place (length_of buf len)
    then of_memory (written (unit_of c) m (address_of c buf place) (kept_code c code))
    >>= (λ m. Ok (m, place + 1))
    else Ok (m, place)

-- a position in a file; one past the end is taken as the end
abbrev pub position_held : Coding → List ℕ → ℕ → ℕ
position_held c bytes place = min place (units_of c bytes)

-- the first of the bytes that stand at a position
abbrev pub byte_start : Coding → List ℕ → ℕ → ℕ
byte_start c bytes place = unit_of c * position_held c bytes place

-- the file is there or may be made, and the files have room for what is added
abbrev pub is_kept : List File → ℕ → List ℕ → ℕ → ℕ → Bool
is_kept fs usage name at count =
    file_may_stand fs usage name
    && nat_le (at + count - length (content_of fs usage name)) (room_of fs)

-- bytes put at a place of a file, which is made where it isn't there
abbrev pub put_at_place : List File → ℕ → List ℕ → ℕ → List ℕ → List File
put_at_place fs usage name at new =
    files_holding fs usage name (replaced (content_of fs usage name) at new)

-- bytes put at a position of a file, and where their stream then stands; they are dropped at the
-- limits
abbrev pub put_bytes : List File → ℕ → ℕ → List ℕ → Coding → List ℕ
    → List File × ℕ
put_bytes fs place usage name c new =
    if is_kept fs usage name (byte_start c (content_of fs usage name) place) (length new)
    then (
      put_at_place fs usage name (byte_start c (content_of fs usage name) place) new,
      position_held c (content_of fs usage name) place + steps_of c (length new),
    )
    else (fs, place)

-- the files and memory after a character, and where its stream then stands
abbrev pub Put : Type 0
Put = Result (List File × MemoryMap × ℕ) StreamStop

abbrev pub in_memory : List File → Result (MemoryMap × ℕ) StreamStop → Put
in_memory fs r = r >>= (λ done. Ok (fs, done.0, done.1))

abbrev pub in_files : MemoryMap → List File × ℕ → Put
in_files m done = Ok (done.0, m, done.1)

-- a character put where a stream's characters go; one put to a window leaves both as they are
abbrev pub put_in_target : Target → Bool → List File → MemoryMap → ℕ → ℕ → Put
put_in_target (to.Window win) unicode fs m place code = Ok (fs, m, place)
put_in_target (to.Memory buf len) unicode fs m place code =
    in_memory fs (put_in_memory m place buf len (coding_of unicode (to.Memory buf len)) code)
put_in_target (to.File usage name) unicode fs m place code =
    in_files m (put_bytes fs place usage name (coding_of unicode (to.File usage name))
    (bytes_kept (coding_of unicode (to.File usage name)) code))

-- a character put to a stream that is open for writing
abbrev pub put_by : List File → MemoryMap → Stream → ℕ → Put
put_by fs m s code =
    if is_write_mode s.mode then put_in_target s.target s.unicode fs m s.place code
    else Err BadArgument

-- a character put to the stream with this number, which counts it
abbrev pub put_on_stream : StreamTable → MemoryMap → ℕ → ℕ
    → Result (StreamTable × MemoryMap) StreamStop
put_on_stream t m n code = live (stream_at t n) (λ s. put_by t.files m s code
    >>= (λ done.
    Ok (
      with_stream (record t { files = done.0 }) n
          (write_counted (at_position done.2 s)),
      done.1,
    )))
