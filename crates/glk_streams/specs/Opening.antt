-- Opening and closing of streams (Glk 0.7.5, "Streams").
use Rattle.std.specs.Prelude.{ℕ, ◌+◌, ◌==◌, ◌&&◌, ◌||◌, not, nat_le, nat_lt, if◌then◌else◌, Bool}
use Rattle.std.specs.Prelude.{false, List, [], ◌∷◌, ◌++◌, Result, Ok, Err}
use Rattle.glk_numbers.specs.Numbered.{without}
use Rattle.glk_numbers.specs.declared.numbered.TheConstants.{MAX_NUMBER}
use Rattle.glk_streams.specs.Answer.{live}
use Rattle.glk_streams.specs.Files.{has_file, files_holding, file_may_stand}
use Rattle.glk_streams.specs.Position.{end_in}
use Rattle.glk_streams.specs.Streams.{StreamTable, stream_number, stream_at, ref_at}
use Rattle.glk_streams.specs.Streams.{stream_of_window, of_stream, is_window_target}
use Rattle.glk_streams.specs.declared.stream.Stream.{Stream}
use Rattle.glk_streams.specs.declared.stream.Target.{Target}
use Rattle.glk_streams.specs.declared.stream.Target.TheVariants.{Window, Memory, File}
use Rattle.glk_streams.specs.declared.stream.TheConstants.{MAX_STREAMS}
use Rattle.glk_streams.specs.declared.opening.Counts.{Counts}
use Rattle.glk_streams.specs.declared.file.File as file
use Rattle.glk_streams.specs.declared.fileref.FileRef.{FileRef}
use Rattle.glk_streams.specs.declared.fault.StreamStop.{StreamStop}
use Rattle.glk_streams.specs.declared.fault.StreamStop.TheVariants.{BadArgument}

-- a stream as it is opened: nothing was read or written
abbrev pub fresh_stream : ℕ → ℕ → ℕ → Bool → Target → ℕ → Stream
fresh_stream number rock mode unicode target place = record {
  number = number;
  rock = rock;
  mode = mode;
  style = 0;
  read = 0;
  written = 0;
  place = place;
  unicode = unicode;
  target = target;
}

-- a stream more, with the next number
abbrev pub stream_added : StreamTable → Stream → StreamTable
stream_added t s = record t { streams = t.streams ++ s ∷ []; next = t.next + 1 }

-- the same, and its number
abbrev pub added_with_number : StreamTable → Stream → StreamTable × ℕ
added_with_number t s = (stream_added t s, t.next)

-- a window's stream; 0 where no number is left
abbrev pub opened_window : StreamTable → ℕ → StreamTable × ℕ
opened_window t win =
    if nat_lt MAX_NUMBER t.next then (t, 0)
    else added_with_number t (fresh_stream t.next 0 1 false (Window win) 0)

-- how many streams there are besides those of windows
unfoldable pub count_of : List Stream → ℕ
count_of [] = 0
count_of (s ∷ ss) = if is_window_target s.target then count_of ss else count_of ss + 1

-- no stream more besides those of windows
abbrev pub are_streams_full : StreamTable → Bool
are_streams_full t = nat_lt MAX_NUMBER t.next || nat_le MAX_STREAMS (count_of t.streams)

-- the modes of a memory stream: to write, to read, both
abbrev pub is_memory_mode : ℕ → Bool
is_memory_mode mode = nat_le 1 mode && nat_le mode 3

-- the modes of a file's stream: these and 5, to append
abbrev pub is_file_mode : ℕ → Bool
is_file_mode mode = is_memory_mode mode || mode == 5

-- a memory stream; 0 at the limit
abbrev pub opened_memory : StreamTable → ℕ → ℕ → ℕ → ℕ → Bool
    → Result (StreamTable × ℕ) StreamStop
opened_memory t buf len mode rock unicode =
    if not (is_memory_mode mode) then Err BadArgument
    else (if are_streams_full t then Ok (t, 0)
    else Ok (added_with_number t (fresh_stream t.next rock mode unicode (Memory buf len) 0)))

-- a file can be opened in this mode: mode 2 makes none, and none is made at the limit
abbrev pub can_open : List file.File → ℕ → List ℕ → ℕ → Bool
can_open fs usage name mode =
    if mode == 2 then has_file fs usage name else file_may_stand fs usage name

-- mode 1 empties a file, and a mode that can be opened makes it where it isn't there
abbrev pub readied : StreamTable → ℕ → List ℕ → ℕ → StreamTable
readied t usage name mode =
    if mode == 1 || not (has_file t.files usage name)
    then record t { files = files_holding t.files usage name [] } else t

-- mode 5 begins at the end
abbrev pub first_place : List file.File → ℕ → List ℕ → ℕ → Bool → ℕ
first_place fs usage name mode unicode =
    if mode == 5 then end_in (File usage name) fs unicode else 0

abbrev pub opened_name : StreamTable → ℕ → List ℕ → ℕ → ℕ → Bool
    → StreamTable × ℕ
opened_name t usage name mode rock unicode =
    added_with_number (readied t usage name mode)
    (fresh_stream t.next rock mode unicode (File usage name)
    (first_place t.files usage name mode unicode))

abbrev pub opened_ref : StreamTable → FileRef → ℕ → ℕ → Bool
    → Result (StreamTable × ℕ) StreamStop
opened_ref t r mode rock unicode =
    if not (is_file_mode mode) then Err BadArgument
    else (if are_streams_full t || not (can_open t.files r.usage r.name mode) then Ok (t, 0)
    else Ok (opened_name t r.usage r.name mode rock unicode))

-- a file's stream; 0 where mode 2 finds no file, and at the limits
abbrev pub opened_file : StreamTable → ℕ → ℕ → ℕ → Bool
    → Result (StreamTable × ℕ) StreamStop
opened_file t fref mode rock unicode = live (ref_at t fref) (λ r. opened_ref t r mode rock unicode)

-- the characters read and written
abbrev pub counts_of : Stream → Counts
counts_of s = record { read = s.read; written = s.written }

-- without this stream, which is no longer the current one
abbrev pub stream_dropped : StreamTable → ℕ → StreamTable
stream_dropped t n = record t {
  streams = without stream_number t.streams n;
  current = if t.current == n then 0 else t.current;
}

-- the stream is dropped, and its counts are left; 0 and 0 where there is none
abbrev pub stream_taken : StreamTable → ℕ → StreamTable × Counts
stream_taken t n =
    (stream_dropped t n, of_stream (stream_at t n) (record { read = 0; written = 0 }) counts_of)

-- a stream is closed that is no window's
abbrev pub closed_stream : StreamTable → ℕ → Result (StreamTable × Counts) StreamStop
closed_stream t n = live (stream_at t n)
    (λ s. if is_window_target s.target then Err BadArgument else Ok (stream_taken t n))

-- a window's stream is closed with its window
abbrev pub closed_window : StreamTable → ℕ → StreamTable × Counts
closed_window t win = stream_taken t (stream_of_window t.streams win)
