-- Streams, file references and files, each found by its number or name (Glk 0.7.5, "Streams").
use Rattle.std.specs.Prelude.{ℕ, ◌==◌, if◌then◌else◌, Bool, true, false, List, []}
use Rattle.std.specs.Prelude.{◌∷◌, Option, Some, None}
use Rattle.glk_numbers.specs.Numbered.{found, changed_at}
use Rattle.glk_streams.specs.declared.stream.Stream.{Stream}
use Rattle.glk_streams.specs.declared.stream.Target.{Target}
use Rattle.glk_streams.specs.declared.stream.Target.TheVariants.{Window, Memory, File}
use Rattle.glk_streams.specs.declared.fileref.FileRef.{FileRef}
use Rattle.glk_streams.specs.declared.file as file

-- the streams and file references of a session by number, with the number that the next of each
-- gets; the current stream, or 0; and the session's files in the order of their usages and names
pub record StreamTable : Type 0 where
  pub streams : List Stream
  pub next : ℕ
  pub current : ℕ
  pub refs : List FileRef
  pub next_ref : ℕ
  pub files : List file.File.File

-- a session's streams, file references and files with these fields
abbrev pub table_of : ℕ → ℕ → List Stream → ℕ → List FileRef → List file.File.File
    → StreamTable
table_of next current streams next_ref refs files = record {
  streams = streams;
  next = next;
  current = current;
  refs = refs;
  next_ref = next_ref;
  files = files;
}

abbrev pub stream_number : Stream → ℕ
stream_number s = s.number

abbrev pub ref_number_of : FileRef → ℕ
ref_number_of r = r.number

-- nothing is open
abbrev pub no_streams : StreamTable
no_streams = record { streams = []; next = 1; current = 0; refs = []; next_ref = 1; files = [] }

-- the stream with this number
abbrev pub stream_at : StreamTable → ℕ → Option Stream
stream_at t n = found stream_number t.streams n

-- the file reference with this number
abbrev pub ref_at : StreamTable → ℕ → Option FileRef
ref_at t n = found ref_number_of t.refs n

-- another stream in the place of that with this number
abbrev pub with_stream : StreamTable → ℕ → Stream → StreamTable
with_stream t n s = record t { streams = changed_at stream_number (λ _. s) t.streams n }

abbrev pub is_window_target : Target → Bool
is_window_target (Window win) = true
is_window_target (Memory buf len) = false
is_window_target (File usage name) = false

abbrev pub is_memory : Target → Bool
is_memory (Window win) = false
is_memory (Memory buf len) = true
is_memory (File usage name) = false

abbrev pub is_file_target : Target → Bool
is_file_target (Window win) = false
is_file_target (Memory buf len) = false
is_file_target (File usage name) = true

-- it is this window's
abbrev pub is_of_window : ℕ → Target → Bool
is_of_window win (Window w) = w == win
is_of_window win (Memory buf len) = false
is_of_window win (File usage name) = false

-- the window's stream: the first number of one, or 0
unfoldable pub stream_of_window : List Stream → ℕ → ℕ
stream_of_window [] win = 0
stream_of_window (s ∷ ss) win =
    if is_of_window win s.target then s.number else stream_of_window ss win

-- the window that a stream belongs to, or 0
abbrev pub window_in : Target → ℕ
window_in (Window win) = win
window_in (Memory buf len) = 0
window_in (File usage name) = 0

-- what a stream has, and 0 or false where there is none
abbrev pub of_stream : {A : Type 0} → Option Stream → A → (Stream → A) → A
of_stream None none have = none
of_stream (Some s) none have = have s

-- a stream with this mode can be read
abbrev pub is_read_mode : ℕ → Bool
is_read_mode mode = if mode == 2 then true else mode == 3

-- a stream with this mode can be written
abbrev pub is_write_mode : ℕ → Bool
is_write_mode mode = if mode == 1 then true else (if mode == 3 then true else mode == 5)
