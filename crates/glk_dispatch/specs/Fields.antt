-- A Glk state made again from what is kept of it: what tells whether its parts fit together (own).
use Rattle.std.specs.Prelude.{ℕ, ◌+◌, ◌==◌, ◌&&◌, ◌||◌, not, is_some, Bool, true, false, List}
use Rattle.std.specs.Prelude.{◌≡◌, length, map, Some}
use Rattle.std.specs.List.{list_all}
use Rattle.glk_numbers.specs.Numbered.{has}
use Rattle.glk_windows.specs.Tree as tree
use Rattle.glk_windows.specs.declared.window.Window as win
use Rattle.glk_streams.specs.Streams as streams
use Rattle.glk_streams.specs.declared.stream.Stream.{Stream}
use Rattle.glk_streams.specs.declared.stream.Target as to
use Rattle.glk_streams.specs.declared.stream.Target.TheVariants.{Window, Memory, File}
use Rattle.glk_input.specs.Request as request
use Rattle.glk_input.specs.declared.request.WindowInput.{WindowInput}
use Rattle.glk_dispatch.specs.Events.{may_ask}
use Rattle.glk_dispatch.specs.Glk.{is_stream, has_window}
use Rattle.glk_dispatch.specs.Links.{echoes_end, is_plain_stream}
use Rattle.glk_dispatch.specs.Output.{echo_from}
use Rattle.glk_dispatch.specs.Valid.{IsValidGlk}
use Rattle.glk_dispatch.specs.declared.glk.Glk.{Glk}
use Rattle.glk_dispatch.specs.declared.glk.Prompt.{Prompt}

-- a session's Glk state with these fields, before its turn reads, writes or shows a character
abbrev pub glk_with : ℕ → ℕ → tree.WindowTree → streams.StreamTable → List WindowInput → ℕ
    → Prompt → Glk
glk_with cols rows windows streams requests event prompt = record {
  windows = windows;
  streams = streams;
  requests = requests;
  cols = cols;
  rows = rows;
  chars = 0;
  printed = 0;
  event = event;
  prompt = prompt;
}

-- the stream is this window's
abbrev pub is_owned : Glk → ℕ → ℕ → Bool
is_owned g win n = streams.of_stream (streams.stream_at g.streams n) false
    (λ s. streams.is_of_window win s.target)

-- a window's stream is that window's, its echo is none or a live one, and it has its entry
-- for input
abbrev pub window_fits : Glk → win.Window → Bool
window_fits g w =
    is_owned g w.number w.stream
    && ((w.echo == 0 || is_stream g w.echo) && has request.input_window_number g.requests w.number)

-- a live window has this stream
abbrev pub has_stream : Glk → ℕ → ℕ → Bool
has_stream g win n = has_window g win && tree.stream_of g.windows.slots win == n

abbrev pub is_named_by : Glk → ℕ → to.Target → Bool
is_named_by g n (Window win) = has_stream g win n
is_named_by g n (Memory buf len) = true
is_named_by g n (File usage name) = true

-- from a stream on the echoes come to an end
abbrev pub comes_to_an_end : Glk → ℕ → Bool
comes_to_an_end g n = echoes_end (length g.windows.slots + 1) (echo_from g) n

-- a stream that is a window's is that window's own and stands as such a stream does, and its echoes
-- come to an end
abbrev pub stream_fits : Glk → Stream → Bool
stream_fits g s =
    is_named_by g s.number s.target && (is_plain_stream s && comes_to_an_end g s.number)

-- an entry for input is that of a live window, and of a buffer or a grid where it asks
abbrev pub entry_fits : Glk → WindowInput → Bool
entry_fits g w = has_window g w.win && (not (is_some w.request) || may_ask g w.win)

-- so are all of them
abbrev pub windows_fit : Glk → Bool
windows_fit g = list_all (window_fits g) g.windows.slots

abbrev pub streams_fit : Glk → Bool
streams_fit g = list_all (stream_fits g) g.streams.streams

abbrev pub entries_fit : Glk → Bool
entries_fit g = list_all (entry_fits g) g.requests

abbrev pub parts_fit : Glk → Bool
parts_fit g = windows_fit g && (streams_fit g && entries_fit g)

-- the entries for input are those of the windows, in their order
abbrev pub EntriesFollowWindows : Type 0
EntriesFollowWindows =
    (g : Glk) → IsValidGlk g
    → map request.input_window_number g.requests ≡ map tree.window_number g.windows.slots

-- a stream that is a window's is that of the one window that has it
abbrev pub StreamsFollowWindows : Type 0
StreamsFollowWindows =
    (g : Glk) (s : Stream) (n : ℕ) (w : win.Window) → IsValidGlk g
    → streams.stream_at g.streams s.number ≡ Some s → s.target ≡ Window n
    → tree.window_at g.windows.slots w.number ≡ Some w
    → (w.stream == s.number) ≡ (w.number == n)
