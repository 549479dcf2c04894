-- The Glk state that a world's bytes tell (own: docs/FORMATS.md, "Snapshot bytes").
use Rattle.std.specs.Prelude.{ℕ, ◌==◌, if◌then◌else◌, false, List, [], ◌∷◌, map, Option, Some, None}
use Rattle.glk_windows.specs.Fields.{tree_with}
use Rattle.glk_windows.specs.Tree.{WindowTree}
use Rattle.glk_windows.specs.declared.window.Area as area
use Rattle.glk_windows.specs.declared.window.Content as content
use Rattle.glk_windows.specs.declared.window.Content.TheVariants as holds
use Rattle.glk_windows.specs.declared.window.Window as window
use Rattle.glk_streams.specs.Streams.{StreamTable, table_of}
use Rattle.glk_streams.specs.declared.file.File as file
use Rattle.glk_streams.specs.declared.fileref.FileRef as fileref
use Rattle.glk_streams.specs.declared.stream.Stream as stream
use Rattle.glk_streams.specs.declared.stream.Target as target
use Rattle.glk_streams.specs.declared.stream.Target.TheVariants as to
use Rattle.glk_input.specs.declared.request.Request as request
use Rattle.glk_input.specs.declared.request.Request.TheVariants as asks
use Rattle.glk_input.specs.declared.request.WindowInput.{WindowInput}
use Rattle.glk_dispatch.specs.Fields.{glk_with}
use Rattle.glk_dispatch.specs.declared.glk.Glk.{Glk}
use Rattle.glk_dispatch.specs.declared.glk.Prompt.{Prompt}
use Rattle.snap_fields.specs.declared.glk.SnapArea.{SnapArea}
use Rattle.snap_fields.specs.declared.glk.SnapContent.{SnapContent}
use Rattle.snap_fields.specs.declared.glk.SnapContent.TheVariants.{Pair, Blank, Buffer, Grid}
use Rattle.snap_fields.specs.declared.glk.SnapFile.{SnapFile}
use Rattle.snap_fields.specs.declared.glk.SnapFileRef.{SnapFileRef}
use Rattle.snap_fields.specs.declared.glk.SnapRequest.{SnapRequest}
use Rattle.snap_fields.specs.declared.glk.SnapRequest.TheVariants.{Nothing, Line, Char}
use Rattle.snap_fields.specs.declared.glk.SnapStream.{SnapStream}
use Rattle.snap_fields.specs.declared.glk.SnapTarget.{SnapTarget}
use Rattle.snap_fields.specs.declared.glk.SnapTarget.TheVariants as told
use Rattle.snap_fields.specs.declared.glk.SnapWindow.{SnapWindow}
use Rattle.snap_glk.specs.declared.fields.GlkFields.{GlkFields}

-- ---- windows, and their entries for input

abbrev pub area_made : SnapArea → area.Area
area_made a = record { x = a.x; y = a.y; w = a.w; h = a.h }

-- a buffer without text and not cleared, a grid of the size of its rectangle
abbrev pub content_made : SnapArea → SnapContent → content.Content
content_made a (Pair method size key first second) = holds.Pair (record {
  method = method;
  size = size;
  key = key;
  first = first;
  second = second;
})
content_made a Blank = holds.Blank
content_made a Buffer = holds.Buffer (record { cleared = false; runs = [] })
content_made a (Grid x y cells) =
    holds.Grid (record { w = a.w; h = a.h; x = x; y = y; cells = cells })

abbrev pub window_made : SnapWindow → window.Window
window_made w = record {
  number = w.number;
  rock = w.rock;
  stream = w.stream;
  echo = w.echo_stream;
  parent = w.parent;
  area = area_made w.area;
  content = content_made w.area w.content;
}

abbrev pub request_made : SnapRequest → Option request.Request
request_made Nothing = None
request_made (Line unicode buffer maximum initial echo terminators) = Some (asks.Line (record {
  buf = buffer;
  max = maximum;
  init = initial;
  unicode = unicode;
  echo = echo;
  keys = terminators;
}))
request_made (Char unicode) = Some (asks.Char unicode)

abbrev pub input_made : SnapWindow → WindowInput
input_made w = record {
  win = w.number;
  echo = w.echo;
  keys = w.terminators;
  request = request_made w.request;
}

-- ---- streams, file references and files

-- the first window that has this stream, or 0
unfoldable pub window_with : List SnapWindow → ℕ → ℕ
window_with [] stream = 0
window_with (w ∷ ws) stream = if w.stream == stream then w.number else window_with ws stream

abbrev pub target_made : List SnapWindow → ℕ → SnapTarget → target.Target
target_made ws stream told.Window = to.Window (window_with ws stream)
target_made ws stream (told.Memory buffer length) = to.Memory buffer length
target_made ws stream (told.File usage name) = to.File usage name

abbrev pub stream_made : List SnapWindow → SnapStream → stream.Stream
stream_made ws s = record {
  number = s.number;
  rock = s.rock;
  mode = s.mode;
  style = s.style;
  read = s.read;
  written = s.written;
  place = s.position;
  unicode = s.unicode;
  target = target_made ws s.number s.target;
}

abbrev pub fileref_made : SnapFileRef → fileref.FileRef
fileref_made r = record { number = r.number; usage = r.usage; rock = r.rock; name = r.name }

abbrev pub file_made : SnapFile → file.File
file_made f = record { usage = f.usage; name = f.name; bytes = f.bytes }

-- ---- the whole

abbrev pub windows_made : GlkFields → WindowTree
windows_made f = tree_with f.numbers.window f.numbers.root (map window_made f.windows)

abbrev pub streams_made : GlkFields → StreamTable
streams_made f =
    table_of f.numbers.stream f.numbers.current (map (stream_made f.windows) f.streams)
    f.numbers.fileref (map fileref_made f.filerefs) (map file_made f.files)

abbrev pub requests_made : GlkFields → List WindowInput
requests_made f = map input_made f.windows

-- the Glk state with these fields, between two turns, on this screen and waiting with this
abbrev pub glk_with_fields : ℕ → ℕ → ℕ → Prompt → GlkFields → Glk
glk_with_fields cols rows event prompt f =
    glk_with cols rows (windows_made f) (streams_made f) (requests_made f) event prompt
