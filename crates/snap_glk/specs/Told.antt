-- What a world's bytes say of a Glk state (own: docs/FORMATS.md, "Snapshot bytes").
use Rattle.std.specs.Prelude.{map, Option, Some, None}
use Rattle.std.specs.List.{zip}
use Rattle.glk_windows.specs.declared.window.Area as area
use Rattle.glk_windows.specs.declared.window.Content as content
use Rattle.glk_windows.specs.declared.window.Content.TheVariants as holds
use Rattle.glk_windows.specs.declared.window.Window as window
use Rattle.glk_streams.specs.declared.file.File as file
use Rattle.glk_streams.specs.declared.fileref.FileRef as fileref
use Rattle.glk_streams.specs.declared.stream.Stream as stream
use Rattle.glk_streams.specs.declared.stream.Target as target
use Rattle.glk_streams.specs.declared.stream.Target.TheVariants as to
use Rattle.glk_input.specs.declared.request.Request as request
use Rattle.glk_input.specs.declared.request.Request.TheVariants as asks
use Rattle.glk_input.specs.declared.request.WindowInput.{WindowInput}
use Rattle.glk_dispatch.specs.declared.glk.Glk.{Glk}
use Rattle.snap_fields.specs.declared.fields.Numbers.{Numbers}
use Rattle.snap_fields.specs.declared.glk.SnapArea.{SnapArea}
use Rattle.snap_fields.specs.declared.glk.SnapContent.{SnapContent}
use Rattle.snap_fields.specs.declared.glk.SnapContent.TheVariants.{Pair, Blank, Buffer, Grid}
use Rattle.snap_fields.specs.declared.glk.SnapFile.{SnapFile}
use Rattle.snap_fields.specs.declared.glk.SnapFileRef.{SnapFileRef}
use Rattle.snap_fields.specs.declared.glk.SnapRequest.{SnapRequest}
use Rattle.snap_fields.specs.declared.glk.SnapRequest.TheVariants.{Nothing, Line, Char}
use Rattle.snap_fields.specs.declared.glk.SnapStream.{SnapStream}
use Rattle.snap_fields.specs.declared.glk.SnapTarget.{SnapTarget}
use Rattle.snap_fields.specs.declared.glk.SnapTarget.TheVariants as told
use Rattle.snap_fields.specs.declared.glk.SnapWindow.{SnapWindow}
use Rattle.snap_glk.specs.declared.fields.GlkFields.{GlkFields}

-- ---- windows

abbrev pub area_told : area.Area → SnapArea
area_told a = record { x = a.x; y = a.y; w = a.w; h = a.h }

-- a buffer's text is the last turn's, and a grid has the size of its rectangle
abbrev pub content_told : content.Content → SnapContent
content_told (holds.Pair p) = Pair p.method p.size p.key p.first p.second
content_told holds.Blank = Blank
content_told (holds.Buffer b) = Buffer
content_told (holds.Grid g) = Grid g.x g.y g.cells

abbrev pub request_told : Option request.Request → SnapRequest
request_told None = Nothing
request_told (Some (asks.Line r)) = Line r.unicode r.buf r.max r.init r.echo r.keys
request_told (Some (asks.Char unicode)) = Char unicode

-- a window with its entry for input
abbrev pub window_told : window.Window × WindowInput → SnapWindow
window_told p = record {
  number = p.0.number;
  rock = p.0.rock;
  stream = p.0.stream;
  echo_stream = p.0.echo;
  parent = p.0.parent;
  echo = p.1.echo;
  terminators = p.1.keys;
  area = area_told p.0.area;
  content = content_told p.0.content;
  request = request_told p.1.request;
}

-- ---- streams, file references and files

-- a window's stream is the one that the window names
abbrev pub target_told : target.Target → SnapTarget
target_told (to.Window win) = told.Window
target_told (to.Memory buf len) = told.Memory buf len
target_told (to.File usage name) = told.File usage name

abbrev pub stream_told : stream.Stream → SnapStream
stream_told s = record {
  number = s.number;
  rock = s.rock;
  mode = s.mode;
  style = s.style;
  read = s.read;
  written = s.written;
  position = s.place;
  unicode = s.unicode;
  target = target_told s.target;
}

abbrev pub fileref_told : fileref.FileRef → SnapFileRef
fileref_told r = record { number = r.number; usage = r.usage; rock = r.rock; name = r.name }

abbrev pub file_told : file.File → SnapFile
file_told f = record { usage = f.usage; name = f.name; bytes = f.bytes }

-- ---- the whole

abbrev pub numbers_told : Glk → Numbers
numbers_told g = record {
  window = g.windows.next;
  stream = g.streams.next;
  fileref = g.streams.next_ref;
  root = g.windows.root;
  current = g.streams.current;
}

-- the entries for input of a valid Glk state are those of its windows, in their order
abbrev pub glk_fields : Glk → GlkFields
glk_fields g = record {
  numbers = numbers_told g;
  windows = map window_told (zip g.windows.slots g.requests);
  streams = map stream_told g.streams.streams;
  filerefs = map fileref_told g.streams.refs;
  files = map file_told g.streams.files;
}
