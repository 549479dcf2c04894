-- Windows, streams and files, read from the left (own: docs/FORMATS.md, "Snapshot bytes").
use Rattle.std.specs.Prelude.{ℕ, ◌*◌, ◌==◌, if◌then◌else◌, Bool, List}
use Rattle.snap_fields.specs.Reading.{Reader, ◌then◌, readers_joined, led_by, reader_made, none_at}
use Rattle.snap_fields.specs.Reading.{pure_at, n1_at, n4_at, flag1_at, flag4_at, many_at, list_at}
use Rattle.snap_fields.specs.Reading.{bytes_at}
use Rattle.snap_fields.specs.declared.glk.SnapArea.{SnapArea}
use Rattle.snap_fields.specs.declared.glk.SnapContent.{SnapContent}
use Rattle.snap_fields.specs.declared.glk.SnapContent.TheVariants.{Pair, Blank, Buffer, Grid}
use Rattle.snap_fields.specs.declared.glk.SnapFile.{SnapFile}
use Rattle.snap_fields.specs.declared.glk.SnapFileRef.{SnapFileRef}
use Rattle.snap_fields.specs.declared.glk.SnapRequest.{SnapRequest}
use Rattle.snap_fields.specs.declared.glk.SnapRequest.TheVariants.{Nothing, Line, Char}
use Rattle.snap_fields.specs.declared.glk.SnapStream.{SnapStream}
use Rattle.snap_fields.specs.declared.glk.SnapTarget.{SnapTarget}
use Rattle.snap_fields.specs.declared.glk.SnapTarget.TheVariants as target
use Rattle.snap_fields.specs.declared.glk.SnapWindow.{SnapWindow}

-- ---- 7. windows

abbrev pub area_item : ℕ × (ℕ × (ℕ × ℕ)) → SnapArea
area_item (x, (y, (w, h))) = record { x = x; y = y; w = w; h = h }

unfoldable pub area_at : Reader SnapArea
area_at = reader_made area_item (n4_at then n4_at then n4_at then n4_at)

abbrev pub pair_item : ℕ × (ℕ × (ℕ × (ℕ × ℕ))) → SnapContent
pair_item (method, (size, (key, (first, second)))) = Pair method size key first second

abbrev pub grid_of : ℕ × (ℕ × List ℕ) → SnapContent
grid_of (x, (y, cells)) = Grid x y cells

unfoldable pub content_at : ℕ → SnapArea → Reader SnapContent
content_at type area =
    if type == 1 then reader_made pair_item (n4_at then n4_at then n4_at then n4_at then n4_at)
    else (if type == 2 then pure_at Blank
    else (if type == 3 then pure_at Buffer
    else (if type == 4
    then reader_made grid_of (n4_at then n4_at then many_at n4_at (area.w * area.h))
    else none_at)))

abbrev pub line_item : Bool × (ℕ × (ℕ × (ℕ × (Bool × List ℕ)))) → SnapRequest
line_item (unicode, (buffer, (maximum, (initial, (echo, terminators))))) =
    Line unicode buffer maximum initial echo terminators

abbrev pub request_with : ℕ → Reader SnapRequest
request_with kind =
    if kind == 0 then pure_at Nothing
    else (if kind == 1
    then reader_made line_item
    (flag1_at then n4_at then n4_at then n4_at then flag1_at then list_at n4_at)
    else (if kind == 2 then reader_made Char flag1_at
    else none_at))

unfoldable pub request_at : Reader SnapRequest
request_at = led_by n1_at request_with

-- a window up to its rectangle: number, type, rock, stream, echo stream, parent, echo setting,
-- terminators, rectangle
abbrev pub Head : Type 0
Head = ℕ × (ℕ × (ℕ × (ℕ × (ℕ × (ℕ × (Bool × (List ℕ × SnapArea)))))))

abbrev pub head_at : Reader Head
head_at =
    n4_at then n4_at then n4_at then n4_at then n4_at then n4_at then flag4_at
    then list_at n4_at then area_at

abbrev pub behind_head : Head → Reader (SnapContent × SnapRequest)
behind_head
    (number, (type, (rock, (stream, (echo_stream, (parent, (echo, (terminators, area)))))))) =
    content_at type area then request_at

abbrev pub window_item : Head × (SnapContent × SnapRequest) → SnapWindow
window_item (
  (number, (type, (rock, (stream, (echo_stream, (parent, (echo, (terminators, area)))))))),
  (content, request),
) = record {
  number = number;
  rock = rock;
  stream = stream;
  echo_stream = echo_stream;
  parent = parent;
  echo = echo;
  terminators = terminators;
  area = area;
  content = content;
  request = request;
}

unfoldable pub window_item_at : Reader SnapWindow
window_item_at = reader_made window_item (readers_joined head_at behind_head)

-- ---- 8. streams

abbrev pub memory_item : ℕ × ℕ → SnapTarget
memory_item (buffer, length) = target.Memory buffer length

abbrev pub file_target_of : ℕ × List ℕ → SnapTarget
file_target_of (usage, name) = target.File usage name

unfoldable pub target_at : ℕ → Reader SnapTarget
target_at kind =
    if kind == 0 then pure_at target.Window
    else (if kind == 1 then reader_made memory_item (n4_at then n4_at)
    else (if kind == 2 then reader_made file_target_of (n4_at then list_at n4_at)
    else none_at))

-- a stream up to its target: number, kind, rock, mode, style, counts, position, Unicode
abbrev pub StreamHead : Type 0
StreamHead = ℕ × (ℕ × (ℕ × (ℕ × (ℕ × (ℕ × (ℕ × (ℕ × Bool)))))))

abbrev pub stream_head_at : Reader StreamHead
stream_head_at =
    n4_at then n1_at then n4_at then n4_at then n4_at then n4_at then n4_at then n4_at
    then flag1_at

abbrev pub behind_stream : StreamHead → Reader SnapTarget
behind_stream (number, (kind, rest)) = target_at kind

abbrev pub stream_item : StreamHead × SnapTarget → SnapStream
stream_item (
  (number, (kind, (rock, (mode, (style, (read, (written, (position, unicode)))))))),
  target,
) = record {
  number = number;
  rock = rock;
  mode = mode;
  style = style;
  read = read;
  written = written;
  position = position;
  unicode = unicode;
  target = target;
}

unfoldable pub stream_item_at : Reader SnapStream
stream_item_at = reader_made stream_item (readers_joined stream_head_at behind_stream)

-- ---- 9. file references and files

abbrev pub fileref_of : ℕ × (ℕ × (ℕ × List ℕ)) → SnapFileRef
fileref_of (number, (usage, (rock, name))) =
    record { number = number; usage = usage; rock = rock; name = name }

unfoldable pub fileref_at : Reader SnapFileRef
fileref_at = reader_made fileref_of (n4_at then n4_at then n4_at then list_at n4_at)

abbrev pub file_item : ℕ × (List ℕ × List ℕ) → SnapFile
file_item (usage, (name, bytes)) = record { usage = usage; name = name; bytes = bytes }

unfoldable pub file_at : Reader SnapFile
file_at = reader_made file_item (n4_at then list_at n4_at then bytes_at)
