-- Lists whose counts have four bytes (own: docs/FORMATS.md, "Snapshot bytes").
use Rattle.std.specs.Prelude.{◌≡◌, ◌*◌, List, length}
use Rattle.std.specs.List.{AllByRecursion}
use Rattle.snap_fields.specs.Numbers.{IsCounted}
use Rattle.snap_fields.specs.declared.fields.Fields.{Fields}
use Rattle.snap_fields.specs.declared.fields.SnapMachine.{SnapMachine}
use Rattle.snap_fields.specs.declared.fields.UndoState.{UndoState}
use Rattle.snap_fields.specs.declared.glk.SnapArea.{SnapArea}
use Rattle.snap_fields.specs.declared.glk.SnapContent.{SnapContent}
use Rattle.snap_fields.specs.declared.glk.SnapContent.TheVariants.{Pair, Blank, Buffer, Grid}
use Rattle.snap_fields.specs.declared.glk.SnapFile.{SnapFile}
use Rattle.snap_fields.specs.declared.glk.SnapFileRef.{SnapFileRef}
use Rattle.snap_fields.specs.declared.glk.SnapRequest.{SnapRequest}
use Rattle.snap_fields.specs.declared.glk.SnapRequest.TheVariants.{Nothing, Line, Char}
use Rattle.snap_fields.specs.declared.glk.SnapStream.{SnapStream}
use Rattle.snap_fields.specs.declared.glk.SnapTarget.{SnapTarget}
use Rattle.snap_fields.specs.declared.glk.SnapTarget.TheVariants as target
use Rattle.snap_fields.specs.declared.glk.SnapWindow.{SnapWindow}

-- a value without lists
abbrev pub HasNoList : {A : Type 0} → A → Type 0
HasNoList x = Unit {0}

-- a list whose count has four bytes, of items whose lists are such ones
pub record CountsList {A : Type 0} (Counts : A → Type 0) (xs : List A) : Type 0 where
  pub count : IsCounted xs
  pub items : AllByRecursion Counts xs

pub record CountsMachine (m : SnapMachine) : Type 0 where
  pub memory : IsCounted m.memory
  pub stack : IsCounted m.stack
  pub heap : IsCounted m.heap

pub record CountsUndoState (s : UndoState) : Type 0 where
  pub contents : IsCounted s.contents
  pub stack : IsCounted s.stack
  pub heap : IsCounted s.heap

-- a grid has a cell for each place of its rectangle
abbrev pub HasCells : SnapArea → SnapContent → Type 0
HasCells area (Pair method size key first second) = Unit {0}
HasCells area Blank = Unit {0}
HasCells area Buffer = Unit {0}
HasCells area (Grid x y cells) = length cells ≡ area.w * area.h

abbrev pub CountsRequest : SnapRequest → Type 0
CountsRequest Nothing = Unit {0}
CountsRequest (Line unicode buffer maximum initial echo terminators) = IsCounted terminators
CountsRequest (Char unicode) = Unit {0}

pub record CountsWindow (w : SnapWindow) : Type 0 where
  pub terminators : IsCounted w.terminators
  pub cells : HasCells w.area w.content
  pub request : CountsRequest w.request

abbrev pub CountsTarget : SnapTarget → Type 0
CountsTarget target.Window = Unit {0}
CountsTarget (target.Memory buffer length) = Unit {0}
CountsTarget (target.File usage name) = IsCounted name

abbrev pub CountsStream : SnapStream → Type 0
CountsStream s = CountsTarget s.target

abbrev pub CountsFileRef : SnapFileRef → Type 0
CountsFileRef r = IsCounted r.name

pub record CountsFile (f : SnapFile) : Type 0 where
  pub name : IsCounted f.name
  pub bytes : IsCounted f.bytes

-- each list of the fields is such a one, and each grid has its cells
pub record HasCounts (f : Fields) : Type 0 where
  pub machine : CountsMachine f.machine
  pub undo : CountsList CountsUndoState f.undo
  pub windows : CountsList CountsWindow f.windows
  pub streams : CountsList CountsStream f.streams
  pub filerefs : CountsList CountsFileRef f.filerefs
  pub files : CountsList CountsFile f.files
  pub show : IsCounted f.show
