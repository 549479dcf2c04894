-- What fields have bytes (own: docs/FORMATS.md, "Snapshot bytes").
use Rattle.std.specs.Prelude.{◌≡◌, ◌*◌, length}
use Rattle.std.specs.List.{AllByRecursion}
use Rattle.vm_heap.specs.declared.block.Block.{Block}
use Rattle.snap_fields.specs.Numbers.{IsByte, IsWord, IsLong, IsListOf}
use Rattle.snap_fields.specs.declared.fields.Fields.{Fields}
use Rattle.snap_fields.specs.declared.fields.SnapMachine.{SnapMachine}
use Rattle.snap_fields.specs.declared.fields.Numbers.{Numbers}
use Rattle.snap_fields.specs.declared.fields.SnapRandom.{SnapRandom}
use Rattle.snap_fields.specs.declared.fields.Settings.{Settings}
use Rattle.snap_fields.specs.declared.fields.SnapSetup.{SnapSetup}
use Rattle.snap_fields.specs.declared.fields.SnapStub.{SnapStub}
use Rattle.snap_fields.specs.declared.fields.UndoState.{UndoState}
use Rattle.snap_fields.specs.declared.fields.SnapWaiting.{SnapWaiting}
use Rattle.snap_fields.specs.declared.fields.SnapWaiting.TheVariants.{Quit, Fault, Select, Prompt}
use Rattle.snap_fields.specs.declared.glk.SnapArea.{SnapArea}
use Rattle.snap_fields.specs.declared.glk.SnapContent.{SnapContent}
use Rattle.snap_fields.specs.declared.glk.SnapContent.TheVariants.{Pair, Blank, Buffer, Grid}
use Rattle.snap_fields.specs.declared.glk.SnapFile.{SnapFile}
use Rattle.snap_fields.specs.declared.glk.SnapFileRef.{SnapFileRef}
use Rattle.snap_fields.specs.declared.glk.SnapRequest.{SnapRequest}
use Rattle.snap_fields.specs.declared.glk.SnapRequest.TheVariants.{Nothing, Line, Char}
use Rattle.snap_fields.specs.declared.glk.SnapStream.{SnapStream}
use Rattle.snap_fields.specs.declared.glk.SnapTarget.{SnapTarget}
use Rattle.snap_fields.specs.declared.glk.SnapTarget.TheVariants as target
use Rattle.snap_fields.specs.declared.glk.SnapWindow.{SnapWindow}

-- each number fits its bytes
pub record IsSetup (s : SnapSetup) : Type 0 where
  pub seed : IsLong s.seed
  pub cols : IsByte s.cols
  pub rows : IsByte s.rows
  pub budget : IsLong s.budget

abbrev pub IsBlock : Block → Type 0
IsBlock b = IsWord b.at × IsWord b.length

pub record IsMachine (m : SnapMachine) : Type 0 where
  pub pc : IsWord m.pc
  pub frame : IsWord m.frame
  pub memory : IsListOf IsByte m.memory
  pub stack : IsListOf IsByte m.stack
  pub heap_start : IsWord m.heap_start
  pub heap : IsListOf IsBlock m.heap

pub record IsSettings (s : Settings) : Type 0 where
  pub mode : IsWord s.mode
  pub rock : IsWord s.rock
  pub string_table : IsWord s.string_table
  pub protect_start : IsWord s.protect_start
  pub protect_length : IsWord s.protect_length

pub record IsRandom (r : SnapRandom) : Type 0 where
  pub start : IsLong r.start
  pub stream : IsLong r.stream
  pub taken : IsLong r.taken
  pub fresh : IsLong r.fresh

pub record IsUndoState (s : UndoState) : Type 0 where
  pub contents : IsListOf IsByte s.contents
  pub stack : IsListOf IsByte s.stack
  pub heap_start : IsWord s.heap_start
  pub heap : IsListOf IsBlock s.heap

abbrev pub IsStoreFields : SnapStub → Type 0
IsStoreFields s = IsWord s.kind × IsWord s.address

abbrev pub IsWaitingFields : SnapWaiting → Type 0
IsWaitingFields Quit = Unit {0}
IsWaitingFields (Fault code) = IsByte code
IsWaitingFields (Select reference store) = IsWord reference × IsStoreFields store
IsWaitingFields (Prompt usage mode rock store) =
    IsWord usage × IsWord mode × IsWord rock × IsStoreFields store

pub record IsNumbers (n : Numbers) : Type 0 where
  pub window : IsWord n.window
  pub stream : IsWord n.stream
  pub fileref : IsWord n.fileref
  pub root : IsWord n.root
  pub current : IsWord n.current

pub record IsArea (a : SnapArea) : Type 0 where
  pub x : IsWord a.x
  pub y : IsWord a.y
  pub w : IsWord a.w
  pub h : IsWord a.h

-- a grid has a cell for each place of its rectangle
abbrev pub IsContent : SnapArea → SnapContent → Type 0
IsContent area (Pair method size key first second) =
    IsWord method × IsWord size × IsWord key × IsWord first × IsWord second
IsContent area Blank = Unit {0}
IsContent area Buffer = Unit {0}
IsContent area (Grid x y cells) =
    IsWord x × IsWord y × (length cells ≡ area.w * area.h) × AllByRecursion IsWord cells

abbrev pub IsGlkRequest : SnapRequest → Type 0
IsGlkRequest Nothing = Unit {0}
IsGlkRequest (Line unicode buffer maximum initial echo terminators) =
    IsWord buffer × IsWord maximum × IsWord initial × IsListOf IsWord terminators
IsGlkRequest (Char unicode) = Unit {0}

pub record IsWindow (w : SnapWindow) : Type 0 where
  pub number : IsWord w.number
  pub rock : IsWord w.rock
  pub stream : IsWord w.stream
  pub echo_stream : IsWord w.echo_stream
  pub parent : IsWord w.parent
  pub terminators : IsListOf IsWord w.terminators
  pub area : IsArea w.area
  pub content : IsContent w.area w.content
  pub request : IsGlkRequest w.request

abbrev pub IsTarget : SnapTarget → Type 0
IsTarget target.Window = Unit {0}
IsTarget (target.Memory buffer length) = IsWord buffer × IsWord length
IsTarget (target.File usage name) = IsWord usage × IsListOf IsWord name

pub record IsStream (s : SnapStream) : Type 0 where
  pub number : IsWord s.number
  pub rock : IsWord s.rock
  pub mode : IsWord s.mode
  pub style : IsWord s.style
  pub read : IsWord s.read
  pub written : IsWord s.written
  pub position : IsWord s.position
  pub target : IsTarget s.target

pub record IsFileRef (r : SnapFileRef) : Type 0 where
  pub number : IsWord r.number
  pub usage : IsWord r.usage
  pub rock : IsWord r.rock
  pub name : IsListOf IsWord r.name

pub record IsFile (f : SnapFile) : Type 0 where
  pub usage : IsWord f.usage
  pub name : IsListOf IsWord f.name
  pub bytes : IsListOf IsByte f.bytes

-- fields that have bytes
pub record IsPrintable (f : Fields) : Type 0 where
  pub setup : IsSetup f.setup
  pub machine : IsMachine f.machine
  pub settings : IsSettings f.settings
  pub random : IsRandom f.random
  pub undo : IsListOf IsUndoState f.undo
  pub waiting : IsWaitingFields f.waiting
  pub numbers : IsNumbers f.numbers
  pub windows : IsListOf IsWindow f.windows
  pub streams : IsListOf IsStream f.streams
  pub filerefs : IsListOf IsFileRef f.filerefs
  pub files : IsListOf IsFile f.files
  pub show : IsListOf IsByte f.show
