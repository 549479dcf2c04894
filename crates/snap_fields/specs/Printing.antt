-- A world's bytes, item by item (own: docs/FORMATS.md, "Snapshot bytes").
use Rattle.std.specs.Prelude.{ℕ, List, [], ◌∷◌, ◌++◌}
use Rattle.std.specs.List.{flat_map}
use Rattle.vm_heap.specs.declared.block.Block.{Block}
use Rattle.snap_fields.specs.Numbers.{n1, n4, n8, flag, list_of, bytes_with_count, text_codes}
use Rattle.snap_fields.specs.declared.fields.Fields.{Fields}
use Rattle.snap_fields.specs.declared.fields.SnapMachine.{SnapMachine}
use Rattle.snap_fields.specs.declared.fields.Numbers.{Numbers}
use Rattle.snap_fields.specs.declared.fields.SnapRandom.{SnapRandom}
use Rattle.snap_fields.specs.declared.fields.Settings.{Settings}
use Rattle.snap_fields.specs.declared.fields.SnapSetup.{SnapSetup}
use Rattle.snap_fields.specs.declared.fields.SnapStub.{SnapStub}
use Rattle.snap_fields.specs.declared.fields.UndoState.{UndoState}
use Rattle.snap_fields.specs.declared.fields.SnapWaiting.{SnapWaiting}
use Rattle.snap_fields.specs.declared.fields.SnapWaiting.TheVariants.{Quit, Fault, Select, Prompt}
use Rattle.snap_fields.specs.declared.glk.SnapArea.{SnapArea}
use Rattle.snap_fields.specs.declared.glk.SnapContent.{SnapContent}
use Rattle.snap_fields.specs.declared.glk.SnapContent.TheVariants.{Pair, Blank, Buffer, Grid}
use Rattle.snap_fields.specs.declared.glk.SnapFile.{SnapFile}
use Rattle.snap_fields.specs.declared.glk.SnapFileRef.{SnapFileRef}
use Rattle.snap_fields.specs.declared.glk.SnapRequest.{SnapRequest}
use Rattle.snap_fields.specs.declared.glk.SnapRequest.TheVariants.{Nothing, Line, Char}
use Rattle.snap_fields.specs.declared.glk.SnapStream.{SnapStream}
use Rattle.snap_fields.specs.declared.glk.SnapTarget.{SnapTarget}
use Rattle.snap_fields.specs.declared.glk.SnapTarget.TheVariants as target
use Rattle.snap_fields.specs.declared.glk.SnapWindow.{SnapWindow}

-- ---- 1. the beginning

abbrev pub signature : List ℕ
signature = 0x53 ∷ 0x54 ∷ 0x57 ∷ 0x32 ∷ []

abbrev pub print_setup : SnapSetup → List ℕ
print_setup s = n8 s.seed ++ (n1 s.cols ++ (n1 s.rows ++ n8 s.budget))

-- ---- 2. the machine

abbrev pub print_block : Block → List ℕ
print_block b = n4 b.at ++ n4 b.length

abbrev pub print_machine : SnapMachine → List ℕ
print_machine m =
    n4 m.pc ++ (n4 m.frame ++ (bytes_with_count m.memory ++ (bytes_with_count m.stack
    ++ (n4 m.heap_start ++ list_of print_block m.heap))))

-- ---- 3. its settings, and its random words

abbrev pub print_settings : Settings → List ℕ
print_settings s =
    n4 s.mode ++ (n4 s.rock ++ (n4 s.string_table ++ (n4 s.protect_start
    ++ n4 s.protect_length)))

abbrev pub print_random : SnapRandom → List ℕ
print_random r = n8 r.start ++ (n8 r.stream ++ (n8 r.taken ++ n8 r.fresh))

-- ---- 4. the states that undo keeps

abbrev pub print_undo_state : UndoState → List ℕ
print_undo_state s =
    bytes_with_count s.contents ++ (bytes_with_count s.stack
    ++ (n4 s.heap_start ++ list_of print_block s.heap))

-- ---- 5. what the story waits for, or how it ended

abbrev pub print_store : SnapStub → List ℕ
print_store s = n4 s.kind ++ n4 s.address

abbrev pub print_waiting : SnapWaiting → List ℕ
print_waiting Quit = n1 0
print_waiting (Fault code) = n1 1 ++ n1 code
print_waiting (Select reference store) = n1 2 ++ (n4 reference ++ print_store store)
print_waiting (Prompt usage mode rock store) =
    n1 3 ++ (n4 usage ++ (n4 mode ++ (n4 rock ++ print_store store)))

-- ---- 6. numbers of objects

abbrev pub print_numbers : Numbers → List ℕ
print_numbers n = n4 n.window ++ (n4 n.stream ++ (n4 n.fileref ++ (n4 n.root ++ n4 n.current)))

-- ---- 7. windows

abbrev pub type_of : SnapContent → ℕ
type_of (Pair method size key first second) = 1
type_of Blank = 2
type_of Buffer = 3
type_of (Grid x y cells) = 4

abbrev pub print_area : SnapArea → List ℕ
print_area a = n4 a.x ++ (n4 a.y ++ (n4 a.w ++ n4 a.h))

-- the cells of a grid have no count: there are as many as its rectangle has
abbrev pub print_content : SnapContent → List ℕ
print_content (Pair method size key first second) =
    n4 method ++ (n4 size ++ (n4 key ++ (n4 first ++ n4 second)))
print_content Blank = []
print_content Buffer = []
print_content (Grid x y cells) = n4 x ++ (n4 y ++ flat_map n4 cells)

abbrev pub print_glk_request : SnapRequest → List ℕ
print_glk_request Nothing = n1 0
print_glk_request (Line unicode buffer maximum initial echo terminators) =
    n1 1 ++ (n1 (flag unicode) ++ (n4 buffer ++ (n4 maximum ++ (n4 initial
    ++ (n1 (flag echo) ++ list_of n4 terminators)))))
print_glk_request (Char unicode) = n1 2 ++ n1 (flag unicode)

abbrev pub print_window : SnapWindow → List ℕ
print_window w =
    n4 w.number ++ (n4 (type_of w.content) ++ (n4 w.rock ++ (n4 w.stream
    ++ (n4 w.echo_stream ++ (n4 w.parent ++ (n4 (flag w.echo) ++ (list_of n4 w.terminators
    ++ (print_area w.area ++ (print_content w.content ++ print_glk_request w.request)))))))))

-- ---- 8. streams

abbrev pub target_kind : SnapTarget → ℕ
target_kind target.Window = 0
target_kind (target.Memory buffer length) = 1
target_kind (target.File usage name) = 2

abbrev pub print_target : SnapTarget → List ℕ
print_target target.Window = []
print_target (target.Memory buffer length) = n4 buffer ++ n4 length
print_target (target.File usage name) = n4 usage ++ text_codes name

abbrev pub print_stream : SnapStream → List ℕ
print_stream s =
    n4 s.number ++ (n1 (target_kind s.target) ++ (n4 s.rock ++ (n4 s.mode
    ++ (n4 s.style ++ (n4 s.read ++ (n4 s.written ++ (n4 s.position
    ++ (n1 (flag s.unicode) ++ print_target s.target))))))))

-- ---- 9. file references and files

abbrev pub print_fileref : SnapFileRef → List ℕ
print_fileref r = n4 r.number ++ (n4 r.usage ++ (n4 r.rock ++ text_codes r.name))

abbrev pub print_file : SnapFile → List ℕ
print_file f = n4 f.usage ++ (text_codes f.name ++ bytes_with_count f.bytes)

-- ---- the whole

unfoldable pub print_fields : Fields → List ℕ
print_fields f =
    signature ++ (print_setup f.setup ++ (print_machine f.machine
    ++ (print_settings f.settings ++ (print_random f.random ++ (list_of print_undo_state f.undo
    ++ (print_waiting f.waiting ++ (print_numbers f.numbers
    ++ (list_of print_window f.windows ++ (list_of print_stream f.streams
    ++ (list_of print_fileref f.filerefs ++ (list_of print_file f.files
    ++ bytes_with_count f.show)))))))))))
