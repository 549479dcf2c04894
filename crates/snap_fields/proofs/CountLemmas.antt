-- Fields that have bytes have lists whose counts have four.
use Rattle.std.proofs.Common.{List, [], ◌∷◌}
use Rattle.std.specs.List.{AllByRecursion}
use Rattle.snap_fields.specs.Counts.{CountsList, CountsWindow, HasCells}
use Rattle.snap_fields.specs.Counts.{CountsRequest, CountsTarget, HasCounts}
use Rattle.snap_fields.specs.Numbers.{IsListOf}
use Rattle.snap_fields.specs.Printable.{IsContent, IsGlkRequest, IsWindow, IsTarget, IsPrintable}
use Rattle.snap_fields.specs.declared.fields.Fields.{Fields}
use Rattle.snap_fields.specs.declared.glk.SnapArea.{SnapArea}
use Rattle.snap_fields.specs.declared.glk.SnapContent.{SnapContent}
use Rattle.snap_fields.specs.declared.glk.SnapContent.TheVariants.{Pair, Blank, Buffer, Grid}
use Rattle.snap_fields.specs.declared.glk.SnapRequest.{SnapRequest}
use Rattle.snap_fields.specs.declared.glk.SnapRequest.TheVariants.{Nothing, Line, Char}
use Rattle.snap_fields.specs.declared.glk.SnapTarget.{SnapTarget}
use Rattle.snap_fields.specs.declared.glk.SnapTarget.TheVariants as target
use Rattle.snap_fields.specs.declared.glk.SnapWindow.{SnapWindow}

each : {A : Type 0} (P Q : A → Type 0) → ((x : A) → P x → Q x) → (xs : List A)
    → AllByRecursion P xs → AllByRecursion Q xs
each P Q f [] h = tt
each P Q f (x ∷ xs) h = (f x h.0, each P Q f xs h.1)

list : {A : Type 0} (Is Counts : A → Type 0) → ((x : A) → Is x → Counts x) → (xs : List A)
    → IsListOf Is xs → CountsList Counts xs
list Is Counts f xs h = record { count = h.0; items = each Is Counts f xs h.1 }

cells : (area : SnapArea) (content : SnapContent) → IsContent area content → HasCells area content
cells area (Pair method size key first second) h = tt
cells area Blank h = tt
cells area Buffer h = tt
cells area (Grid x y codes) h = h.2

request : (r : SnapRequest) → IsGlkRequest r → CountsRequest r
request Nothing h = tt
request (Line unicode buffer maximum initial echo terminators) h = h.3.0
request (Char unicode) h = tt

goes_to : (t : SnapTarget) → IsTarget t → CountsTarget t
goes_to target.Window h = tt
goes_to (target.Memory buffer size) h = tt
goes_to (target.File usage name) h = h.1.0

window : (w : SnapWindow) → IsWindow w → CountsWindow w
window w h = record {
  terminators = h.terminators.0;
  cells = cells w.area w.content h.content;
  request = request w.request h.request;
}

pub has_counts : (f : Fields) → IsPrintable f → HasCounts f
has_counts f h = record {
  machine = record {
    memory = h.machine.memory.0;
    stack = h.machine.stack.0;
    heap = h.machine.heap.0;
  };
  undo = list _ _ (λ s p. record {
    contents = p.contents.0;
    stack = p.stack.0;
    heap = p.heap.0;
  }) f.undo h.undo;
  windows = list _ _ window f.windows h.windows;
  streams = list _ _ (λ s p. goes_to s.target p.target) f.streams h.streams;
  filerefs = list _ _ (λ r p. p.name.0) f.filerefs h.filerefs;
  files = list _ _ (λ x p. record { name = p.name.0; bytes = p.bytes.0 }) f.files h.files;
  show = h.show.0;
}
