-- The parts of a machine give it back.
use Rattle.std.proofs.Common.{◌≡◌, ℕ, ◌≤◌, Bool, cond, nat_le, List}
use Rattle.std.proofs.Common.{length, Option, Some, None, refl, ap, sym, ◌∙◌, arith, true}
use Rattle.std.proofs.lemmas.Bool.Decides.{nat_tests}
use Rattle.std.specs.Prelude.{IsTrue}
use Rattle.snap_fields.specs.Reading.{◌>>=◌}
use Rattle.glulx_image.specs.Header.{IsLaidOut, stack_size, start_function, string_table}
use Rattle.glulx_image.specs.Checksum.{verified}
use Rattle.quetzal.specs.Save.{origin}
use Rattle.quetzal.proofs.WriteLemmas.{memory_of_story}
use Rattle.vm_exec.specs.Fields.{machine_of}
use Rattle.vm_exec.specs.Machine.{IsFit, WaitsForNoSave}
use Rattle.vm_exec.specs.Start.{IsOver}
use Rattle.vm_exec.specs.declared.fields.MachineFields.{MachineFields}
use Rattle.vm_exec.specs.declared.machine.Machine.{Machine}
use Rattle.vm_exec.specs.declared.step.Waiting.{Waiting}
use Rattle.vm_exec.specs.declared.step.Waiting.TheVariants.{Store, Stub}
use Rattle.vm_exec.specs.declared.text.Text.{Text}
use Rattle.vm_exec.specs.declared.text.Text.TheVariants.{Off}
use Rattle.vm_heap.specs.HeapMap.{HeapMap, is_heap}
use Rattle.vm_operand.specs.declared.operand.Dest.{Dest}
use Rattle.vm_stack.specs.StackState.{StackState}
use Rattle.vm_undo.specs.Contents.{contents}
use Rattle.vm_undo.proofs.ContentsLemmas.{given_back as given}
use Rattle.snap_machine.specs.Fields.{memory_from_chunk, stack_of}
use Rattle.snap_machine.specs.Fields.{heap_from_fields, undo_of, dest_of_store, fields_with}
use Rattle.snap_machine.specs.Laws.{GivesBackMachine, HasRoms}
use Rattle.snap_machine.specs.Parts.{machine_parts, store, waiting_store}
use Rattle.snap_machine.proofs.UndoLemmas.{same_some, undo_back}
use Rattle.snap_machine.proofs.StoreLemmas.{dest_back}

-- ---- each part gives back what it was made of

memory_back : (image : List ℕ) (m : Machine)
    → IsLaidOut image → IsFit m → IsOver image m → HasRoms m
    → memory_from_chunk image (contents m.memory) ≡ Some m.memory
memory_back image m laid fit over kept =
    given (origin image) m.memory
    (memory_of_story image m.memory laid over.origin fit.map.size kept.memory)

stack_back : (image : List ℕ) (s : StackState)
    → s.limit ≡ stack_size image → length s.bytes ≤ s.limit
    → stack_of image s.bytes s.frame ≡ Some s
stack_back image s limit room =
    let fits : nat_le (length s.bytes) (stack_size image) ≡ true =
    grind (arith, nat_tests, limit, room) in
    rw fits (same s.bytes s.frame (stack_size image) s refl refl (sym limit)) where
      same : (bytes : List ℕ) (frame limit : ℕ) (s : StackState)
          → bytes ≡ s.bytes → frame ≡ s.frame → limit ≡ s.limit
          → ◌≡◌ {A = Option StackState}
          (Some (record { bytes = bytes; frame = frame; limit = limit })) (Some s)
      same bytes frame limit s a b c = rw (a, b, c) refl

heap_back : (h : HeapMap)
    → IsTrue (is_heap h.start h.blocks)
    → heap_from_fields h.start h.blocks ≡ Some h
heap_back h is = ap (λ (t : Bool). cond {A = Option HeapMap} t (Some h) None) is

undo_given : (image : List ℕ) (m : Machine) → IsFit m → IsOver image m → HasRoms m
    → undo_of image (machine_parts m).undo ≡ Some m.undo
undo_given image m fit over kept =
    undo_back image m.undo (fit.map.image ∙ over.origin) kept.undo over.within.limits

-- the store that a machine waits with
abbrev StoreOf : Waiting → Type 0
StoreOf w = (to : Dest) × (Store to ≡ w) × (dest_of_store (waiting_store w) ≡ Some to)

store_back : (w : Waiting) → WaitsForNoSave w → StoreOf w
store_back (Store to) is = (to, refl, dest_back to)
store_back Stub is = absurd is

-- ---- and all together the machine

-- a machine's fields
abbrev fields_of : Machine → Dest → MachineFields
fields_of m to = record {
  memory = m.memory;
  stack = m.stack;
  pc = m.pc;
  mode = m.mode;
  rock = m.rock;
  string_table = m.string_table;
  store = to;
  heap = m.heap;
  undo = m.undo;
  protection = m.protection;
  random = m.random;
}

same_machine : (m : Machine) (text : Text) (waiting : Waiting) (verified start table : ℕ)
    → text ≡ m.text → waiting ≡ m.waiting
    → verified ≡ m.verified → start ≡ m.start_function
    → table ≡ m.first_table
    → record m {
      text = text;
      waiting = waiting;
      verified = verified;
      start_function = start;
      first_table = table;
    }
    ≡ m
same_machine m text waiting verified start table a b c d e = rw (a, b, c, d, e) refl

machine_back : (image : List ℕ) (m : Machine) (to : Dest)
    → IsFit m → IsOver image m → Store to ≡ m.waiting
    → machine_of image (fields_of m to) ≡ m
machine_back image m to fit over waits =
    same_machine m Off (Store to) (verified image) (start_function image) (string_table image)
    (sym fit.still) waits (sym over.verified) (sym over.start_function) (sym over.first_table)

bind_is : {A B : Type 0} {o : Option A} {x : A} {y : Option B} (f : A → Option B)
    → o ≡ Some x → f x ≡ y → (o >>= f) ≡ y
bind_is f e g = ap (λ p. p >>= f) e ∙ g

fields_back : (image : List ℕ) (m : Machine) (to : Dest)
    → IsLaidOut image → IsFit m → IsOver image m
    → length m.stack.bytes ≤ m.stack.limit → HasRoms m → dest_of_store (store m) ≡ Some to
    → fields_with image m.random.seed (machine_parts m) (store m) ≡ Some (fields_of m to)
fields_back image m to laid fit over room kept at =
    bind_is _ (memory_back image m laid fit over kept)
    (bind_is _ (stack_back image m.stack over.limit room)
    (bind_is _ (heap_back m.heap fit.map.heap.heap)
    (bind_is _ (undo_given image m fit over kept)
    (bind_is _ at refl))))

pub given_back : GivesBackMachine
given_back image m laid fit over room kept =
    let to = store_back m.waiting fit.waits in
    let there = fields_back image m to.0 laid fit over room kept to.2 in
    let same = machine_back image m to.0 fit over to.1 in
    record {
      fields = fields_of m to.0;
      found = there;
      same = λ f e. ap (machine_of image) (same_some (sym e ∙ there)) ∙ same;
    }
