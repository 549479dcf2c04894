-- Each call of a machine keeps what memory has of its image, and leaves a machine of the story one.
use Rattle.std.proofs.Common.{◌≡◌, ◌∙◌, arith, ℕ, Bool, true, false, List, [], length, refl, sym}
use Rattle.std.proofs.Common.{subst, ap, Result, Ok, Err}
use Rattle.std.specs.Prelude.{IfOk, IsTrue, OnOk}
use Rattle.vm_memory.specs.MemoryMap.{MemoryMap, origin_of}
use Rattle.vm_memory.specs.declared.fault.Trap.{Trap}
use Rattle.vm_stack.specs.StackState.{StackState}
use Rattle.vm_flow.specs.Call.{function_called}
use Rattle.vm_undo.specs.SavedState.{IsSavedOf}
use Rattle.vm_undo.specs.declared.saved.Saved.{Saved}
use Rattle.vm_exec.specs.Answer.{Changes, Does}
use Rattle.vm_exec.specs.Fault.{flowed}
use Rattle.vm_exec.specs.Machine.{IsFit, IsMapped, IsSoundMachine, IsWithin, KeepsImage}
use Rattle.vm_exec.specs.Row as row
use Rattle.vm_exec.specs.Rows.Undo as undo
use Rattle.vm_exec.specs.Start.{IsOver, empty_stack, finished_at, image_memory}
use Rattle.glulx_image.specs.Header.{stack_size}
use Rattle.vm_exec.specs.declared.machine.Machine.{Machine}
use Rattle.vm_exec.specs.declared.step.Step.{Step}
use Rattle.vm_exec.specs.declared.step.Waiting as w
use Rattle.vm_exec.specs.declared.text.Text as t
use Rattle.vm_exec.proofs.KeepingLemmas.{Base, Fixed, Has, HasFirst, Over, OverFirst, fixed_of}
use Rattle.vm_exec.proofs.KeepingLemmas.{has-called, ok-flowed}
use Rattle.vm_exec.proofs.KeepingRows.{over-told}
use Rattle.vm_exec.proofs.KeepingStates.{over-came_back, over-finished, over-with_state}

-- what a machine keeps, known to be within its limits or not
abbrev base_of : Bool → Machine → Base
base_of b m = record {
  origin = origin_of m.memory;
  limit = m.stack.limit;
  fixed = fixed_of m;
  bounded = b;
}

keeps : (b : Bool) (m new : Machine) → Over (base_of b m) new → KeepsImage m new
keeps b m new k = record {
  origin = k.memory;
  limit = k.limit;
  verified = ap (λ (f : Fixed). f.verified) k.fixed;
  start_function = ap (λ (f : Fixed). f.start_function) k.fixed;
  first_table = ap (λ (f : Fixed). f.first_table) k.fixed;
  seed = ap (λ (f : Fixed). f.seed) k.fixed;
}

lies : (image : List ℕ) (m new : Machine)
    → IsOver image m → Over (base_of true m) new
    → IsOver image new
lies image m new over k =
    let kept = keeps true m new k in
    record {
      origin = sym kept.origin ∙ over.origin;
      limit = sym kept.limit ∙ over.limit;
      verified = sym kept.verified ∙ over.verified;
      start_function = sym kept.start_function ∙ over.start_function;
      first_table = sym kept.first_table ∙ over.first_table;
      within = subst (λ (n : ℕ). IsWithin n new.mode new.undo.states) over.limit (k.within refl);
    }

ok-on : {A E : Type 0} (P Q : Type 0) (r : Result A E) → OnOk r P → (P → Q) → OnOk r Q
ok-on P Q (Ok x) h f = f h
ok-on P Q (Err e) h f = tt

abbrev Mapped : Machine → Type 0
Mapped m = IsMapped (origin_of m.memory) (length m.memory.bytes) m.heap m.undo

-- a machine keeps what it has itself, within its limits where it is known to be
begins : (b : Bool) (m : Machine)
    → Mapped m → (IsTrue b → IsWithin m.stack.limit m.mode m.undo.states) → Over (base_of b m) m
begins b m map within = record {
  memory = refl;
  limit = refl;
  undo = λ k s l. sym (map.undo k s l).image;
  fixed = refl;
  within = within;
}

free : (m : Machine) → Mapped m → Over (base_of false m) m
free m map = begins false m map (λ t. absurd cc)

bound : (image : List ℕ) (m : Machine) → Mapped m → IsOver image m → Over (base_of true m) m
bound image m map over =
    begins true m map
    (λ t. subst (λ (n : ℕ). IsWithin n m.mode m.undo.states) (sym over.limit) over.within)

stepped : (b : Bool) (left : ℕ) (m new : Machine) (x : t.Text) (r : Result Step Trap)
    → Does (row.step_within left (row.charged (row.due m x))) new r
    → Over (base_of b m) m
    → OnOk r (Over (base_of b m) new)
stepped b left m new x (Ok s) e over =
    subst (λ (y : Result (Machine × Step) ℕ). IfOk y (OverFirst (base_of b m))) e
    (over-told left m x over).holds
stepped b left m new x (Err t) e over = tt

pub step_keeps : (left : ℕ) (m new : Machine) (x : t.Text) (r : Result Step Trap)
    → Does (row.step_within left (row.charged (row.due m x))) new r
    → IsSoundMachine m → OnOk r (KeepsImage m new)
step_keeps left m new x r e sound =
    ok-on _ _ r (stepped false left m new x r e (free m sound.map)) (keeps false m new)

pub step_over : (image : List ℕ) (left : ℕ) (m new : Machine) (x : t.Text) (r : Result Step Trap)
    → Does (row.step_within left (row.charged (row.due m x))) new r
    → IsSoundMachine m → IsOver image m
    → OnOk r (IsOver image new)
step_over image left m new x r e sound over =
    ok-on _ _ r (stepped true left m new x r e (bound image m sound.map over))
    (lies image m new over)

changed : (b : Bool) (m new : Machine) (should : Result Machine ℕ) (r : Result (Unit {0}) Trap)
    → IfOk should (Over (base_of b m))
    → Changes should new r → OnOk r (Over (base_of b m) new)
changed b m new should (Ok x) h e =
    subst (λ (y : Result Machine ℕ). IfOk y (Over (base_of b m))) e h
changed b m new should (Err t) h e = tt

-- a result was stored, or a save's stub taken
done : (b : Bool) (m new : Machine) (w : w.Waiting) (value : ℕ) (r : Result (Unit {0}) Trap)
    → Changes (finished_at m w value) new r
    → Over (base_of b m) m → OnOk r (Over (base_of b m) new)
done b m new w value r e over =
    changed b m new (finished_at m w value) r
    (over-finished m w value over).holds e

pub finish_keeps : (m new : Machine) (w : w.Waiting) (value : ℕ) (r : Result (Unit {0}) Trap)
    → Changes (finished_at m w value) new r
    → Mapped m
    → OnOk r (KeepsImage m new)
finish_keeps m new w value r e map =
    ok-on _ _ r (done false m new w value r e (free m map)) (keeps false m new)

pub finish_over : (image : List ℕ) (m new : Machine) (w : w.Waiting) (value : ℕ)
    (r : Result (Unit {0}) Trap)
    → Changes (finished_at m w value) new r
    → Mapped m
    → IsOver image m → OnOk r (IsOver image new)
finish_over image m new w value r e map over =
    ok-on _ _ r (done true m new w value r e (bound image m map over)) (lies image m new over)

-- a saved state was put in place, and its stub taken
put_back : (b : Bool) (m mid new : Machine) (s : Saved) (x : ℕ) (r : Result (Unit {0}) Trap)
    → undo.with_state m s ≡ Ok mid
    → Changes (undo.came_back mid x) new r
    → Over (base_of b m) m
    → IsSavedOf (origin_of m.memory) s
    → OnOk r (Over (base_of b m) new)
put_back b m mid new s x r put back over h =
    changed b m new (undo.came_back mid x) r
    (over-came_back mid x (subst (λ (y : Result Machine ℕ). IfOk y (Over (base_of b m))) put
    (over-with_state m s over (sym h.image)).holds)).holds back

pub resume_keeps : (m mid new : Machine) (s : Saved) (x : ℕ) (r : Result (Unit {0}) Trap)
    → undo.with_state m s ≡ Ok mid
    → Changes (undo.came_back mid x) new r → IsFit m
    → IsSavedOf (origin_of m.memory) s
    → OnOk r (KeepsImage m new)
resume_keeps m mid new s x r put back f h =
    ok-on _ _ r (put_back false m mid new s x r put back (free m f.map) h) (keeps false m new)

pub resume_over : (image : List ℕ) (m mid new : Machine) (s : Saved) (x : ℕ)
    (r : Result (Unit {0}) Trap)
    → undo.with_state m s ≡ Ok mid
    → Changes (undo.came_back mid x) new r → IsFit m
    → IsSavedOf (origin_of m.memory) s → IsOver image m
    → OnOk r (IsOver image new)
resume_over image m mid new s x r put back f h over =
    ok-on _ _ r (put_back true m mid new s x r put back (bound image m f.map over) h)
    (lies image m new over)

-- no state is kept, and output goes nowhere
pub none_within : (n : ℕ) → IsWithin n 0 []
none_within n = record {
  system = omega arith;
  limits = record { few = omega arith; light = omega arith };
  held = λ k d l. absurd (omega (arith, l));
}

-- the machine with which a story begins lies over its image
pub started_over : (image : List ℕ) (memory : MemoryMap) (stack new : StackState) (at pc : ℕ)
    → ◌≡◌ {A = Result MemoryMap ℕ} (Ok (image_memory image)) (Ok memory)
    → ◌≡◌ {A = Result StackState ℕ} (Ok (empty_stack image)) (Ok stack)
    → flowed (function_called memory stack at []) ≡ Ok (new, pc)
    → (origin_of memory ≡ origin_of (image_memory image)) × (new.limit ≡ stack_size image)
started_over image memory stack new at pc m s e =
    let same : image_memory image ≡ memory = cc in
    let empty : empty_stack image ≡ stack = cc in
    let n = stack_size image in
    let has : Has n stack = ap (λ (t : StackState). t.limit) empty in (
      ap origin_of (sym same),
      sym (subst (λ (y : Result (StackState × ℕ) ℕ). IfOk y (HasFirst n)) e
          (ok-flowed (has-called memory stack at [] has)).holds),
    )
