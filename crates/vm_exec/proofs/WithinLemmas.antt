-- What the work of an opcode costs, and the memory with which a machine begins.
use Rattle.std.proofs.Common.{◌≡◌, ◌≤◌, ℕ, ◌-◌, length, replicate, take, List, []}
use Rattle.std.proofs.Common.{Result, Ok, Err, IfOk, refl, arith, ap, sym, ◌∙◌}
use Rattle.std.proofs.lemmas.List.{length-append, length-replicate, length-take-le}
use Rattle.glulx_image.specs.Header.{IsLaidOut, extstart, endmem}
use Rattle.vm_memory.specs.MemoryMap.{original, origin_of}
use Rattle.vm_exec.specs.Machine.{IsMapped, no_heap, no_states}
use Rattle.vm_exec.specs.Start.{image_memory}
use Rattle.vm_exec.proofs.FitLemmas.{none_over}
use Rattle.vm_memory.specs.declared.fault.Trap.{Trap}
use Rattle.vm_exec.specs.Rules.{Rule}
use Rattle.vm_exec.specs.Rows.Work.{costing, DoesAtNoCost}
use Rattle.vm_exec.specs.declared.machine.Machine.{Machine}
use Rattle.vm_exec.specs.declared.step.Done.{Done}

abbrev cost_in : Result (Machine × Done) ℕ → ℕ
cost_in (Ok x) = x.1.cost
cost_in (Err n) = 0

costing_nothing : (r : Rule) → cost_in (costing 0 r) ≡ 0
costing_nothing (Ok x) = refl
costing_nothing (Err n) = refl

-- what is free costs no more than is left
pub free_is_within : (r : Rule) (new : Machine) (left : ℕ) (result : Result Done Trap)
    → DoesAtNoCost r new result
    → IfOk result (λ done. done.cost ≤ left)
free_is_within r new left (Ok done) told =
    let nothing : done.cost ≡ 0 = sym (ap cost_in told) ∙ costing_nothing r in
    omega (arith, nothing)
free_is_within r new left (Err trap) told = tt

-- the memory of an image has ENDMEM bytes
original-size : (rom : List ℕ) (endmem : ℕ)
    → length rom ≤ endmem
    → length (original rom endmem) ≡ endmem
original-size rom endmem inside =
    let zeros : length (replicate {A = ℕ} (endmem - length rom) 0) ≡ endmem - length rom =
    length-replicate {A = ℕ} (endmem - length rom) 0 in
    length-append rom (replicate (endmem - length rom) 0) ∙ omega (arith, zeros, inside)

pub image-mapped : (file : List ℕ)
    → IsLaidOut file
    → IsMapped (origin_of (image_memory file)) (length (image_memory file).bytes) no_heap
    (no_states (origin_of (image_memory file)))
image-mapped file laid =
    let rom : length (take (extstart file) file) ≡ extstart file =
    length-take-le (extstart file) file laid.ext_inside in
    let size : length (original (take (extstart file) file) (endmem file)) ≡ endmem file =
    original-size (take (extstart file) file) (endmem file) (omega (arith, rom, laid.ext_below)) in
    record {
      page = laid.end_page;
      size = record {
        pages = rw size laid.end_page;
        least = rw size (omega arith);
        limit = rw size laid.end_limit;
      };
      heap = none_over (endmem file) (length (image_memory file).bytes);
      image = refl;
      undo = λ k d l. absurd (omega (arith, l));
    }
