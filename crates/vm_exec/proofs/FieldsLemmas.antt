-- The machine of its fields is fit where they are.
use Rattle.std.proofs.Common.{◌≡◌, ◌≤◌, ◌∙◌, ℕ, List, length, ap, refl}
use Rattle.glulx_image.specs.Header.{IsLaidOut, endmem, stack_size}
use Rattle.vm_memory.specs.MemoryMap.{Origin, origin_of}
use Rattle.vm_stack.specs.Chain.{Chain, HasFrame}
use Rattle.vm_undo.specs.SavedState.{IsHeapOver, IsSize}
use Rattle.vm_undo.specs.UndoList.{KeepLimits, KeepsOf}
use Rattle.vm_exec.specs.Fields.{machine_of, store_fields}
use Rattle.vm_exec.specs.Rules.{stub_for}
use Rattle.vm_exec.specs.declared.machine.Machine.{Machine}
use Rattle.vm_operand.specs.declared.operand.Dest.{Dest}
use Rattle.vm_operand.specs.declared.operand.Dest.TheVariants.{Discard, At, Local, Push}
use Rattle.vm_exec.specs.Machine.{IsFit}
use Rattle.vm_exec.specs.Start.{IsOver, image_memory}
use Rattle.vm_exec.specs.declared.fields.MachineFields.{MachineFields}

pub fit_by : (image : List ℕ) (f : MachineFields) → IsLaidOut image
    → origin_of f.memory ≡ origin_of (image_memory image)
    → IsSize f.memory.endmem (length f.memory.bytes)
    → IsHeapOver f.memory.endmem (length f.memory.bytes) f.heap.start f.heap.blocks
    → f.stack.limit ≡ stack_size image → Chain f.stack × HasFrame f.stack → f.mode ≤ 2
    → KeepsOf (origin_of f.memory) (stack_size image) f.undo → KeepLimits f.undo.states
    → IsFit (machine_of image f) × IsOver image (machine_of image f)
fit_by image f laid origin size heap limit frames mode keeps limits =
    let end : f.memory.endmem ≡ endmem image = ap Origin.endmem origin in (
      record {
        map = record {
          page = rw end laid.end_page;
          size = size;
          heap = heap;
          image = keeps.image;
          undo = λ k d l. (keeps.states k d l).0;
        };
        frames = frames.0;
        frame = frames.1;
        waits = tt;
        still = refl;
      },
      record {
        origin = origin;
        limit = limit;
        verified = refl;
        start_function = refl;
        first_table = refl;
        within = record {
          system = mode;
          limits = limits;
          held = λ k d l. (keeps.states k d l).1;
        };
      },
    )

pub undo_of : (image : List ℕ) (f : MachineFields)
    → IsFit (machine_of image f)
    → IsOver image (machine_of image f)
    → KeepsOf (origin_of f.memory) (stack_size image) f.undo
undo_of image f fit over = record {
  image = fit.map.image;
  states = λ k d l. (fit.map.undo k d l, over.within.held k d l);
}

stub_at : (m : Machine) (to : Dest)
    → record {
      kind = (store_fields to).0;
      at = (store_fields to).1;
      pc = m.pc;
      frame = m.stack.frame;
    }
    ≡ stub_for m to
stub_at m Discard = refl
stub_at m (At a) = refl
stub_at m (Local o) = refl
stub_at m Push = refl

-- a stub of a store's fields
pub stub_is : (m : Machine) (to : Dest) (kind at : ℕ) → ◌≡◌ {A = ℕ × ℕ} (kind, at) (store_fields to)
    → record { kind = kind; at = at; pc = m.pc; frame = m.stack.frame } ≡ stub_for m to
stub_is m to kind at e =
    ap (λ (x : ℕ × ℕ). record { kind = x.0; at = x.1; pc = m.pc; frame = m.stack.frame }) e
    ∙ stub_at m to
