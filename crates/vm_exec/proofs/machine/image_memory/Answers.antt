use Rattle.vm_exec.proofs.WithinLemmas.{image-mapped}
use Rattle.vm_exec.proofs.machine.image_memory.Goals as goal

pub returns-in-Ok-clause-map : goal.returns-in-Ok-clause-map
returns-in-Ok-clause-map c =
    rw (
      c.in-Ok.ensures.value,
      c.extstart.ensures.value,
      c.ramstart.ensures.value,
      c.endmem.ensures.value,
      c.bytes.ensures.value,
    )
    (image-mapped c.args.image.now c.extstart.ensures.kept)
