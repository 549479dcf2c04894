use Rattle.vm_exec.proofs.FitLemmas.{released-map}
use Rattle.vm_exec.proofs.machine.Machine.release.Goals as goal

pub returns-in-Ok-clause-fit : goal.returns-in-Ok-clause-fit
returns-in-Ok-clause-fit c = λ fit.
    c.end_at.ensures.fit
    (released-map c.args.self.now c.args.at c.start-start.result c.memory_end-end.result
    c.free.new.self c.in-Ok.ensures.value
    c.start-start.ensures.value c.start-start.ensures.within c.memory_end-end.ensures.value
    c.memory_end-end.ensures.limit c.memory_end-end.ensures.heap fit)
    fit.frames fit.frame fit.waits fit.still
