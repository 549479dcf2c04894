use Rattle.vm_exec.proofs.FitLemmas.{allocated-map}
use Rattle.vm_exec.proofs.machine.Machine.allocate.Goals as goal

pub returns-in_ok-end_at-in-Ok-Some-clause-fit : goal.returns-in_ok-end_at-in-Ok-Some-clause-fit
returns-in_ok-end_at-in-Ok-Some-clause-fit c = λ fit.
    c.in_ok-end_at-in-Ok-Some.ensures.fit
    (allocated-map c.args.self.now c.size-end.result c.args.size c.in-Ok-Some.at
    c.end-end.result c.in-Ok-Some.field-0 c.malloc.new.self
    c.size-end.ensures.value c.in-Ok-Some.ensures.ok c.in-Ok-Some.field-0-is
    c.end-end.ensures.value c.end-end.ensures.within c.end-end.ensures.heap fit)
    fit.frames fit.frame fit.waits fit.still
