use Rattle.vm_exec.proofs.FitLemmas.{state-fit}
use Rattle.vm_exec.proofs.machine.Machine.put_state.Goals as goal

pub returns-in-Ok-load-clause-fit : goal.returns-in-Ok-load-clause-fit
returns-in-Ok-load-clause-fit c =
    state-fit c.args.self.now c.args.state c.spare.new.memory c.load.new.self c.load-2.new.self
    c.as_slice.result.now c.as_slice-2.result.now
    c.as_slice.ensures.value c.as_slice-2.ensures.value c.in_ok-spare.ensures.kept
    c.in-Ok-load.ensures.ok c.in-Ok.ensures.ok c.in-Ok.ensures.kept
