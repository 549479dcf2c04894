use Rattle.std.proofs.Common.{rules}
use Rattle.vm_exec.proofs.FitLemmas.{saving_saved}
use Rattle.vm_exec.proofs.machine.Machine.saved.Goals as goal

pub returns-clause-saving : goal.returns-clause-saving
returns-clause-saving c = λ saving. saving_saved c.args.self.now _ (search rules) saving
