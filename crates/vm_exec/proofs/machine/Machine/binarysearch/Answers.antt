use Rattle.std.proofs.Common.{ℕ, Result, sym, subst, slice_index}
use Rattle.vm_exec.specs.Answer.{Does}
use Rattle.vm_exec.specs.declared.machine.Machine.{Machine}
use Rattle.vm_exec.specs.declared.step.Done.{Done}
use Rattle.vm_exec.proofs.SearchLemmas.{binary_of}
use Rattle.vm_exec.proofs.machine.Machine.binarysearch.Goals as goal

pub returns-clause-does : goal.returns-clause-does
returns-clause-does c =
    subst (λ (r : Result (Machine × Done) ℕ). Does r c.put_found.new.self c.put_found.result)
    (sym (binary_of c.args.left c.args.self.now
    (slice_index c.args.args.now) c.args.to c.query_of-query.result c.binary-found.result
    c.query_of-query.ensures c.binary-found.ensures.value))
    c.put_found.ensures.does
