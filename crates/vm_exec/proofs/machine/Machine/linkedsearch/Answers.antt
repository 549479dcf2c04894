use Rattle.std.proofs.Common.{ℕ, Result, sym, subst, slice_index}
use Rattle.vm_exec.specs.Answer.{Does}
use Rattle.vm_exec.specs.declared.machine.Machine.{Machine}
use Rattle.vm_exec.specs.declared.step.Done.{Done}
use Rattle.vm_exec.proofs.SearchLemmas.{linked_of}
use Rattle.vm_exec.proofs.machine.Machine.linkedsearch.Goals as goal

pub returns-clause-does : goal.returns-clause-does
returns-clause-does c =
    subst (λ (r : Result (Machine × Done) ℕ). Does r c.put_found.new.self c.put_found.result)
    (sym (linked_of c.args.left c.args.self.now
    (slice_index c.args.args.now) c.args.to c.linked_query-query.result c.linked-found.result
    c.linked_query-query.ensures c.linked-found.ensures.value))
    c.put_found.ensures.does
