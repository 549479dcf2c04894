use Rattle.std.proofs.Common.{rules, slice_index}
use Rattle.vm_exec.specs.Rules as table
use Rattle.vm_exec.specs.Rows.Branch.{branch_work}
use Rattle.vm_exec.proofs.WithinLemmas.{free_is_within}
use Rattle.vm_exec.proofs.machine.Machine.branch_op.Goals as goal

pub returns-in-Jump-clause-within : goal.returns-in-Jump-clause-within
returns-in-Jump-clause-within c =
    free_is_within (table.branches c.args.self.now (slice_index c.args.args.now 0))
    c.branch-self.new.self c.args.left c.branch-self.result c.branch-self.ensures.does

pub returns-in-Jz-clause-within : goal.returns-in-Jz-clause-within
returns-in-Jz-clause-within c =
    free_is_within (table.when c.args.self.now c.holds-holds.result (slice_index c.args.args.now 1))
    c.branch_if.new.self c.args.left c.branch_if.result c.branch_if.ensures.does

pub returns-in-Jeq : goal.returns-in-Jeq
unfolding branch_work
returns-in-Jeq c = record {
  does = search rules;
  fit = c.branch_if-in-Jeq.ensures.fit;
  within =
      free_is_within
      (table.when c.args.self.now c.holds-holds.result (slice_index c.args.args.now 2))
      c.branch_if-in-Jeq.new.self c.args.left c.branch_if-in-Jeq.result
      c.branch_if-in-Jeq.ensures.does;
}
