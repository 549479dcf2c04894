use Rattle.std.proofs.Common.{arith}
use Rattle.vm_undo.proofs.RunLemmas.{pairs_taken}
use Rattle.vm_undo.proofs.runs.push_pairs.Goals as goal

pub loop-done-preserved : goal.loop-done-preserved
loop-done-preserved c = record {
  within = omega arith;
  pushed = pairs_taken c.args.out.now.items c.loop-done.out.items c.extend_from_slice.new.self.items
      c.loop-done.done c.min-some.result (omega arith) c.loop-done.invariant.pushed
      c.in_ok-extend_from_slice.ensures.items;
}
