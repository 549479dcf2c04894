use Rattle.std.proofs.Common.{drop, length-drop, arith, sym, ◌∙◌}
use Rattle.vm_stack.proofs.SavedLemmas.{more, none}
use Rattle.vm_stack.proofs.saved.format_len.Goals as goal

pub loop-at-preserved : goal.loop-at-preserved
loop-at-preserved c =
    let left = c.loop-at-test.true in
    record {
      same = c.loop-at.invariant.same
          ∙ more c.args.bytes.now c.loop-at.at (omega (arith, left)) c.if-bytes-at-eq0.false
          (sym c.is_local_type.ensures ∙ c.if-not-is_local_type.false);
      inside = omega (arith, left);
    }

pub returns-clause-value : goal.returns-clause-value
returns-clause-value c =
    let left = c.loop-at-test.false in
    let l = length-drop c.loop-at.at c.args.bytes.now in
    sym (c.loop-at.invariant.same
    ∙ none c.loop-at.at (drop c.loop-at.at c.args.bytes.now) (omega (arith, left, l)))
