use Rattle.std.proofs.Common.{◌∙◌, ap, arith, refl, ℕ, ◌+◌, ◌-◌}
use Rattle.vm_string.specs.Walk.{walk}
use Rattle.vm_string.proofs.FrontLemmas.{walk_fork}
use Rattle.vm_string.proofs.descent.descend.Goals as goal

pub loop-left-preserved : goal.loop-left-preserved
loop-left-preserved c = record {
  same = λ root.
      ap (λ (node : ℕ). walk (c.loop-left.left - 1) c.args.memory.now root
      (record c.loop-left.way { node = node; here = c.loop-left.way.here + 1 })) c.chosen.ensures
      ∙ walk_fork c.loop-left.left
      c.front_of-front.result.now c.args.memory.now root c.bit_of.result c.loop-left.way
      (omega arith) c.front_of-front.ensures.value (c.if-is_fork.ensures.inside refl)
      (c.if-is_fork.ensures.kind refl) c.if-way-front.true c.bit_of.ensures.value
      ∙ c.loop-left.invariant.same root;
  fit = record {
    start = c.loop-left.invariant.fit.start;
    here = omega arith;
    taken = c.loop-left.invariant.fit.taken;
  };
}
