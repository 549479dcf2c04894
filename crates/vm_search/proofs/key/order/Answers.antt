use Rattle.std.proofs.Common.{arith, ◌∙◌, sym}
use Rattle.std.specs.Ordering.{nat_cmp}
use Rattle.vm_search.proofs.KeyLemmas.{tail-byte, tail-byte_below, front_decides, behind_decides}
use Rattle.vm_search.proofs.KeyLemmas.{ap2}
use Rattle.vm_search.proofs.key.order.Goals as goal

pub loop-index-preserved-then-one-other : goal.loop-index-preserved-then-one-other
loop-index-preserved-then-one-other c = record {
  room = omega arith;
  one = tail-byte_below c.loop-index.index c.args.size c.args.left c.byte-one.result
      c.args.memory.now.bytes
      c.loop-index-test.true c.loop-index.invariant.room c.byte-one.ensures.value
      c.byte-one.ensures.within c.loop-index.invariant.one;
  other = tail-byte_below c.loop-index.index c.args.size c.args.right c.byte-other.result
      c.args.memory.now.bytes
      c.loop-index-test.true c.loop-index.invariant.room c.byte-other.ensures.value
      c.byte-other.ensures.within c.loop-index.invariant.other;
  sofar = c.cmp-order.ensures
      ∙ front_decides c.byte-one.result c.byte-other.result _ _ _ c.loop-index.invariant.one
      c.loop-index.invariant.other c.if-one-other.true
      ∙ ap2 nat_cmp
      (sym (tail-byte c.loop-index.index c.args.size c.args.left c.byte-one.result
      c.args.memory.now.bytes
      c.loop-index-test.true c.loop-index.invariant.room c.byte-one.ensures.value))
      (sym (tail-byte c.loop-index.index c.args.size c.args.right c.byte-other.result
      c.args.memory.now.bytes
      c.loop-index-test.true c.loop-index.invariant.room c.byte-other.ensures.value));
}

pub loop-index-preserved : goal.loop-index-preserved
loop-index-preserved c = record {
  room = omega arith;
  one = tail-byte_below c.loop-index.index c.args.size c.args.left c.byte-one.result
      c.args.memory.now.bytes
      c.loop-index-test.true c.loop-index.invariant.room c.byte-one.ensures.value
      c.byte-one.ensures.within c.loop-index.invariant.one;
  other = tail-byte_below c.loop-index.index c.args.size c.args.right c.byte-other.result
      c.args.memory.now.bytes
      c.loop-index-test.true c.loop-index.invariant.room c.byte-other.ensures.value
      c.byte-other.ensures.within c.loop-index.invariant.other;
  sofar = c.loop-index.invariant.sofar
      ∙ behind_decides c.byte-one.result c.byte-other.result _ _ _ c.if-one-other.false
      ∙ ap2 nat_cmp
      (sym (tail-byte c.loop-index.index c.args.size c.args.left c.byte-one.result
      c.args.memory.now.bytes
      c.loop-index-test.true c.loop-index.invariant.room c.byte-one.ensures.value))
      (sym (tail-byte c.loop-index.index c.args.size c.args.right c.byte-other.result
      c.args.memory.now.bytes
      c.loop-index-test.true c.loop-index.invariant.room c.byte-other.ensures.value));
}
