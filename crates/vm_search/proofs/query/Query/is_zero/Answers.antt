use Rattle.vm_search.specs.Key.{key_place}
use Rattle.vm_search.proofs.KeyLemmas.{not_zero, zero_digit}
use Rattle.vm_search.proofs.query.Query.is_zero.Goals as goal

pub returns-then-byte-ne0 : goal.returns-then-byte-ne0
returns-then-byte-ne0 c = record {
  value = not_zero c.loop-index.index c.args.self.now.key_size
      (key_place c.args.self.now c.args.at) c.byte.result _ c.args.memory.now.bytes
      c.loop-index-test.true c.byte.ensures.value c.if-byte-ne0.true c.loop-index.invariant.sofar;
}

pub loop-index-preserved : goal.loop-index-preserved
loop-index-preserved c = record {
  sofar = zero_digit c.loop-index.index c.args.self.now.key_size
      (key_place c.args.self.now c.args.at) c.byte.result _ c.args.memory.now.bytes
      c.loop-index-test.true c.byte.ensures.value c.if-byte-ne0.false c.loop-index.invariant.sofar;
}
