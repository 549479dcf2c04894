use Rattle.std.proofs.Common.{rules, ◌∙◌}
use Rattle.quetzal.specs.Chunks.{now_of}
use Rattle.quetzal.proofs.ReadLemmas.{state_of}
use Rattle.quetzal.proofs.reader.read.Goals as goal

pub returns-clause-kept : goal.returns-clause-kept
returns-clause-kept c =
    state_of c.args.image.now c.in_ok-parts.parts.stack.now c.of.result c.in_ok-memory.memory
    c.in_ok-heap.heap (now_of c.in_ok-parts.parts.heap) _ _ c.endmem.ensures.kept c.in_ok-memory.ensures.memory (search rules)
    (c.of.ensures.value ∙ c.in_ok-stack.ensures.items) c.endmem.ensures.value c.size.ensures.value
    c.in_ok-heap.ensures.exact
