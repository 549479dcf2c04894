use Rattle.std.proofs.Common.{◌≡◌, drop}
use Rattle.vm_memory.specs.MemoryMap.{number_at}
use Rattle.vm_search.proofs.KeyLemmas.{tail}
use Rattle.vm_search.proofs.query.Query.is_zero.Given as goal

abbrev pub invariant-loop-index : goal.invariant-loop-index
invariant-loop-index l = record {
  sofar : number_at l.self.key_size l.memory.bytes l.place ≡ tail l.index l.self.key_size
      (drop l.place l.memory.bytes);
}
