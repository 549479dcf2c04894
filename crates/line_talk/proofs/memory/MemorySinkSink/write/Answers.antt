use Rattle.line_talk.proofs.MemoryLemmas.{failed_so}
use Rattle.line_talk.proofs.memory.MemorySinkSink.write.Goals as goal

pub returns-then-contains-clause-listed : goal.returns-then-contains-clause-listed
returns-then-contains-clause-listed c =
    failed_so _ _ _ c.contains.result c.saturating_add-self.ensures c.if-contains.true
    (rw c.deref.ensures.value at c.contains.ensures.value)
