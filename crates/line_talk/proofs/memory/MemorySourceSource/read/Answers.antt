use Rattle.std.proofs.Common.{◌+◌, ◌≤◌, length, arith, ap}
use Rattle.line_talk.proofs.MemoryLemmas.{read_told, read_count}
use Rattle.line_talk.proofs.memory.MemorySourceSource.read.Goals as goal

fits : (c : goal.After-self-2-1)
    → c.args.self.now.at + c.min-count.result ≤ length c.args.self.now.bytes.items
fits c =
    omega (
      arith,
      c.args.self.now.in_range,
      c.len.ensures,
      c.min.ensures,
      c.min-count.ensures,
      c.deref-2.ensures.len,
      ap length c.deref-2.ensures.value,
    )

pub returns-clause-value : goal.returns-clause-value
returns-clause-value c = record {
  told =
      read_told _ _ _ _ _ (fits c) (rw c.deref-2.ensures.value at c.copy_from_slice.ensures.after);
  count =
      read_count _ _ _ _ _ (fits c)
      (omega (arith, c.len.ensures, c.deref-2.ensures.len, ap length c.deref-2.ensures.value))
      (rw c.deref-2.ensures.value at c.copy_from_slice.ensures.after);
  later = omega arith;
}
