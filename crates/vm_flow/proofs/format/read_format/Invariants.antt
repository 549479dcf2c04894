use Rattle.std.proofs.Common.{◌≡◌, ◌≤◌, ◌+◌, ◌-◌, ℕ, List, ◌++◌, length, drop}
use Rattle.vm_stack.specs.Chain.{IsFormat}
use Rattle.vm_flow.specs.Function.{format_in, prepended}
use Rattle.vm_flow.proofs.format.read_format.Given as goal

abbrev pub invariant-loop-format : goal.invariant-loop-format
invariant-loop-format l = record {
  same : format_in l.function (l.function + 1) (drop (l.function + 1) l.memory.bytes)
      ≡ prepended l.format.items (format_in l.function l.at (drop l.at l.memory.bytes));
  place : l.at ≡ l.function + 1 + length l.format.items;
  limit : l.at ≤ 16777216;
  pairs : (rest : List ℕ) → IsFormat rest → IsFormat (l.format.items ++ rest);
}

abbrev pub decreases-loop-format : goal.decreases-loop-format
decreases-loop-format l = 16777216 - l.at
