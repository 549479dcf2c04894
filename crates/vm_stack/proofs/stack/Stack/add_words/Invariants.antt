use Rattle.std.proofs.Common.{◌≡◌, ◌≤◌, ◌-◌, ◌+◌, ◌*◌, ◌++◌, length, take, replicate}
use Rattle.vm_stack.specs.StackState.{words}
use Rattle.vm_stack.proofs.stack.Stack.add_words.Given as goal

abbrev pub invariant-loop-put : goal.invariant-loop-put
invariant-loop-put l = record {
  same : l.self ≡ record l.fn.self {
    bytes = l.fn.self.bytes ++ words (take l.put (l.values ++ replicate l.count 0));
  };
  inside : l.put ≤ l.count;
  long : length l.self.bytes ≡ length l.fn.self.bytes + 4 * l.put;
}

abbrev pub decreases-loop-put : goal.decreases-loop-put
decreases-loop-put l = l.count - l.put
