use Rattle.std.proofs.Common.{rules, arith, ◌∙◌, sym, ◌≤◌, ◌+◌, drop}
use Rattle.std.proofs.Math.ListN.{get_or}
use Rattle.vm_heap.specs.HeapMap.{block_end}
use Rattle.vm_heap.proofs.HeapLemmas.{none, in_order-limit, in_order-end}
use Rattle.vm_heap.proofs.FitLemmas.{walk-first_fit, walk-stops, walk-ends}
use Rattle.vm_heap.proofs.malloc.first_fit.Goals as goal

pub overflow_add-from : goal.overflow_add-from
overflow_add-from c =
    let l : c.loop-index.at ≤ 16777216 =
    in_order-limit c.loop-index.at
    (drop c.loop-index.index c.args.blocks.now) c.loop-index.invariant.order in
    search rules

pub overflow_add-at : goal.overflow_add-at
overflow_add-at c =
    let l : block_end (get_or c.args.blocks.now c.loop-index.index none) ≤ 16777216 =
    in_order-end c.args.blocks.now c.loop-index.index c.loop-index.at c.loop-index-test.true
    c.loop-index.invariant.order in
    search rules

pub returns-else-from-clause-value : goal.returns-else-from-clause-value
returns-else-from-clause-value c =
    let stop : c.loop-index.at + c.args.size
    ≤ (get_or c.args.blocks.now c.loop-index.index none).at = omega arith in
    sym (walk-first_fit c.args.blocks.now c.args.size c.args.start c.requires.size c.requires.order
    ∙ c.loop-index.invariant.walking
    ∙ walk-stops c.args.blocks.now c.loop-index.index c.args.size c.loop-index.at
    c.loop-index-test.true stop)

pub returns-else-from-clause-within : goal.returns-else-from-clause-within
returns-else-from-clause-within c =
    in_order-limit c.loop-index.at
    (drop c.loop-index.index c.args.blocks.now) c.loop-index.invariant.order

pub returns-after-loop-index-clause-value : goal.returns-after-loop-index-clause-value
returns-after-loop-index-clause-value c =
    sym (walk-first_fit c.args.blocks.now c.args.size c.args.start c.requires.size c.requires.order
    ∙ c.loop-index.invariant.walking
    ∙ walk-ends c.args.blocks.now c.loop-index.index c.args.size c.loop-index.at
    c.loop-index-test.false)
