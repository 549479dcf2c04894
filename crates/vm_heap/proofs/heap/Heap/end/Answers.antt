use Rattle.std.proofs.Common.{rules, ◌≡◌, ◌≤◌, ◌-◌, length, sym, ◌∙◌, ap, IsTrue}
use Rattle.std.proofs.Math.ListN.{get_or}
use Rattle.vm_heap.specs.HeapMap.{heap_end, block_end, is_heap}
use Rattle.vm_heap.proofs.HeapLemmas.{none, last_end, heap_end-last, rounded_within}
use Rattle.vm_heap.proofs.heap.Heap.end.Goals as goal

pub overflow_add-result : goal.overflow_add-result
overflow_add-result c =
    let heap : IsTrue (is_heap c.self.inside.start c.as_slice.result.now) = search rules in
    let last : block_end (get_or c.as_slice.result.now (length c.as_slice.result.now - 1) none)
    ≤ 16777216 =
    last_end c.self.inside.start c.as_slice.result.now heap c.in-len1-up.len_at_least in
    search rules

pub overflow_add-result-in-len1-up : goal.overflow_add-result-in-len1-up
overflow_add-result-in-len1-up c =
    let heap : IsTrue (is_heap c.self.inside.start c.as_slice.result.now) = search rules in
    let last : block_end (get_or c.as_slice.result.now (length c.as_slice.result.now - 1) none)
    ≤ 16777216 =
    last_end c.self.inside.start c.as_slice.result.now heap c.in-len1-up.len_at_least in
    search rules

pub overflow_mul-result : goal.overflow_mul-result
overflow_mul-result c =
    let heap : IsTrue (is_heap c.self.inside.start c.as_slice.result.now) = search rules in
    let last : block_end (get_or c.as_slice.result.now (length c.as_slice.result.now - 1) none)
    ≤ 16777216 =
    last_end c.self.inside.start c.as_slice.result.now heap c.in-len1-up.len_at_least in
    search rules

pub returns-in-len1-up : goal.returns-in-len1-up
returns-in-len1-up c = record {
  value =
      let same : c.as_slice.result.now ≡ c.args.self.now.blocks = search rules in
      sym (heap_end-last c.as_slice.result.now c.in-len1-up.len_at_least) ∙ ap heap_end same;
  within =
      let heap : IsTrue (is_heap c.self.inside.start c.as_slice.result.now) = search rules in
      let last : block_end (get_or c.as_slice.result.now (length c.as_slice.result.now - 1) none)
      ≤ 16777216 =
      last_end c.self.inside.start c.as_slice.result.now heap c.in-len1-up.len_at_least in
      rounded_within
      (block_end (get_or c.as_slice.result.now (length c.as_slice.result.now - 1) none)) last;
  heap = search rules;
}
