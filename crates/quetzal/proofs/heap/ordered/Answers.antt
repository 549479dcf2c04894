use Rattle.std.proofs.Common.{◌∙◌, rules, subst}
use Rattle.std.proofs.lemmas.List.Sorted.{IsNonDecreasingBy-from_sort_by_key}
use Rattle.std.specs.List.Sorted.{IsPermutation}
use Rattle.quetzal.proofs.OrderLemmas.{one_heap}
use Rattle.quetzal.proofs.heap.ordered.Goals as goal

pub returns-then-fits : goal.returns-then-fits
returns-then-fits c =
    let up = IsNonDecreasingBy-from_sort_by_key (λ b. b.at) _ c.in_ok-sort_by_key.ensures.sorted
    (λ a r q k. search rules) in
    one_heap c.args.endmem c.args.size c.args.start _ c.sort_by_key.new.self.items up
    (subst (λ pairs. IsPermutation pairs c.sort_by_key.new.self.items) c.in_ok-blocks.ensures
    c.in_ok-sort_by_key.ensures.permutation)
    ∙ search rules

pub returns-else-fits : goal.returns-else-fits
returns-else-fits c =
    let up = IsNonDecreasingBy-from_sort_by_key (λ b. b.at) _ c.in_ok-sort_by_key.ensures.sorted
    (λ a r q k. search rules) in
    one_heap c.args.endmem c.args.size c.args.start _ c.sort_by_key.new.self.items up
    (subst (λ pairs. IsPermutation pairs c.sort_by_key.new.self.items) c.in_ok-blocks.ensures
    c.in_ok-sort_by_key.ensures.permutation)
    ∙ search rules
