use Rattle.std.proofs.Common.{◌+◌, ℕ, List, [], ◌∷◌, length, length-append, drop, ap, sym, ◌∙◌}
use Rattle.std.proofs.Common.{arith}
use Rattle.vm_flow.specs.Function.{format_in, prepended}
use Rattle.vm_flow.proofs.FormatLemmas.{format_more, pairs_more}
use Rattle.vm_flow.proofs.format.read_format.Goals as goal

pub loop-format-preserved : goal.loop-format-preserved
loop-format-preserved c =
    let items = c.in_ok-extend_from_slice-2.ensures.items in
    let x = c.in_ok-size.size in
    let y = c.in_ok-count.count in
    let inside = c.in_ok-count.ensures.inside in
    let place = c.loop-format.invariant.place in
    let top = c.in_ok-count.ensures.limit in
    let l = ap length items in
    let a = length-append c.loop-format.format.items (x ∷ y ∷ []) in
    record {
      same =
          c.loop-format.invariant.same
          ∙ (format_more c.args.function c.loop-format.at c.loop-format.at x y
          c.args.memory.now.bytes c.loop-format.format.items inside
          c.in_ok-size.ensures.value c.in_ok-count.ensures.value
          (sym c.is_end.ensures ∙ c.if-is_end.false)
          (sym c.is_local_type.ensures ∙ c.if-not-is_local_type.false)
          ∙ ap (λ (is : List ℕ). prepended is
          (format_in c.args.function (c.loop-format.at + 2)
          (drop (c.loop-format.at + 2) c.args.memory.now.bytes))) (sym items));
      place = omega (arith, l, a, place);
      limit = omega (arith, top);
      pairs = λ rest is. rw items
          (pairs_more c.loop-format.format.items x y rest c.loop-format.invariant.pairs
          (sym c.is_local_type.ensures ∙ c.if-not-is_local_type.false) is);
    }
