use Rattle.std.proofs.Common.{◌+◌, ℕ, drop, length-drop, slice_index, refl, arith, ap, sym, ◌∙◌}
use Rattle.vm_stack.specs.Frame.{locals_end}
use Rattle.vm_stack.proofs.FormatLemmas.{locals_more, locals_none}
use Rattle.vm_stack.proofs.frame.locals_end.Goals as goal

pub loop-read-preserved : goal.loop-read-preserved
loop-read-preserved c =
    let left = c.loop-read-test.true in
    let low = c.loop-read.invariant.within in
    let step = c.pair_end-end.ensures.within in
    record {
      same = c.loop-read.invariant.same
          ∙ (locals_more c.args.format.now c.loop-read.end c.loop-read.read
          (slice_index c.args.format.now c.loop-read.read)
          (slice_index c.args.format.now (c.loop-read.read + 1))
          (omega (arith, left)) refl refl c.if-format-read-eq0.false
          ∙ ap (λ (n : ℕ). locals_end n (drop (c.loop-read.read + 2) c.args.format.now))
          (sym c.pair_end-end.ensures.value));
      inside = omega (arith, left);
      within = omega (arith, low, step);
    }

pub returns-clause-value : goal.returns-clause-value
returns-clause-value c =
    let left = c.loop-read-test.false in
    let l = length-drop c.loop-read.read c.args.format.now in
    sym (c.loop-read.invariant.same
    ∙ locals_none c.loop-read.end (drop c.loop-read.read c.args.format.now)
    (omega (arith, left, l)))
