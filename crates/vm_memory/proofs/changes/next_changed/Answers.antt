use Rattle.std.proofs.Common.{◌+◌, ◌*◌, ◌/◌, refl, arith}
use Rattle.vm_memory.proofs.ChangeLemmas.{same_unheld, same_further, other_held}
use Rattle.vm_memory.proofs.changes.next_changed.Goals as goal
use Rattle.vm_memory.proofs.changes.next_changed.Goals.{then-start-end+else-place-end}
use Rattle.vm_memory.proofs.changes.next_changed.Goals.{else-start-end}

pub loop-at-preserved-then-is_empty : goal.loop-at-preserved-then-is_empty
loop-at-preserved-then-is_empty c = record {
  within = omega arith;
  least = omega (arith, c.unheld_end.ensures.from);
  ram = omega (arith, c.unheld_end.ensures.from);
  same = same_unheld c.args.rom.now c.args.ramstart c.args.rows.now c.args.from c.loop-at.at
      c.min-at.result c.loop-at.invariant.same
      (λ i low high. c.unheld_end.ensures.none i low (omega arith));
}

pub returns-then-place-end-clause-same : goal.returns-then-place-end-clause-same
returns-then-place-end-clause-same c =
    same_further c.args.rom.now c.args.ramstart c.args.rows.now c.page_of-page.result.now
    c.args.from c.loop-at.at (c.loop-at.at / 256 * 256 + c.changed_in-place.result)
    (c.loop-at.at / 256 * 256) c.changed_in-place.result
    c.page_of-page.ensures refl c.loop-at.invariant.ram
    (omega (arith, c.changed_in-place.ensures.within)) c.loop-at.invariant.same
    c.changed_in-place.ensures.same (λ k l m. absurd (omega (arith, l, m)))

pub returns-then-place-end-clause-other : goal.returns-then-place-end-clause-other
returns-then-place-end-clause-other c = λ inside.
    other_held c.args.rom.now c.args.ramstart c.args.rows.now c.page_of-page.result.now
    c.loop-at.at (c.loop-at.at / 256 * 256) c.changed_in-place.result
    c.page_of-page.ensures refl (omega arith)
    (omega (arith, c.changed_in-place.ensures.from, c.loop-at.invariant.ram)) (omega arith)
    (c.changed_in-place.ensures.other c.if-place-end.true)

pub loop-at-preserved : goal.loop-at-preserved
loop-at-preserved c = record {
  within = omega arith;
  least = omega arith;
  ram = omega arith;
  same = same_further c.args.rom.now c.args.ramstart c.args.rows.now c.page_of-page.result.now
      c.args.from c.loop-at.at c.min-at-else-is_empty.result (c.loop-at.at / 256 * 256)
      c.min-end.result
      c.page_of-page.ensures refl c.loop-at.invariant.ram (omega arith) c.loop-at.invariant.same
      (elim c.if-start-end.branch [
        | then-start-end+else-place-end w ↦ λ k low high.
            w.changed_in-place.ensures.same k low (omega (arith, w.if-place-end.false))
        | else-start-end w ↦ λ k low high. absurd (omega (arith, w.if-start-end.false, low, high))
      ])
      (λ k low high. omega arith);
}
