use Rattle.std.proofs.Common.{rules, arith, refl, ◌≡◌, ◌≢◌, ◌∙◌, sym, ap, subst, ◌+◌, ◌-◌, Ok, Err}
use Rattle.std.proofs.lemmas.Grind.{common_steps}
use Rattle.std.specs.declared.cmp.Ordering.TheVariants.{Equal}
use Rattle.vm_search.specs.Ending.{failure}
use Rattle.vm_search.specs.Linear.{found_at}
use Rattle.vm_search.specs.Binary.{binary_ends, interval_at, middle}
use Rattle.vm_search.specs.declared.fault.SearchStop.TheVariants.{Read}
use Rattle.vm_search.proofs.EndingLemmas.{first_ending-on, search-end, search-spent, handed_on}
use Rattle.vm_search.proofs.EndingLemmas.{AllLookMore}
use Rattle.vm_search.proofs.BinaryLemmas.{binary_ends-empty, binary_ends-structure, goes_on}
use Rattle.vm_search.proofs.BinaryLemmas.{interval_at-next, binary-look_more, narrower, a_digit}
use Rattle.vm_search.proofs.BinaryLemmas.{few}
use Rattle.vm_search.proofs.binary_search.binary.Goals as goal

pub loop-interval-init : goal.loop-interval-init
unfolding interval_at
loop-interval-init c =
    record {
      room = omega arith;
      order = omega arith;
      width = omega arith;
      cost = omega arith;
      here = refl;
      sofar = refl;
    }

pub returns-then-looked-query-clause-value : goal.returns-then-looked-query-clause-value
returns-then-looked-query-clause-value c =
    let some : c.loop-interval.interval.low ≢ c.loop-interval.interval.high =
    grind (arith, common_steps) in
    sym (search-spent c.args.query.now
    (binary_ends c.args.memory.now c.args.query.now) c.loop-interval.looked
    c.in_ok-check.ensures.ok c.loop-interval.invariant.sofar
    (subst (λ n. AllLookMore
    (binary_ends c.args.memory.now c.args.query.now) n c.loop-interval.looked)
    c.if-looked-query.true
    (binary-look_more c.args.memory.now c.args.query.now c.loop-interval.looked
    c.loop-interval.interval c.loop-interval.invariant.here some)))

pub returns-in_err-order-clause-value : goal.returns-in_err-order-clause-value
returns-in_err-order-clause-value c =
    let some : c.loop-interval.interval.low ≢ c.loop-interval.interval.high =
    grind (arith, common_steps) in
    handed_on (Read c.in_err-order.field-0.0) _ c.from_residual-in_err-order.ensures.1
    ∙ sym (search-end c.args.query.now
    (binary_ends c.args.memory.now c.args.query.now) c.loop-interval.looked
    (c.loop-interval.looked + 1)
    (Err c.in_err-order.field-0.0) c.in_ok-check.ensures.ok c.loop-interval.invariant.sofar
    (few c.loop-interval.looked c.args.query.now.count c.loop-interval.invariant.cost
    (search rules))
    (binary_ends-structure c.args.memory.now c.args.query.now c.loop-interval.looked
    c.loop-interval.interval (Err c.in_err-order.field-0.0)
    c.loop-interval.invariant.here some (sym c.order_in_middle.ensures.value ∙ c.in_err-order.was))
    (omega arith))

pub returns-then-eq-clause-value : goal.returns-then-eq-clause-value
returns-then-eq-clause-value c =
    let some : c.loop-interval.interval.low ≢ c.loop-interval.interval.high =
    grind (arith, common_steps) in
    let same : c.in_ok-order.order ≡ Equal = search rules in
    ap (λ a. Ok (record { answer = a; looked = c.loop-interval.looked + 1 }))
    (c.found_at-answer.ensures.value ∙ ap (found_at c.args.query.now) c.middle.ensures.value)
    ∙ sym (search-end c.args.query.now
    (binary_ends c.args.memory.now c.args.query.now) c.loop-interval.looked
    (c.loop-interval.looked + 1)
    (Ok (found_at c.args.query.now (middle c.loop-interval.interval))) c.in_ok-check.ensures.ok
    c.loop-interval.invariant.sofar
    (few c.loop-interval.looked c.args.query.now.count c.loop-interval.invariant.cost
    (search rules))
    (binary_ends-structure c.args.memory.now c.args.query.now c.loop-interval.looked
    c.loop-interval.interval (Ok Equal)
    c.loop-interval.invariant.here some (sym c.order_in_middle.ensures.value ∙ c.in_ok-order.was
    ∙ ap Ok same))
    (omega arith))

pub loop-interval-preserved : goal.loop-interval-preserved
loop-interval-preserved c =
    let some : c.loop-interval.interval.low ≢ c.loop-interval.interval.high =
    grind (arith, common_steps) in
    let other : c.in_ok-order.order ≢ Equal = search rules in
    record {
      room = omega arith;
      order = c.half-interval.ensures.order;
      width = narrower (c.loop-interval.interval.high - c.loop-interval.interval.low)
          (c.half-interval.result.high - c.half-interval.result.low)
          c.loop-interval.looked c.args.query.now.count c.half-interval.ensures.fewer
          c.loop-interval.invariant.width;
      cost = a_digit (c.loop-interval.interval.high - c.loop-interval.interval.low)
          c.loop-interval.looked c.args.query.now.count
          (omega (arith, some, c.loop-interval.invariant.order)) c.loop-interval.invariant.width;
      here = interval_at-next c.args.memory.now c.args.query.now c.loop-interval.looked
          c.loop-interval.interval c.in_ok-order.order
          c.loop-interval.invariant.here (sym c.order_in_middle.ensures.value ∙ c.in_ok-order.was)
          ∙ sym c.half-interval.ensures.value;
      sofar = c.loop-interval.invariant.sofar
          ∙ first_ending-on (binary_ends c.args.memory.now c.args.query.now) c.loop-interval.looked
          4294967296
          (few c.loop-interval.looked c.args.query.now.count c.loop-interval.invariant.cost
          (search rules))
          (binary_ends-structure c.args.memory.now c.args.query.now c.loop-interval.looked
          c.loop-interval.interval (Ok c.in_ok-order.order)
          c.loop-interval.invariant.here some
          (sym c.order_in_middle.ensures.value ∙ c.in_ok-order.was)
          ∙ goes_on (c.loop-interval.looked + 1)
          (found_at c.args.query.now (middle c.loop-interval.interval))
          (failure c.args.query.now) c.in_ok-order.order other);
    }

pub returns-clause-value : goal.returns-clause-value
returns-clause-value c =
    let none : c.loop-interval.interval.low ≡ c.loop-interval.interval.high =
    grind (arith, common_steps) in
    ap (λ a. Ok (record { answer = a; looked = c.loop-interval.looked }))
    c.failure-answer.ensures.value
    ∙ sym (search-end c.args.query.now
    (binary_ends c.args.memory.now c.args.query.now) c.loop-interval.looked c.loop-interval.looked
    (Ok (failure c.args.query.now)) c.in_ok-check.ensures.ok c.loop-interval.invariant.sofar
    (few c.loop-interval.looked c.args.query.now.count c.loop-interval.invariant.cost
    (search rules))
    (binary_ends-empty c.args.memory.now c.args.query.now c.loop-interval.looked
    c.loop-interval.interval c.loop-interval.invariant.here none)
    c.loop-interval.invariant.room)
