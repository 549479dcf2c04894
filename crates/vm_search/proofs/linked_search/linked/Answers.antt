use Rattle.std.proofs.Common.{arith, refl, ◌∙◌, sym, subst, ◌+◌, Ok, Err}
use Rattle.vm_search.specs.Linked.{linked_ends, chain_place}
use Rattle.vm_search.specs.declared.fault.SearchStop.TheVariants.{Read}
use Rattle.vm_search.proofs.EndingLemmas.{first_ending-on, search-end, search-spent, search-endless}
use Rattle.vm_search.proofs.EndingLemmas.{handed_on, looks-none, looks-some, found-is, AllLookMore}
use Rattle.vm_search.proofs.LinkedLemmas.{linked_ends-zero, linked_ends-structure, linked_ends-link}
use Rattle.vm_search.proofs.LinkedLemmas.{linked_ends-none, place_at-next, linked-look_more}
use Rattle.vm_search.proofs.linked_search.linked.Goals as goal

pub loop-looked-init : goal.loop-looked-init
unfolding chain_place
loop-looked-init c = record { room = omega arith; here = refl; sofar = refl }

pub returns-then-at-eq0 : goal.returns-then-at-eq0
returns-then-at-eq0 c = record {
  value = sym (search-end c.args.query.now
      (linked_ends c.args.memory.now c.args.query.now) c.loop-looked.looked c.loop-looked.looked
      (Ok 0) c.in_ok-check.ensures.ok c.loop-looked.invariant.sofar c.loop-looked-test.true
      (linked_ends-zero c.args.memory.now c.args.query.now c.loop-looked.looked c.loop-looked.at
      c.loop-looked.invariant.here c.if-at-eq0.true)
      c.loop-looked.invariant.room);
}

pub returns-then-looked-query : goal.returns-then-looked-query
returns-then-looked-query c = record {
  value = sym (search-spent c.args.query.now
      (linked_ends c.args.memory.now c.args.query.now) c.loop-looked.looked
      c.in_ok-check.ensures.ok c.loop-looked.invariant.sofar
      (subst (λ n. AllLookMore
      (linked_ends c.args.memory.now c.args.query.now) n c.loop-looked.looked)
      c.if-looked-query.true
      (linked-look_more c.args.memory.now c.args.query.now c.loop-looked.looked c.loop-looked.at
      c.loop-looked.invariant.here c.if-at-eq0.false)));
}

pub returns-in_err-found : goal.returns-in_err-found
returns-in_err-found c = record {
  value = handed_on (Read c.in_err-found.field-0.0) _ c.from_residual-in_err-found.ensures.1
      ∙ sym (search-end c.args.query.now
      (linked_ends c.args.memory.now c.args.query.now) c.loop-looked.looked
      (c.loop-looked.looked + 1)
      (Err c.in_err-found.field-0.0) c.in_ok-check.ensures.ok c.loop-looked.invariant.sofar
      c.loop-looked-test.true
      (linked_ends-structure c.args.memory.now c.args.query.now c.loop-looked.looked
      c.loop-looked.at _
      c.loop-looked.invariant.here c.if-at-eq0.false c.in_err-found.ensures.value)
      (omega arith));
}

pub returns-in-Some : goal.returns-in-Some
returns-in-Some c =
    let told = looks-some
    (c.loop-looked.looked + 1) _ c.in_ok-found.field-0 c.in-Some.found c.in_ok-found.ensures.value
    c.in-Some.is in
    record {
      value = sym (found-is c.in-Some.found (c.loop-looked.looked + 1) told.1)
          ∙ sym (search-end c.args.query.now
          (linked_ends c.args.memory.now c.args.query.now) c.loop-looked.looked
          (c.loop-looked.looked + 1)
          (Ok c.in-Some.found.answer) c.in_ok-check.ensures.ok c.loop-looked.invariant.sofar
          c.loop-looked-test.true
          (linked_ends-structure c.args.memory.now c.args.query.now c.loop-looked.looked
          c.loop-looked.at _
          c.loop-looked.invariant.here c.if-at-eq0.false told.0)
          (omega arith));
    }

pub returns-in_err-at : goal.returns-in_err-at
returns-in_err-at c = record {
  value = handed_on (Read c.in_err-at.field-0.0) _ c.from_residual-in_err-at.ensures.1
      ∙ sym (search-end c.args.query.now
      (linked_ends c.args.memory.now c.args.query.now) c.loop-looked.looked
      (c.loop-looked.looked + 1)
      (Err c.in_err-at.field-0.0) c.in_ok-check.ensures.ok c.loop-looked.invariant.sofar
      c.loop-looked-test.true
      (linked_ends-link c.args.memory.now c.args.query.now c.loop-looked.looked c.loop-looked.at
      c.in_err-at.field-0.0
      c.loop-looked.invariant.here c.if-at-eq0.false
      (looks-none (c.loop-looked.looked + 1) _ c.in_ok-found.field-0 c.in_ok-found.ensures.value
      c.in_default.is)
      (sym c.read4.ensures.value ∙ c.in_err-at.was))
      (omega arith));
}

pub loop-looked-preserved : goal.loop-looked-preserved
loop-looked-preserved c = record {
  room = omega arith;
  here = place_at-next c.args.memory.now c.args.query.now c.loop-looked.looked c.loop-looked.at
      c.in_ok-at.at
      c.loop-looked.invariant.here (sym c.read4.ensures.value ∙ c.in_ok-at.was);
  sofar = c.loop-looked.invariant.sofar
      ∙ first_ending-on (linked_ends c.args.memory.now c.args.query.now) c.loop-looked.looked
      4294967296 c.loop-looked-test.true
      (linked_ends-none c.args.memory.now c.args.query.now c.loop-looked.looked c.loop-looked.at
      c.in_ok-at.at
      c.loop-looked.invariant.here c.if-at-eq0.false
      (looks-none (c.loop-looked.looked + 1) _ c.in_ok-found.field-0 c.in_ok-found.ensures.value
      c.in_default.is)
      (sym c.read4.ensures.value ∙ c.in_ok-at.was));
}

pub returns : goal.returns
returns c = record {
  value = sym (search-endless c.args.query.now
      (linked_ends c.args.memory.now c.args.query.now) c.loop-looked.looked
      c.in_ok-check.ensures.ok c.loop-looked.invariant.sofar c.loop-looked-test.false);
}
