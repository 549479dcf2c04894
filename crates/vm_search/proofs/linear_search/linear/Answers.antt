use Rattle.std.proofs.Common.{arith, ◌∙◌, sym, ap, subst, ◌+◌, Ok, Err}
use Rattle.vm_search.specs.Ending.{failure}
use Rattle.vm_search.specs.Linear.{linear_ends}
use Rattle.vm_search.specs.declared.fault.SearchStop.TheVariants.{Read}
use Rattle.vm_search.proofs.EndingLemmas.{first_ending-on, search-end, search-spent, search-endless}
use Rattle.vm_search.proofs.EndingLemmas.{handed_on, looks-none, looks-some, found-is, AllLookMore}
use Rattle.vm_search.proofs.LinearLemmas.{linear_ends-past, linear_ends-structure, linear-look_more}
use Rattle.vm_search.proofs.linear_search.linear.Goals as goal

pub returns-then-is_past : goal.returns-then-is_past
returns-then-is_past c = record {
  value = ap (λ a. Ok (record { answer = a; looked = c.loop-looked.looked }))
      c.failure-answer.ensures.value
      ∙ sym (search-end c.args.query.now
      (linear_ends c.args.memory.now c.args.query.now) c.loop-looked.looked c.loop-looked.looked
      (Ok (failure c.args.query.now)) c.in_ok-check.ensures.ok c.loop-looked.invariant.sofar
      c.loop-looked-test.true
      (linear_ends-past c.args.memory.now c.args.query.now c.loop-looked.looked
      (sym c.if-is_past.ensures.value))
      c.loop-looked.invariant.room);
}

pub returns-then-looked-query : goal.returns-then-looked-query
returns-then-looked-query c = record {
  value = sym (search-spent c.args.query.now
      (linear_ends c.args.memory.now c.args.query.now) c.loop-looked.looked
      c.in_ok-check.ensures.ok c.loop-looked.invariant.sofar
      (subst (λ n. AllLookMore
      (linear_ends c.args.memory.now c.args.query.now) n c.loop-looked.looked)
      c.if-looked-query.true
      (linear-look_more c.args.memory.now c.args.query.now c.loop-looked.looked
      (sym c.if-is_past.ensures.value))));
}

pub returns-in_err-found : goal.returns-in_err-found
returns-in_err-found c = record {
  value = handed_on (Read c.in_err-found.field-0.0) _ c.from_residual-in_err-found.ensures.1
      ∙ sym (search-end c.args.query.now
      (linear_ends c.args.memory.now c.args.query.now) c.loop-looked.looked
      (c.loop-looked.looked + 1)
      (Err c.in_err-found.field-0.0) c.in_ok-check.ensures.ok c.loop-looked.invariant.sofar
      c.loop-looked-test.true
      (linear_ends-structure c.args.memory.now c.args.query.now c.loop-looked.looked
      (sym c.if-is_past.ensures.value)
      ∙ c.in_err-found.ensures.value)
      (omega arith));
}

pub returns-in-Some : goal.returns-in-Some
returns-in-Some c =
    let told = looks-some
    (c.loop-looked.looked + 1) _ c.in_ok-found.field-0 c.in-Some.found c.in_ok-found.ensures.value
    c.in-Some.is in
    record {
      value = sym (found-is c.in-Some.found (c.loop-looked.looked + 1) told.1)
          ∙ sym (search-end c.args.query.now
          (linear_ends c.args.memory.now c.args.query.now) c.loop-looked.looked
          (c.loop-looked.looked + 1)
          (Ok c.in-Some.found.answer) c.in_ok-check.ensures.ok c.loop-looked.invariant.sofar
          c.loop-looked-test.true
          (linear_ends-structure c.args.memory.now c.args.query.now c.loop-looked.looked
          (sym c.if-is_past.ensures.value) ∙ told.0)
          (omega arith));
    }

pub loop-looked-preserved : goal.loop-looked-preserved
loop-looked-preserved c = record {
  room = omega arith;
  sofar = c.loop-looked.invariant.sofar
      ∙ first_ending-on (linear_ends c.args.memory.now c.args.query.now) c.loop-looked.looked
      4294967296 c.loop-looked-test.true
      (linear_ends-structure c.args.memory.now c.args.query.now c.loop-looked.looked
      (sym c.if-is_past.ensures.value)
      ∙ looks-none (c.loop-looked.looked + 1) _ c.in_ok-found.field-0 c.in_ok-found.ensures.value
      c.in_default.is);
}

pub returns : goal.returns
returns c = record {
  value = sym (search-endless c.args.query.now
      (linear_ends c.args.memory.now c.args.query.now) c.loop-looked.looked
      c.in_ok-check.ensures.ok c.loop-looked.invariant.sofar c.loop-looked-test.false);
}
