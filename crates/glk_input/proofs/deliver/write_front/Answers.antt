use Rattle.std.proofs.Common.{arith, ◌≡◌, ◌+◌, ◌-◌, ◌<◌, ap, sym, ◌∙◌, chars, length, take}
use Rattle.std.proofs.lemmas.List.{nil_from_length}
use Rattle.std.specs.Str.Iter.{chars_rest}
use Rattle.std.proofs.lemmas.Str.{IsUtf8-past_char, chars_past_char, chars-nil}
use Rattle.glk_input.proofs.DeliveryLemmas.{counted_none, front_length, goes_on, stops, writes_stop}
use Rattle.glk_input.proofs.DeliveryLemmas.{writes_on, written_none}
use Rattle.glk_input.proofs.deliver.write_front.Goals as goal

pub returns-in-Err-clause-value : goal.returns-in-Err-clause-value
returns-in-Err-clause-value c =
    let held = c.loop-c.invariant in
    let step = chars_past_char _ _ c.in-Some.c held.utf8 c.in-Some.ensures.steps.0 in
    let left : 0 < c.args.max - c.loop-c.count = omega arith in
    let e = rw step at held.written in
    writes_stop c.args.unicode c.loop-c.memory c.args.memory.now c.write_char.new.memory c.loop-c.at
    c.args.from c.in-Some.c
    (chars (chars_rest c.next.new.self)) (take c.args.max (chars c.args.text.now))
    (c.args.max - c.loop-c.count) c.in-Err.stop left e c.in-Err.ensures.value

pub returns-in-Err-clause-part : goal.returns-in-Err-clause-part
returns-in-Err-clause-part c =
    stops c.args.unicode c.args.memory.now c.loop-c.memory c.write_char.new.memory c.args.from
    c.loop-c.at _ _
    c.loop-c.invariant.part c.in-Err.ensures.err

-- no character is written where there is none to write
pub returns-in-Err-clause-always : goal.returns-in-Err-clause-always
returns-in-Err-clause-always c none =
    let held = c.loop-c.invariant in
    let step = chars_past_char _ _ c.in-Some.c held.utf8 c.in-Some.ensures.steps.0 in
    let left : 0 < c.args.max - c.loop-c.count = omega arith in
    let n = rw (
      step,
      front_length c.in-Some.c (chars (chars_rest c.next.new.self))
          (c.args.max - c.loop-c.count) left,
    ) at held.counted in
    let zero : length (take c.args.max (chars c.args.text.now)) ≡ 0 = ap length none in
    absurd (omega arith)

pub loop-c-preserved : goal.loop-c-preserved
loop-c-preserved c =
    let held = c.loop-c.invariant in
    let step = chars_past_char _ _ c.in-Some.c held.utf8 c.in-Some.ensures.steps.0 in
    let left : 0 < c.args.max - c.loop-c.count = omega arith in
    let e = rw step at held.written in
    let on = writes_on c.args.unicode c.loop-c.memory c.args.memory.now c.write_char.new.memory
    c.loop-c.at c.args.from c.in-Some.c
    (chars (chars_rest c.next.new.self)) (take c.args.max (chars c.args.text.now))
    (c.args.max - c.loop-c.count) left e c.in-Ok.ensures.value in
    let k : (c.args.max - c.loop-c.count) - 1 ≡ c.args.max - (c.loop-c.count + 1) = omega arith in
    let n = rw (
      step,
      front_length c.in-Some.c (chars (chars_rest c.next.new.self))
          (c.args.max - c.loop-c.count) left,
    ) at held.counted in
    record {
      utf8 = IsUtf8-past_char _ _ c.in-Some.c held.utf8 c.in-Some.ensures.steps.0;
      below = omega arith;
      written = rw (c.width-at.ensures, ← k) on;
      counted = rw (← k) (omega arith);
      part = rw (c.width-at.ensures, ← k)
          (goes_on c.args.unicode c.args.memory.now c.loop-c.memory c.write_char.new.memory
          c.args.from c.loop-c.at c.in-Some.c
          (chars (chars_rest c.next.new.self)) (take c.args.max (chars c.args.text.now))
          (c.args.max - c.loop-c.count) left
          (rw step at held.part) c.in-Ok.ensures.value);
    }

pub returns-clause-value : goal.returns-clause-value
returns-clause-value c =
    let held = c.loop-c.invariant in
    let e = ap chars (nil_from_length _ c.in-None.ensures.steps.0.0) ∙ chars-nil in
    let w = rw e at held.written in
    let n = rw e at held.counted in
    (sym w ∙ written_none _ _ _ _, counted_none _ _ _ n)
