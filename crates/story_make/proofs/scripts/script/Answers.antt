use Rattle.std.proofs.Common.{◌+◌, ◌-◌, ap, arith, rules}
use Rattle.story_make.specs.Script.{Place}
use Rattle.story_make.specs.Lines.{kept_place}
use Rattle.story_make.proofs.ScriptLaws.{at_first, one_turn, at_last}
use Rattle.story_make.proofs.scripts.script.Goals as goal

pub loop-init : goal.loop-init
loop-init c =
    let s = c.args.session in
    let begins = c.begun-place.ensures s in
    record {
      counted = omega (arith, ap (λ (p : Place). p.sent) begins);
      sofar =
          at_first c.args.number s c.args.turns (c.args.turns - 0)
          (kept_place s c.begun-place.result) c.new-words.result c.push_line.new.out.items
          (omega arith) begins (search rules) (search rules);
    }

pub loop-preserved : goal.loop-preserved
loop-preserved c =
    let s = c.args.session in let done = c.loop.counter in
    record {
      counted = omega (arith, c.turned-place.ensures.within, c.loop.invariant.counted);
      sofar =
          one_turn s c.next_word.result (c.args.turns - done) (c.args.turns - (done + 1))
          (kept_place s c.loop.place) (kept_place s c.turned-place.result)
          c.loop.words c.next_word.new.self c.loop.out.items c.push_line-in-loop.new.out.items _
          (omega (arith, c.loop-test.true)) c.next_word.ensures (c.turned-place.ensures.value s)
          (search rules) c.loop.invariant.sofar;
    }

pub returns : goal.returns
returns c =
    at_last c.args.session (c.args.turns - c.loop.counter)
    (kept_place c.args.session c.loop.place) c.loop.words c.loop.out.items _
    (omega (arith, c.loop-test.false))
    c.loop.invariant.sofar
