use Rattle.story_run.proofs.AheadLemmas.{restored-ahead}
use Rattle.story_run.proofs.save.restore_rest.Goals as goal

pub returns-in-Some-clause-does : goal.returns-in-Some-clause-does
returns-in-Some-clause-does c =
    restored-ahead c.args.image.now c.args.glk.now c.pass_ahead.new.glk c.args.machine.now
    c.bring_back-done.new.machine c.args.stream c.in-Some.bytes.now c.bring_back-done.result
    c.in-Some.ensures.value c.in-Some.ensures.bytes c.in-Some.ensures.within
    c.pass_ahead.ensures.does c.bring_back-done.ensures.does
