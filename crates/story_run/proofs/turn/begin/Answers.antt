use Rattle.story_run.proofs.FaultTurns.{start-refused}
use Rattle.story_run.proofs.ValidLemmas.{run-stands}
use Rattle.story_run.proofs.turn.begin.Goals as goal

pub returns-in-Ok-clause-stands : goal.returns-in-Ok-clause-stands
returns-in-Ok-clause-stands c =
    run-stands c.args.image.now c.args.budget c.args.glk.now c.run.new.glk c.in-Ok.machine
    c.run.result c.requires c.run.ensures.value

pub returns-in-Ok-clause-kept : goal.returns-in-Ok-clause-kept
returns-in-Ok-clause-kept c = c.run.ensures.kept c.args.seed c.in-Ok.ensures.seed

pub stopped-requires : goal.stopped-requires
stopped-requires c =
    start-refused c.args.image.now c.args.seed c.in-Err.trap c.in-Err.ensures.value

pub returns-in-Err-clause-kept : goal.returns-in-Err-clause-kept
returns-in-Err-clause-kept c = c.stopped.ensures.kept c.args.image.now c.args.seed
