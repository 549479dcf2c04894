use Rattle.std.proofs.Common.{rules, ◌∙◌}
use Rattle.story_run.proofs.FaultTurns.{delivery-refused}
use Rattle.story_run.proofs.ValidLemmas.{turn-stands}
use Rattle.story_run.proofs.turn.resume.Goals as goal

pub returns-in-Ok-clause-stands : goal.returns-in-Ok-clause-stands
returns-in-Ok-clause-stands c =
    turn-stands c.args.image.now c.args.budget c.args.glk.now c.run.new.glk c.args.machine
    c.args.input.now c.run.result c.requires.valid (search rules)

pub returns-clause-stands : goal.returns-clause-stands
returns-clause-stands c =
    turn-stands c.args.image.now c.args.budget c.args.glk.now c.deliver.new.glk c.args.machine
    c.args.input.now c.stopped.result c.requires.valid (search rules)

pub returns-in-Ok-clause-kept : goal.returns-in-Ok-clause-kept
returns-in-Ok-clause-kept c = λ seed e. c.run.ensures.kept seed (c.in-Ok.ensures.seed ∙ e)

pub stopped-requires : goal.stopped-requires
stopped-requires c =
    delivery-refused c.args.glk.now c.deliver.new.glk c.args.machine c.deliver.new.machine
    c.args.input.now c.in-Err.trap c.in-Err.ensures.does

pub returns-clause-kept : goal.returns-clause-kept
returns-clause-kept c = λ seed e. c.stopped.ensures.kept c.args.image.now seed
