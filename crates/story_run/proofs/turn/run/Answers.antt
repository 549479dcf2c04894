use Rattle.std.proofs.Common.{◌∙◌, sym}
use Rattle.story_run.proofs.FaultTurns.{proceed-refused}
use Rattle.story_run.proofs.TurnLemmas.{rest-stops}
use Rattle.story_run.specs.Step.{running}
use Rattle.story_run.proofs.turn.run.Goals as goal

pub loop-rest-smaller : goal.loop-rest-smaller
loop-rest-smaller c = (rw c.in-Ok-Runs.field-0-is at c.in-Ok-Runs.ensures.does).1

pub loop-rest-preserved : goal.loop-rest-preserved
loop-rest-preserved c =
    let e = rw c.in-Ok-Runs.field-0-is at c.in-Ok-Runs.ensures.does in
    let kept = rw c.in-Ok-Runs.field-0-is at c.in-Ok-Runs.ensures.kept in (
      sym e.0 ∙ c.loop-rest.invariant.0,
      (kept, c.in-Ok-Runs.ensures.seed ∙ c.loop-rest.invariant.1.1),
    )

pub returns-in-Ok-Waits-clause-value : goal.returns-in-Ok-Waits-clause-value
returns-in-Ok-Waits-clause-value c =
    let e = rw c.in-Ok-Waits.field-0-is at c.in-Ok-Waits.ensures.does in
    rw c.at_select.ensures.value (sym e ∙ c.loop-rest.invariant.0)

pub returns-in-Ok-Waits-clause-kept : goal.returns-in-Ok-Waits-clause-kept
returns-in-Ok-Waits-clause-kept c = λ seed e.
    let kept = rw c.in-Ok-Waits.field-0-is at c.in-Ok-Waits.ensures.kept in
    rw c.at_select.ensures.value
    (record {
      waiting = kept;
      room = c.at_select.ensures.room;
      begun = c.in-Ok-Waits.ensures.seed ∙ (c.loop-rest.invariant.1.1 ∙ e);
    })

pub returns-in-Ok-Prompts-clause-value : goal.returns-in-Ok-Prompts-clause-value
returns-in-Ok-Prompts-clause-value c =
    let e = rw c.in-Ok-Prompts.field-0-is at c.in-Ok-Prompts.ensures.does in
    rw c.at_prompt.ensures.value (sym e ∙ c.loop-rest.invariant.0)

pub returns-in-Ok-Prompts-clause-kept : goal.returns-in-Ok-Prompts-clause-kept
returns-in-Ok-Prompts-clause-kept c = λ seed e.
    let kept = rw c.in-Ok-Prompts.field-0-is at c.in-Ok-Prompts.ensures.kept in
    rw c.at_prompt.ensures.value
    (record {
      waiting = kept;
      room = c.at_prompt.ensures.room;
      begun = c.in-Ok-Prompts.ensures.seed ∙ (c.loop-rest.invariant.1.1 ∙ e);
    })

pub returns-in-Ok-Quits-clause-value : goal.returns-in-Ok-Quits-clause-value
returns-in-Ok-Quits-clause-value c =
    let e = rw c.in-Ok-Quits.field-0-is at c.in-Ok-Quits.ensures.does in
    sym e ∙ c.loop-rest.invariant.0

pub returns-in-Err-clause-value : goal.returns-in-Err-clause-value
returns-in-Err-clause-value c =
    rw (← c.loop-rest.invariant.0)
    (rest-stops _ _ _ _ c.proceed.new.machine _ _ c.in-Err.ensures.does c.stopped.ensures.ends)

pub stopped-requires : goal.stopped-requires
stopped-requires c =
    proceed-refused c.args.image.now c.loop-rest.left
    (running c.loop-rest.glk c.loop-rest.machine) c.proceed.new.glk c.proceed.new.machine
    c.in-Err.trap c.in-Err.ensures.does

pub returns-in-Err-clause-kept : goal.returns-in-Err-clause-kept
returns-in-Err-clause-kept c = λ seed e. c.stopped.ensures.kept c.args.image.now seed
