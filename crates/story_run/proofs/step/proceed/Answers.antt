use Rattle.std.proofs.Common.{arith, ◌-◌}
use Rattle.story_run.specs.Step.{running}
use Rattle.story_run.proofs.TurnLemmas.{proceeds, rest-quick, rest-quits, run-refused}
use Rattle.story_run.proofs.step.proceed.Goals as goal

pub returns-in_err-ticks-clause-does : goal.returns-in_err-ticks-clause-does
returns-in_err-ticks-clause-does c =
    run-refused c.args.image.now c.args.left c.args.glk.now c.args.machine.now c.run_on.new.self
    c.in_err-ticks.field-0.0 c.from_residual.result
    c.in_err-ticks.ensures.runs c.from_residual.ensures.1

pub returns-in-Did-clause-does : goal.returns-in-Did-clause-does
returns-in-Did-clause-does c =
    let image = c.args.image.now in
    let glk = c.args.glk.now in
    let runs = rw c.in-Did.is at c.in_ok-ticks.ensures.runs in
    proceeds image c.args.left (c.args.left - c.in-Did.ticks) (running glk c.args.machine.now)
    (running glk c.run_on.new.self)
    c.advance.new.glk c.advance.new.machine c.advance.result
    (rest-quick image c.in-Did.ticks c.args.left glk c.args.machine.now c.run_on.new.self runs.1
    runs.0) (omega arith) c.advance.ensures.does

pub returns-in-Quits-clause-does : goal.returns-in-Quits-clause-does
returns-in-Quits-clause-does c =
    rest-quits c.args.image.now c.args.left c.args.glk.now c.args.machine.now c.run_on.new.self (rw
    c.in-Quits.is at c.in_ok-ticks.ensures.runs)
