use Rattle.vm_exec.specs.declared.text.Text.TheVariants as text
use Rattle.vm_exec.proofs.KeepingCalls.{step_keeps, step_over}
use Rattle.vm_exec.proofs.machine.Machine.step.Goals as goal

pub returns-in-Off-clause-kept : goal.returns-in-Off-clause-kept
returns-in-Off-clause-kept c = step_keeps _ _ _ text.Off _ c.instruction.ensures.does c.requires

pub returns-in-Pieces-clause-kept : goal.returns-in-Pieces-clause-kept
returns-in-Pieces-clause-kept c =
    step_keeps _ _ _ (text.Pieces c.in-Pieces.cursor c.in-Pieces.held)
    _ c.piece.ensures.does c.requires

pub returns-in-Number-clause-kept : goal.returns-in-Number-clause-kept
returns-in-Number-clause-kept c =
    step_keeps _ _ _ (text.Number c.in-Number.value c.in-Number.place c.in-Number.held)
    _ c.digit.ensures.does c.requires

pub returns-in-Off-clause-over : goal.returns-in-Off-clause-over
returns-in-Off-clause-over c = λ image.
    step_over image _ _ _ text.Off _ c.instruction.ensures.does c.requires

pub returns-in-Pieces-clause-over : goal.returns-in-Pieces-clause-over
returns-in-Pieces-clause-over c = λ image.
    step_over image _ _ _ (text.Pieces c.in-Pieces.cursor c.in-Pieces.held) _
    c.piece.ensures.does c.requires

pub returns-in-Number-clause-over : goal.returns-in-Number-clause-over
returns-in-Number-clause-over c = λ image.
    step_over image _ _ _ (text.Number c.in-Number.value c.in-Number.place c.in-Number.held) _
    c.digit.ensures.does c.requires
