use Rattle.vm_exec.proofs.KeepingCalls.{resume_keeps, resume_over}
use Rattle.vm_exec.proofs.machine.Machine.resume.Goals as goal

pub returns-clause-kept : goal.returns-clause-kept
returns-clause-kept c =
    resume_keeps _ _ _ _ _ _ c.in_ok-put_state.ensures.does c.come_back.ensures.does

pub returns-clause-over : goal.returns-clause-over
returns-clause-over c = λ image.
    resume_over image _ _ _ _ _ _ c.in_ok-put_state.ensures.does c.come_back.ensures.does
