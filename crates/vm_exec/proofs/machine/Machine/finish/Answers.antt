use Rattle.vm_exec.specs.declared.step.Waiting.TheVariants as waiting
use Rattle.vm_exec.proofs.KeepingCalls.{finish_keeps, finish_over}
use Rattle.vm_exec.proofs.machine.Machine.finish.Goals as goal

pub returns-in-Store-clause-kept : goal.returns-in-Store-clause-kept
returns-in-Store-clause-kept c = λ sound.
    finish_keeps _ _ (waiting.Store c.in-Store.to) c.args.value _ c.store.ensures.does sound.map

pub returns-in-Store-clause-kept_saving : goal.returns-in-Store-clause-kept_saving
returns-in-Store-clause-kept_saving c = λ sound.
    finish_keeps _ _ (waiting.Store c.in-Store.to) c.args.value _ c.store.ensures.does sound.map

pub returns-in-Stub-clause-kept : goal.returns-in-Stub-clause-kept
returns-in-Stub-clause-kept c = λ sound.
    finish_keeps _ _ waiting.Stub c.args.value _ c.finish_save.ensures.does sound.map

pub returns-in-Stub-clause-kept_saving : goal.returns-in-Stub-clause-kept_saving
returns-in-Stub-clause-kept_saving c = λ sound.
    finish_keeps _ _ waiting.Stub c.args.value _ c.finish_save.ensures.does sound.map

pub returns-in-Store-clause-over : goal.returns-in-Store-clause-over
returns-in-Store-clause-over c = λ image sound.
    finish_over image _ _ (waiting.Store c.in-Store.to) c.args.value _ c.store.ensures.does
    sound.map

pub returns-in-Store-clause-over_saving : goal.returns-in-Store-clause-over_saving
returns-in-Store-clause-over_saving c = λ image sound.
    finish_over image _ _ (waiting.Store c.in-Store.to) c.args.value _ c.store.ensures.does
    sound.map

pub returns-in-Stub-clause-over : goal.returns-in-Stub-clause-over
returns-in-Stub-clause-over c = λ image sound.
    finish_over image _ _ waiting.Stub c.args.value _ c.finish_save.ensures.does sound.map

pub returns-in-Stub-clause-over_saving : goal.returns-in-Stub-clause-over_saving
returns-in-Stub-clause-over_saving c = λ image sound.
    finish_over image _ _ waiting.Stub c.args.value _ c.finish_save.ensures.does sound.map
