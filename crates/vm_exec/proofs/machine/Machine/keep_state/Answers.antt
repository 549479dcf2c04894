use Rattle.std.proofs.Common.{◌∙◌}
use Rattle.vm_exec.proofs.FitLemmas.{lent-fit, saved_is}
use Rattle.vm_exec.proofs.machine.Machine.keep_state.Goals as goal

pub returns-in-Ok-kept-clause-fit : goal.returns-in-Ok-kept-clause-fit
returns-in-Ok-kept-clause-fit c =
    let is = saved_is c.args.self.now c.replace.result c.of.result c.of-2.result c.start.result
    c.replace.ensures.value (c.of.ensures.value ∙ c.in-Ok.ensures.value)
    (c.of-2.ensures.value ∙ c.in-Ok-from_slice.ensures.items ∙ c.blocks-2.ensures.value)
    c.start.ensures.value in
    lent-fit c.args.self.now c.replace.result _ c.save-kept.new.self c.replace.ensures.value is
    c.in-Ok-kept.ensures.ok c.requires.fit c.requires.ready
