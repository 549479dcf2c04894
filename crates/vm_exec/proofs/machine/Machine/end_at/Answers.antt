use Rattle.std.proofs.Common.{ℕ, max, ap, ◌∙◌}
use Rattle.vm_exec.proofs.FitLemmas.{ended}
use Rattle.vm_exec.proofs.machine.Machine.end_at.Goals as goal

pub returns-clause-fit : goal.returns-clause-fit
returns-clause-fit c =
    ended c.args.self.now c.resize.new.self c.args.end c.max.result c.resize.result
    (c.max.ensures ∙ ap (λ (n : ℕ). max n c.args.end) c.endmem-least.ensures.value)
    c.resize.ensures.does
