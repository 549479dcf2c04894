use Rattle.std.proofs.Common.{[], ◌∷◌}
use Rattle.disk_model.proofs.WorkLaws.{through}
use Rattle.gate_journal.proofs.Steps.{unsure_torn, unsure_written}
use Rattle.gate_journal.proofs.gate.repair.Goals as goal

pub returns-clause-triple : goal.returns-clause-triple
returns-clause-triple g c front past is =
    through c.args.gate (0 ∷ []) _ (g.met.D.Disk.seen_may_stay c.args.disk.now)
    c.write_through.ensures.ok c.write_through.ensures.crash
    (unsure_torn front past c.args.gate is) (unsure_written front past c.args.gate is)
