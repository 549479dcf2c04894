use Rattle.std.proofs.Common.{ap}
use Rattle.gate_journal.specs.Log.{Log}
use Rattle.gate_journal.proofs.AppendLemmas.{images_spell, images_open, images_stand, uncertain_next}
use Rattle.gate_journal.proofs.journal.Journal.row_count.Goals as goal

pub returns-clause-images : goal.returns-clause-images
returns-clause-images g c =
    images_spell c.self.view_is c.self.invariant.0 _
    (ap (λ (log : Log g.row.D.Denot). log.disk) c.self.view_is)

pub returns-clause-opens : goal.returns-clause-opens
returns-clause-opens g c =
    images_open c.self.view_is c.self.invariant.0 _
    (ap (λ (log : Log g.row.D.Denot). log.disk) c.self.view_is)

pub returns-clause-stands : goal.returns-clause-stands
returns-clause-stands g c = images_stand c.self.view_is c.self.invariant.0 _
    (ap (λ (log : Log g.row.D.Denot). log.disk) c.self.view_is)

pub returns-clause-next : goal.returns-clause-next
returns-clause-next g c = uncertain_next c.self.view_is c.self.invariant.0
