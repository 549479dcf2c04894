use Rattle.std.proofs.Common.{refl}
use Rattle.gate_journal.proofs.AppendLemmas.{images_spell, images_open, images_stand, uncertain_next}
use Rattle.gate_journal.proofs.journal.Journal.into_disk.Goals as goal

pub returns-clause-images : goal.returns-clause-images
returns-clause-images g c = images_spell c.self.view_is c.self.invariant.0 _ refl

pub returns-clause-opens : goal.returns-clause-opens
returns-clause-opens g c = images_open c.self.view_is c.self.invariant.0 _ refl

pub returns-clause-stands : goal.returns-clause-stands
returns-clause-stands g c = images_stand c.self.view_is c.self.invariant.0 _ refl

pub returns-clause-next : goal.returns-clause-next
returns-clause-next g c = uncertain_next c.self.view_is c.self.invariant.0
