use Rattle.session_desk.proofs.SoundLemmas.{whole-emptied}
use Rattle.session_desk.proofs.desk.Desk.forget.Goals as goal

pub invariant_of-self : goal.invariant_of-self
invariant_of-self g c = (
  record {
    numbered = c.self.invariant.0.numbered;
    within = c.self.invariant.0.within;
    in_use = tt;
  },
  c.self.invariant.1,
  whole-emptied g.D.Disk _ _ _ c.self.invariant.2,
)
