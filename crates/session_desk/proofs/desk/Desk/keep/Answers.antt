use Rattle.session_desk.proofs.SoundLemmas.{whole-kept}
use Rattle.session_desk.proofs.desk.Desk.keep.Goals as goal

pub invariant_of-self : goal.invariant_of-self
invariant_of-self g c = (
  c.self.invariant.0,
  c.self.invariant.1,
  whole-kept g.D.Disk c.self.inside.marks.items c.self.inside.place _
      c.keep.new.self c.self.invariant.2 c.keep.ensures.kept c.keep.ensures.counts
      c.keep.ensures.reach c.in-Some-Current.place c.inputs_at-count.result
      c.in-Some-Current.world c.in-Some-Current.is-0 (rw c.deref.ensures.value at c.inputs_at-count.ensures)
      c.in-Some-Current.is-1 c.keep.ensures.kept_up c.keep.ensures.agreed c.keep.ensures.crash
      c.keep.ensures.newest,
)
