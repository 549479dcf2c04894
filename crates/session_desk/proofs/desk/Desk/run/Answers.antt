use Rattle.session_desk.specs.Desk.{game}
use Rattle.session_desk.specs.Inside.{state_of}
use Rattle.session_desk.proofs.HeldLemmas.{used-then}
use Rattle.session_desk.proofs.SoundLemmas.{whole-emptied, whole-run}
use Rattle.session_desk.proofs.desk.Desk.run.Goals as goal

pub invariant_of-self : goal.invariant_of-self
invariant_of-self g c =
    rw c.replace-held.ensures.after (
      record {
        numbered = c.self.invariant.0.numbered;
        within = c.self.invariant.0.within;
        in_use = tt;
      },
      c.self.invariant.1,
      whole-emptied g.D.Disk _ _ _ c.self.invariant.2,
    )

pub invariant_of-self-2 : goal.invariant_of-self-2
invariant_of-self-2 g c =
    rw (
      c.in_ok-now.ensures,
      c.replace-held.ensures.value,
      c.game_at-game.ensures.value,
      c.deref.ensures.value,
    ) (
      record {
        numbered = c.self.invariant.0.numbered;
        within = c.self.invariant.0.within;
        in_use =
            used-then c.self.inside.stories.now (game (state_of c.self.inside).desk)
            c.self.inside.held c.self.invariant.0.in_use;
      },
      c.self.invariant.1,
      whole-run g.D.Disk _ _ _ c.self.invariant.2,
    )
