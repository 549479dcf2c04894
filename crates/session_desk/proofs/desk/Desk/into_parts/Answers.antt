use Rattle.std.proofs.Common.{ap}
use Rattle.session_desk.proofs.SoundLemmas.{ends_store}
use Rattle.session_desk.proofs.desk.Desk.into_parts.Goals as goal

pub returns : goal.returns
returns g c =
    rw (← c.self.view_is)
    (record {
      value = ap (λ store. (c.self.inside.pass, store)) c.into_store-store.ensures.value;
      shared = record {
        pass = c.self.invariant.2.marked.of_session;
        commands = c.self.invariant.2.marked.commands;
        entries = c.self.invariant.2.marked.entries;
      };
      store =
          ends_store g.D.Disk c.self.inside.marks.items c.self.inside.place _ c.self.invariant.2
          (rw c.into_store-store.ensures.value at c.is_made-made.ensures.images);
    })
