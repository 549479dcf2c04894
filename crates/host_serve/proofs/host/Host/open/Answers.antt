use Rattle.std.proofs.Common.{subst, sym, ◌∙◌}
use Rattle.std.proofs.lemmas.Slice.Zip.{AllZip-long}
use Rattle.gate_journal.specs.Log.{Opening, rows_of}
use Rattle.host_serve.specs.Opening.{IsOpenedHost}
use Rattle.host_serve.proofs.OpeningLemmas.{opening_on}
use Rattle.host_serve.proofs.StoreLemmas.{AreStoresOf, sound_of}
use Rattle.host_serve.proofs.host.Host.open.Goals as goal

pub open_over-requires-clause-many : goal.open_over-requires-clause-many
open_over-requires-clause-many g c =
    AllZip-long _ c.args.snaps.items _ c.in-Ok-open_stores.ensures.ok ∙ c.requires.snaps

pub returns-in-Ok-open_over-clause-ok : goal.returns-in-Ok-open_over-clause-ok
returns-in-Ok-open_over-clause-ok g c = (
  rows_of c.in-Ok.journal.entries,
  c.in-Ok-open_over.ensures.journal,
  c.in-Ok.ensures.ok,
  subst (λ (o : Opening g.row.D.Denot). IsOpenedHost c.args.stories.now c.args.budget
      (rows_of c.in-Ok.journal.entries) o c.in-Ok-open_over.opened.0 c.in-Ok-open_over.opened.1)
      (opening_on c.args.journal c.in-Ok.journal c.in-Ok.ensures.fresh.0 c.in-Ok.ensures.fresh.2)
      c.in-Ok-open_over.ensures.ok,
)

pub returns-in-Ok-open_over-clause-stores : goal.returns-in-Ok-open_over-clause-stores
returns-in-Ok-open_over-clause-stores g c =
    subst (AreStoresOf g.D.Disk
    c.args.snaps.items) (sym c.in-Ok-open_over.ensures.stores) c.in-Ok-open_stores.ensures.ok

pub returns-in-Ok-open_over-clause-sound : goal.returns-in-Ok-open_over-clause-sound
returns-in-Ok-open_over-clause-sound g c = λ agreed.
    sound_of g.D.Disk c.in-Ok-open_over.opened.0 c.args.stories.now c.args.snaps.items
    (subst (AreStoresOf g.D.Disk
    c.args.snaps.items) (sym c.in-Ok-open_over.ensures.stores) c.in-Ok-open_stores.ensures.ok)
    c.in-Ok-open_over.ensures.ok.stories agreed
