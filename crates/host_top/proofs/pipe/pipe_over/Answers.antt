use Rattle.host_top.specs.Folder.{AreSame}
use Rattle.host_top.proofs.ConversedLemmas.{conversed, same_back, same_stores, stores_back}
use Rattle.host_top.proofs.UsedLemmas.{hosted_so}
use Rattle.host_top.proofs.pipe.pipe_over.Given.{Over}
use Rattle.host_top.proofs.pipe.pipe_over.Goals.{After-end-journal}
use Rattle.host_top.proofs.pipe.pipe_over.Goals as goal

pub returns-in-Err-clause-value : goal.returns-in-Err-clause-value
returns-in-Err-clause-value g c =
    hosted_so g.D.Disk _ _ c.args.disks.journal c.args.disks.snaps.items
    c.in-Err.refusal.1 _ _ _ _ _ (λ journal snaps none. absurd none)
    (c.in-Err.ensures.refused (g.S.Source.source c.args.input.now))

pub returns-clause-value : goal.returns-clause-value
returns-clause-value g c = (
  c.answer_lines-served.result,
  c.of_end.ensures,
  rw (← c.in-Ok.ensures.silent) (conversed g.D.Disk _ _ _ _ _ _ _ _ _ _
      c.in-Ok.ensures.ok.2 c.end-journal.ensures.value c.answer_lines-served.ensures.holders _
      c.answer_lines-served.ensures.value c.in-Ok.ensures.ok.1 c.in-Ok.ensures.sound
      (stores_back g.D.Disk _ _ _ _ _ _ _ _ _ _ c.in-Ok.ensures.ok.2
      c.end-journal.ensures.value c.in-Ok.ensures.stores c.end-journal.ensures.stores
      g.met.D.Disk.seen_may_stay c.in-Ok.ensures.sound)),
)

stores_same : (g : Over) (c : After-end-journal g)
    → AreSame g.D.Disk c.args.disks.snaps.items c.end-journal.result.1.items
stores_same g c = same_stores g.D.Disk _ _ _ _ _ _ _ _ _ _ c.in-Ok.ensures.ok.2
    c.end-journal.ensures.value c.in-Ok.ensures.stores c.end-journal.ensures.stores

pub returns-clause-kept : goal.returns-clause-kept
returns-clause-kept g c = (
  same_back g.D.Disk _ _ c.args.disks.snaps.items _ _ _ _ _ _ _
      c.in-Ok.ensures.ok.2 c.end-journal.ensures.value,
  stores_same g (goal.at.returns-clause-kept g c).After-end-journal,
)
