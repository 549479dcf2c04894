use Rattle.std.proofs.Common.{rules}
use Rattle.host_top.specs.Folder.{AreSame}
use Rattle.host_top.proofs.ConversedLemmas.{same_back, same_stores, stores_back}
use Rattle.host_top.proofs.UsedLemmas.{hosted_so}
use Rattle.host_top.proofs.CrewLemmas.{lone_held}
use Rattle.host_top.proofs.DoorLemmas.{host_serves, none_at_seven}
use Rattle.host_top.proofs.IdleLemmas.{no_row}
use Rattle.host_top.proofs.LinksLemmas.{are_roots, links_served, no_doors}
use Rattle.host_top.proofs.serve.serve_over.Given.{Over}
use Rattle.host_top.proofs.serve.serve_over.Goals.{After-end-journal}
use Rattle.host_top.proofs.serve.serve_over.Goals as goal

pub returns-in-Err-clause-value : goal.returns-in-Err-clause-value
returns-in-Err-clause-value g c = λ input.
    hosted_so g.D.Disk _ _ c.args.disks.journal c.args.disks.snaps.items
    c.in-Err.refusal.1 _ _ _ _ _
    (λ journal snaps none. absurd none) (c.in-Err.ensures.refused input)

pub returns-in-Err-clause-doors : goal.returns-in-Err-clause-doors
returns-in-Err-clause-doors g c =
    no_doors _ c.in-Err.refusal.0 c.in-Err.ensures.status.0 c.in-Err.ensures.status.1

pub serve_links-status-requires-clause-roots : goal.serve_links-status-requires-clause-roots
serve_links-status-requires-clause-roots g c = search (rules, are_roots)

pub serve_links-status-requires-clause-held : goal.serve_links-status-requires-clause-held
serve_links-status-requires-clause-held g c =
    λ κ within. lone_held c.in-Ok.opened.1 c.in-Ok.ensures.ok.2.alone

pub returns-clause-value : goal.returns-clause-value
returns-clause-value g c = λ input. rw c.in-Ok.ensures.silent (links_served g.D.Disk _
    _ _ _ _ _ _ _ _ _ _ _ c.in-Ok.ensures.ok.2 c.end-journal.ensures.value input _ _
    c.serve_links-status.ensures.value c.in-Ok.ensures.ok.1
    (host_serves g.O.Door.Door g.O.Door.Conn.Source.source g.O.Door.Conn.Sink.sink
    g.O.Door.Conn.Link.lent g.D.Disk _ _ _ _ _ _ _ _ _ _ _ _ c.in-Ok.ensures.ok.2
    c.in-Ok.ensures.sound c.serve_links-status.ensures.served c.serve_links-status.ensures.whole
    c.end-journal.ensures.value)
    (λ idle. no_row g.D.Disk _ _ c.args.disks.snaps.items _ _ _ _ _ _ _ c.in-Ok.ensures.ok.2
    c.end-journal.ensures.value c.serve_links-status.ensures.whole
    (none_at_seven _ _ c.serve_links-status.ensures.served idle))
    (stores_back g.D.Disk _ _ _ _ _ _ _ _ _ _ c.in-Ok.ensures.ok.2
    c.end-journal.ensures.value c.in-Ok.ensures.stores c.end-journal.ensures.stores
    (g.met.D.Disk g.world.𝓛 g.world.𝓜 g.world.𝓡
    ((λ s x. x), (λ x. x), (λ x. x), λ x. x)).seen_may_stay c.in-Ok.ensures.sound))

stores_same : (g : Over) (c : After-end-journal g)
    → AreSame g.D.Disk c.args.disks.snaps.items c.end-journal.result.1.items
stores_same g c = same_stores g.D.Disk _ _ _ _ _ _ _ _ _ _ c.in-Ok.ensures.ok.2
    c.end-journal.ensures.value c.in-Ok.ensures.stores c.end-journal.ensures.stores

pub returns-clause-kept : goal.returns-clause-kept
returns-clause-kept g c = (
  same_back g.D.Disk _ _ c.args.disks.snaps.items _ _ _ _ _ _ _
      c.in-Ok.ensures.ok.2 c.end-journal.ensures.value,
  stores_same g (goal.at.returns-clause-kept g c).After-end-journal,
)
