use Rattle.std.proofs.Common.{◌≡◌, ◌∷◌, List, arith, length, subst, sym}
use Rattle.std.proofs.lemmas.List.{with_items_is}
use Rattle.std.specs.Vec.{with_items}
use Rattle.turn_cell.specs.History.{Each}
use Rattle.host_serve.specs.Holders.{seens}
use Rattle.host_serve.specs.declared.host.Passes.{Passes}
use Rattle.host_top.specs.Rejoining.{AreAllHeld, HaveSeen, JoinsAll}
use Rattle.host_top.proofs.CrewLemmas.{held_then}
use Rattle.host_top.proofs.DoorLemmas.{crew_rejoins}
use Rattle.host_top.proofs.serve.serve_links.Given.{Over}
use Rattle.host_top.proofs.serve.serve_links.Goals.{After-join_all}
use Rattle.host_top.proofs.serve.serve_links.Goals as goal

-- the workers' passes as they are joined are those that served
workers_are : (g : Over) (c : After-join_all g)
    → (with_items c.in-Ok.workers c.serve_door-status.new.workers).items
    ≡ c.serve_door-status.new.workers
workers_are g c =
    with_items_is c.in-Ok.workers c.serve_door-status.new.workers
    (grind (
      arith,
      c.serve_door-status.auto.workers,
      c.deref_mut.ensures.len,
      c.deref_mut.ensures.value,
    ))

split_held : (g : Over) (c : After-join_all g)
    → AreAllHeld c.split_among.new.roots (c.split_among.new.roots ∷ c.deref_mut.result.now)
split_held g c =
    subst (λ (l : List (Passes g.row.O-Disk.Denot)). AreAllHeld c.split_among.new.roots
    (c.split_among.new.roots ∷ l)) (sym c.deref_mut.ensures.value) c.in-Ok.ensures.split.1

pub returns-in-Ok-clause-served : goal.returns-in-Ok-clause-served
returns-in-Ok-clause-served g c =
    let joined = (goal.at.returns-in-Ok-clause-served g c).After-join_all in
    crew_rejoins g.O.Door.Door g.O.Door.Conn.Source.source g.O.Door.Conn.Sink.sink
    g.O.Door.Conn.Link.lent _ _ _ c.args.roots.now c.split_among.new.roots c.join_all.new.roots
    c.deref_mut.result.now c.serve_door-status.new.workers _
    (subst (λ (l : List (Passes g.row.O-Disk.Denot)). length l ≡ c.args.serving.workers)
    (sym c.deref_mut.ensures.value) c.in-Ok.ensures.ok.0)
    (subst (Each (HaveSeen (seens c.args.roots.now.desks.items))) (sym c.deref_mut.ensures.value)
    c.in-Ok.ensures.begin)
    c.serve_door-status.ensures.served c.in-Ok.ensures.split.0 (split_held g joined)
    c.serve_door-status.ensures.held
    (subst (λ (l : List (Passes g.row.O-Disk.Denot)). JoinsAll c.split_among.new.roots l
    c.join_all.new.roots) (workers_are g joined) c.join_all.ensures.joined)

pub returns-in-Ok-clause-whole : goal.returns-in-Ok-clause-whole
returns-in-Ok-clause-whole g c =
    let joined = (goal.at.returns-in-Ok-clause-whole g c).After-join_all in
    c.join_all.ensures.held
    (subst (λ (l : List (Passes g.row.O-Disk.Denot)). AreAllHeld c.split_among.new.roots
    (c.split_among.new.roots ∷ l)) (sym (workers_are g joined))
    (held_then c.split_among.new.roots c.deref_mut.result.now c.serve_door-status.new.workers
    c.serve_door-status.ensures.held (split_held g joined)))
