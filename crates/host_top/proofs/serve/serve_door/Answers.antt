use Rattle.host_top.proofs.DoorLemmas.{workers_held, workers_kept, workers_no_root, workers_serve}
use Rattle.host_top.proofs.serve.serve_door.Goals as goal

pub returns-clause-served : goal.returns-clause-served
returns-clause-served g c =
    workers_serve g.O.Door.Door g.O.Door.Conn.Source.source g.O.Door.Conn.Sink.sink
    g.O.Door.Conn.Link.lent _ _ _ _ _ _ _ c.work-how.ensures.did c.of_worked-status.ensures

pub returns-clause-kept : goal.returns-clause-kept
returns-clause-kept g c =
    workers_kept g.O.Door.Door g.O.Door.Conn.Source.source g.O.Door.Conn.Sink.sink
    g.O.Door.Conn.Link.lent _ _ _ _ _ _ c.work-how.ensures.did.each

pub returns-clause-no_root : goal.returns-clause-no_root
returns-clause-no_root g c =
    workers_no_root g.O.Door.Door g.O.Door.Conn.Source.source g.O.Door.Conn.Sink.sink
    g.O.Door.Conn.Link.lent _ _ _ _ _ _ c.work-how.ensures.did.each

pub returns-clause-held : goal.returns-clause-held
returns-clause-held g c =
    workers_held g.O.Door.Door g.O.Door.Conn.Source.source g.O.Door.Conn.Sink.sink
    g.O.Door.Conn.Link.lent _ _ _ _ _ _ c.work-how.ensures.did.each
