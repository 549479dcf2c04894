use Rattle.host_serve.proofs.DoorLemmas.{hung_up, visit_of, visits_more, visits_none, works_of}
use Rattle.host_serve.proofs.shift.ShiftCrewPassesWorked.run.Goals as goal

pub loop-init : goal.loop-init
loop-init g c = visits_none g.O.Conn.Source.source g.O.Conn.Sink.sink g.O.Conn.Link.lent
    (g.O.Door.gives c.args.self.now.door.now) _ _ _ c.requires

pub hang_up-requires : goal.hang_up-requires
hang_up-requires g c = let s = c.serve-why.ensures in
    hung_up _ s.value.0 _ _ _ _ _ _ s.value.1 c.in-Link.ensures.1 s.read_fault s.write_fault

pub loop-preserved : goal.loop-preserved
loop-preserved g c = let s = c.serve-why.ensures in
    visits_more g.O.Conn.Source.source g.O.Conn.Sink.sink g.O.Conn.Link.lent
    (g.O.Door.gives c.args.self.now.door.now) _ _ _ _ _ c.loop.invariant (
      record {
        taken = c.in-Link.link;
        left = c.serve-why.new.link;
        why = c.serve-why.result;
        turns = s.value.0;
      },
      visit_of g.O.Conn.Source.source g.O.Conn.Sink.sink g.O.Conn.Link.lent
          (g.O.Door.gives c.args.self.now.door.now) c.in-Link.link c.serve-why.new.link
          c.serve-why.result s.value.0 c.new-marks.result.items
          c.serve-why.new.marks.items c.new-marks.ensures.items c.in-Link.ensures s.value.1
          s.link s.read_fault s.write_fault,
      s.value.2,
    )
    s.kept s.holders

pub returns-in-Shut : goal.returns-in-Shut
returns-in-Shut g c = works_of g.O.Conn.Source.source g.O.Conn.Sink.sink g.O.Conn.Link.lent
    (g.O.Door.gives c.args.self.now.door.now) _ _ (g.O.Door.shuts c.args.self.now.door.now)
    (g.O.Door.fails c.args.self.now.door.now) _ _ _ c.requires c.loop.invariant
    c.in-Shut.ensures

pub returns-in-Failed : goal.returns-in-Failed
returns-in-Failed g c = works_of g.O.Conn.Source.source g.O.Conn.Sink.sink g.O.Conn.Link.lent
    (g.O.Door.gives c.args.self.now.door.now) _ _ (g.O.Door.shuts c.args.self.now.door.now)
    (g.O.Door.fails c.args.self.now.door.now) _ _ _ c.requires c.loop.invariant
    c.in-Failed.ensures
