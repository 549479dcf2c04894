use Rattle.host_serve.specs.Doors.{Visits}
use Rattle.host_serve.specs.Hosts.{IsSound}
use Rattle.host_serve.proofs.shift.ShiftCrewPassesWorked.run.Given as goal

abbrev pub invariant-loop : goal.invariant-loop
invariant-loop g l = Visits g.O.Conn.Source.source g.O.Conn.Sink.sink g.O.Conn.Link.lent
    (g.O.Door.gives l.self.door.now) (IsSound g.D.Disk) l.self.host.now l.fn.passes l.passes
