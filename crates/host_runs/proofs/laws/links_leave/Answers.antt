use Rattle.host_top.specs.DoorServed.{HostServes}
use Rattle.host_runs.proofs.LeavesLemmas.{links_run}
use Rattle.host_runs.proofs.laws.links_leave.Goals as goal

pub returns : goal.returns
returns g c =
    links_run g.O.Disk.Disk
    (HostServes g.O.Door.Door g.O.Door.Conn.Source.source g.O.Door.Conn.Sink.sink
    g.O.Door.Conn.Link.lent g.O.Disk.Disk)
