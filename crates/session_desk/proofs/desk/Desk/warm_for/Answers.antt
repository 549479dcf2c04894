use Rattle.session_desk.proofs.DeskWarming.{warms_tell_ok}
use Rattle.session_desk.proofs.desk.Desk.warm_for.Goals as goal

pub returns-in-Cold-clause-warm : goal.returns-in-Cold-clause-warm
returns-in-Cold-clause-warm g c =
    warms_tell_ok g.D.Disk c.args.request.now
    c.args.self.now c.warm.new.self _ _ c.warm.result c.warm.ensures.found
