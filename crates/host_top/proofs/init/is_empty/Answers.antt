use Rattle.std.proofs.Common.{arith}
use Rattle.host_top.proofs.InitLemmas.{empty_so, looked_at}
use Rattle.host_top.proofs.init.is_empty.Goals as goal

pub returns-clause-ok : goal.returns-clause-ok
returns-clause-ok g c =
    λ told. empty_so (g.D.Disk.seen c.args.disk.now) c.in_ok-size.size _
    (c.in_ok-size.ensures.ok.1 told) (λ e. grind (arith, e)) (λ e. grind (arith, e))

pub returns-clause-looks : goal.returns-clause-looks
returns-clause-looks g c = looked_at g.D.Disk c.args.disk.now c.size.new.self
    c.size.ensures.reach c.size.ensures.crash c.size.ensures.time
    (g.met.D.Disk.only_now c.args.disk.now)

pub returns-in_err-size-clause-looks : goal.returns-in_err-size-clause-looks
returns-in_err-size-clause-looks g c = looked_at g.D.Disk c.args.disk.now c.size.new.self
    c.size.ensures.reach c.size.ensures.crash c.size.ensures.time
    (g.met.D.Disk.only_now c.args.disk.now)
