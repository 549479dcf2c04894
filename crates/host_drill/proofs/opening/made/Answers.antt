use Rattle.std.proofs.Common.{arith, ap, subst, sym, Bool, IsTrue, length}
use Rattle.host_drill.proofs.opening.made.Goals as goal

pub returns-in-Ok : goal.returns-in-Ok
returns-in-Ok g c = record {
  ok = (
    subst (λ (b : Bool). IsTrue b) (sym c.make.ensures.kept.telling) c.requires.tells,
    c.in-Ok.ensures.value c.requires.tells (omega (arith, ap length c.requires.empty)) _
        (g.met.D.Disk.seen_may_stay c.make.new.disk),
  );
}
