use Rattle.std.proofs.Common.{◌++◌, List, Option, arith, subst, sym}
use Rattle.host_serve.specs.Crews.{AllDid, OfBoth, OfSome}
use Rattle.host_serve.proofs.CrewLemmas.{alone, together}
use Rattle.host_serve.proofs.crew.+crew.Goals as goal

pub all_run-returns-then-members-eq1 : goal.all_run-returns-then-members-eq1
all_run-returns-then-members-eq1 g t c = alone (g.C.Crew.did c.args.crew.now) g.C.Crew.is_end
    c.args.members.now c.index-members-0.result c.run.new.member c.run.result
    (omega (arith, c.if-members-eq1.true)) c.run.ensures

pub all_run-returns : goal.all_run-returns
all_run-returns g t c = let cut = c.split_at_mut-front in
    subst (λ (l : List g.row.M.Denot). OfSome (AllDid (g.C.Crew.did c.args.crew.now)
    g.C.Crew.is_end l (c.both_run.new.front ++ c.both_run.new.back)) c.of_two.result)
    (sym cut.ensures.value)
    (together (g.C.Crew.did c.args.crew.now) g.C.Crew.is_end cut.result.0.now
    c.both_run.new.front cut.result.1.now c.both_run.new.back c.both_run.new.a c.both_run.new.b
    c.of_two.result c.both_run.ensures.front c.both_run.ensures.back
    (subst (λ (a : Option g.row.A.Denot). OfBoth g.C.Crew.is_end a c.both_run.new.b
    c.of_two.result) c.take.ensures.value c.of_two.ensures))
