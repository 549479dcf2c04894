use Rattle.std.proofs.Common.{arith}
use Rattle.host_top.proofs.CrewLemmas.{whole_again}
use Rattle.host_top.proofs.RejoinLemmas.{joined_last, joins_all, joins_none, joins_on}
use Rattle.host_top.proofs.serve.join_all.Goals as goal

pub loop-passes-init : goal.loop-passes-init
loop-passes-init g c =
    joins_none _ _ _ c.requires.roots c.requires.passes c.requires.no_root

pub join-requires-clause-passes : goal.join-requires-clause-passes
join-requires-clause-passes g c = (
  c.loop-passes.invariant.kept,
  (joined_last _ _ _ _ _ _ _ c.loop-passes.invariant c.in-Some.ensures.items).0,
)

pub join-requires-clause-numbered : goal.join-requires-clause-numbered
join-requires-clause-numbered g c =
    (joined_last _ _ _ _ _ _ _ c.loop-passes.invariant c.in-Some.ensures.items).1

pub loop-passes-preserved : goal.loop-passes-preserved
loop-passes-preserved g c =
    joins_on _ _ _ _ _ _ _ _ c.loop-passes.invariant c.in-Some.ensures.items
    c.join.ensures.joined c.join.ensures.kept

pub returns-clause-joined : goal.returns-clause-joined
returns-clause-joined g c =
    let none = c.loop-passes.workers.ok.0 in
    let cases = c.in_default.ensures.cases in
    joins_all _ _ _ _ _ c.loop-passes.invariant (omega arith)

pub returns-clause-held : goal.returns-clause-held
returns-clause-held g c =
    let none = c.loop-passes.workers.ok.0 in
    let cases = c.in_default.ensures.cases in
    whole_again _ _ _ (joins_all _ _ _ _ _ c.loop-passes.invariant (omega arith))
