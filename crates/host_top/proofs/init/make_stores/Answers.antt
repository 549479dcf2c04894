use Rattle.std.proofs.Common.{arith, ap, refl, rules, Err}
use Rattle.host_top.proofs.LoansLemmas.{doors_none, doors_then, files_then}
use Rattle.host_top.proofs.InitLemmas.{stores_more, stores_none, stores_tried}
use Rattle.host_top.proofs.LendingLemmas.{on_err}
use Rattle.host_top.proofs.init.make_stores.Goals as goal

pub loop-session-init : goal.loop-session-init
loop-session-init g c = record {
  made = stores_none g.O.Disk.Disk c.args.folder.now (g.O.Outside.outside
      c.args.outside.now);
  later = omega arith;
  listed = λ none. none;
  back = λ name out. out;
  files = record { file = refl; faults = refl };
  doors = doors_none _;
}

pub loop-session-preserved : goal.loop-session-preserved
loop-session-preserved g c = record {
  made = stores_more g.O.Disk.Disk c.args.folder.now c.loop-session.session
      (g.O.Outside.outside c.args.outside.now)
      (g.O.Outside.outside c.loop-session.outside) (g.O.Outside.outside c.make_store.new.outside)
      (omega (arith, c.loop-session-test.true)) c.loop-session.invariant.made
      c.in_ok-make_store.ensures.ok;
  later = omega (arith, c.loop-session.invariant.later, c.make_store.ensures.later);
  listed = λ none. c.make_store.ensures.listed (c.loop-session.invariant.listed none);
  back = λ name out. c.make_store.ensures.back name (c.loop-session.invariant.back name out);
  files = files_then c.loop-session.invariant.files c.make_store.ensures.files;
  doors = doors_then c.loop-session.invariant.doors c.make_store.ensures.doors;
}

pub returns-in_err-make_store-clause-err : goal.returns-in_err-make_store-clause-err
returns-in_err-make_store-clause-err g c = on_err c.from_residual.result _
    (stores_tried g.O.Disk.Disk c.args.folder.now c.loop-session.session
    (g.O.Outside.outside c.args.outside.now)
    (g.O.Outside.outside c.loop-session.outside) (g.O.Outside.outside c.make_store.new.outside)
    (omega (arith, c.loop-session-test.true)) c.loop-session.invariant.made
    c.in_err-make_store.ensures.err)

pub returns-in_err-make_store-clause-stood : goal.returns-in_err-make_store-clause-stood
returns-in_err-make_store-clause-stood g c = λ none out stood failed.
    c.in_err-make_store.ensures.stood (c.loop-session.invariant.listed none)
    (c.loop-session.invariant.back _
    (out c.loop-session.session (omega (arith, c.loop-session-test.true)))) stood
    (search (rules))
