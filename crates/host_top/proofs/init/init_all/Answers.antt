use Rattle.std.proofs.Common.{arith}
use Rattle.host_top.proofs.BegunLemmas.{inits_over, inits_failed, inits_in_use, inits_unmade}
use Rattle.host_top.proofs.CauseLemmas.{no_line}
use Rattle.host_top.proofs.StoodLemmas.{begin_failed, fetch_stood}
use Rattle.host_top.proofs.init.init_all.Goals as goal

pub returns-in-Err-make_stores-clause-value : goal.returns-in-Err-make_stores-clause-value
returns-in-Err-make_stores-clause-value g c = inits_unmade g.O.Disk.Disk c.args.disk.now
    c.is_empty.new.disk c.is_empty.ensures.looks c.is_empty.ensures.kept
    c.args.folder.now
    (g.O.Outside.outside c.args.outside.now) (g.O.Outside.outside c.make_stores.new.outside)
    (g.K.Sink.sink c.args.output.now) c.in-Err-make_stores.why _
    (λ told. (c.in-Ok-true.ensures.ok told).0 c.in-Ok-true.field-0-test)
    c.in-Err-make_stores.ensures.err c.of_fetch.ensures c.in-Err-make_stores.ensures.cause
    c.make_stores.ensures.later

pub returns-in-Ok-clause-value : goal.returns-in-Ok-clause-value
returns-in-Ok-clause-value g c = inits_over g.O.Disk.Disk c.args.disk.now
    c.is_empty.new.disk c.is_empty.ensures.looks c.is_empty.ensures.kept
    (λ told. (c.in-Ok-true.ensures.ok told).0 c.in-Ok-true.field-0-test) c.in-Ok-true.ensures.seen
    c.in-Ok-true.ensures.cause
    c.init_over.new.disk _ _ _ c.args.folder.now (g.O.Outside.outside c.args.outside.now)
    (g.O.Outside.outside c.make_stores.new.outside) c.in-Ok.ensures.ok c.init_over.ensures.value

pub returns-in-Ok-false-clause-value : goal.returns-in-Ok-false-clause-value
returns-in-Ok-false-clause-value g c = inits_in_use g.O.Disk.Disk c.args.disk.now
    c.is_empty.new.disk c.is_empty.ensures.looks c.is_empty.ensures.kept
    c.args.folder.now
    (g.O.Outside.outside c.args.outside.now) _ _ _
    (λ told. (c.in-Ok-false.ensures.ok told).1 c.in-Ok-false.field-0-test)
    c.in-Ok-false.ensures.cause c.say_line.ensures.value

pub returns-in-Err-clause-value : goal.returns-in-Err-clause-value
returns-in-Err-clause-value g c = inits_failed g.O.Disk.Disk c.args.disk.now
    c.is_empty.new.disk c.is_empty.ensures.looks c.is_empty.ensures.kept
    c.args.folder.now
    (g.O.Outside.outside c.args.outside.now) _ c.in-Err.ensures.cause.0 c.in-Err.ensures.cause.1

pub returns-in-Err-make_stores-clause-stood : goal.returns-in-Err-make_stores-clause-stood
returns-in-Err-make_stores-clause-stood g c = λ none out stood is.
    absurd (fetch_stood c.in-Err-make_stores.why _ c.of_fetch.ensures
    (c.in-Err-make_stores.ensures.stood none out stood) is)

pub returns-in-Ok-clause-stood : goal.returns-in-Ok-clause-stood
returns-in-Ok-clause-stood g c = λ none out stood is.
    begin_failed g.O.Disk.Disk c.args.disk.now c.is_empty.new.disk c.init_over.new.disk _ _ _
    c.in-Ok-true.ensures.cause c.init_over.ensures.value is

pub returns-in-Ok-false-clause-stood : goal.returns-in-Ok-false-clause-stood
returns-in-Ok-false-clause-stood g c = λ none out stood is.
    no_line _ (λ e. absurd (grind (arith, e))) (rw is at c.say_line.ensures.value)

pub returns-in-Err-clause-stood : goal.returns-in-Err-clause-stood
returns-in-Err-clause-stood g c = λ none out stood is. c.in-Err.ensures.cause.1
