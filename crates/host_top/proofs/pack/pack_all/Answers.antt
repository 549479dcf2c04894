use Rattle.std.proofs.Common.{arith, inr}
use Rattle.host_top.proofs.CauseLemmas.{no_line, over_failed}
use Rattle.host_top.proofs.PackLemmas.{packs_failed, packs_in_use, packs_over, packs_unmade}
use Rattle.host_top.proofs.StoodLemmas.{fetch_stood}
use Rattle.host_top.proofs.pack.pack_all.Goals as goal

pub returns-in-Err-make_stores-clause-value : goal.returns-in-Err-make_stores-clause-value
returns-in-Err-make_stores-clause-value g c =
    packs_unmade g.O.Disk.Disk c.args.new.now c.is_empty.new.disk c.is_empty.ensures.looks
    c.is_empty.ensures.images c.is_empty.ensures.kept c.args.folder.now c.args.old.now
    (g.K.Sink.sink c.args.output.now) (g.O.Outside.outside c.args.outside.now)
    (g.O.Outside.outside c.make_stores.new.outside) c.in-Err-make_stores.why _
    (λ told. (c.in-Ok-true.ensures.ok told).0 c.in-Ok-true.field-0-test)
    c.in-Err-make_stores.ensures.err c.of_fetch.ensures c.in-Err-make_stores.ensures.cause
    c.make_stores.ensures.later

pub returns-in-Ok-clause-value : goal.returns-in-Ok-clause-value
returns-in-Ok-clause-value g c =
    packs_over g.O.Disk.Disk c.args.new.now c.is_empty.new.disk c.is_empty.ensures.looks
    c.is_empty.ensures.images c.is_empty.ensures.kept
    (λ told. (c.in-Ok-true.ensures.ok told).0 c.in-Ok-true.field-0-test) c.in-Ok-true.ensures.seen
    c.in-Ok-true.ensures.cause c.args.old.now c.pack_over.new.old c.pack_over.new.new
    _ _ _ c.args.folder.now (g.O.Outside.outside c.args.outside.now)
    (g.O.Outside.outside c.make_stores.new.outside) c.in-Ok.ensures.ok c.pack_over.ensures.value

pub returns-in-Ok-false-clause-value : goal.returns-in-Ok-false-clause-value
returns-in-Ok-false-clause-value g c =
    packs_in_use g.O.Disk.Disk c.args.new.now c.is_empty.new.disk c.is_empty.ensures.looks
    c.is_empty.ensures.images c.is_empty.ensures.kept c.args.folder.now c.args.old.now _
    (g.O.Outside.outside c.args.outside.now) _ _
    (λ told. (c.in-Ok-false.ensures.ok told).1 c.in-Ok-false.field-0-test)
    c.in-Ok-false.ensures.cause c.say_line.ensures.value

pub returns-in-Err-clause-value : goal.returns-in-Err-clause-value
returns-in-Err-clause-value g c =
    packs_failed g.O.Disk.Disk c.args.new.now c.is_empty.new.disk c.is_empty.ensures.looks
    c.is_empty.ensures.images c.is_empty.ensures.kept c.args.folder.now c.args.old.now _
    (g.O.Outside.outside c.args.outside.now) c.in-Err.ensures.cause.0 c.in-Err.ensures.cause.1

pub returns-in-Err-make_stores-clause-stood : goal.returns-in-Err-make_stores-clause-stood
returns-in-Err-make_stores-clause-stood g c = λ none out stood is.
    absurd (fetch_stood c.in-Err-make_stores.why _ c.of_fetch.ensures
    (c.in-Err-make_stores.ensures.stood none out stood) is)

pub returns-in-Ok-clause-stood : goal.returns-in-Ok-clause-stood
returns-in-Ok-clause-stood g c = λ none out stood is.
    over_failed g.O.Disk.Disk _ c.args.new.now _ _ _ c.in-Ok-true.ensures.cause
    c.pack_over.ensures.value is

pub returns-in-Ok-false-clause-stood : goal.returns-in-Ok-false-clause-stood
returns-in-Ok-false-clause-stood g c = λ none out stood is.
    no_line _ (λ e. absurd (grind (arith, e))) (rw is at c.say_line.ensures.value)

pub returns-in-Err-clause-stood : goal.returns-in-Err-clause-stood
returns-in-Err-clause-stood g c = λ none out stood is. inr c.in-Err.ensures.cause.1
