use Rattle.std.proofs.lemmas.Result.{err_from_is_err_and, IfErr-weaker}
use Rattle.line_talk.proofs.WritingLemmas.{stopped_more, stopped_then}
use Rattle.host_top.proofs.player.say.Goals as goal

pub returns-in_err-write_all-clause-err : goal.returns-in_err-write_all-clause-err
returns-in_err-write_all-clause-err g c =
    let p = err_from_is_err_and c.from_residual.result c.from_residual.ensures.1 in
    rw (p.1, p.2, ← c.last.ensures.value) (stopped_more _ c.in_err-write_all.ensures.err)

pub returns-clause-err : goal.returns-clause-err
returns-clause-err g c =
    IfErr-weaker c.write_all-2.result _ _
    (λ cause s. rw (← c.last.ensures.value) (stopped_then c.in_ok-write_all.ensures.ok s))
    c.write_all-2.ensures.err
