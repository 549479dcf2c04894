use Rattle.std.proofs.lemmas.Result.{err_from_is_err_and}
use Rattle.line_talk.proofs.WritingLemmas.{stopped_at_once}
use Rattle.host_top.proofs.refuse.say_bad.Goals as goal

pub returns-in_err-line-clause-err : goal.returns-in_err-line-clause-err
returns-in_err-line-clause-err g c =
    let p = err_from_is_err_and c.from_residual.result c.from_residual.ensures.1 in
    rw (p.1, p.2) (stopped_at_once _ _)
