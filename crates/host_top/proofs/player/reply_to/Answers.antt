use Rattle.std.proofs.lemmas.Result.{err_from_is_err_and}
use Rattle.line_talk.proofs.WritingLemmas.{stopped_at_once}
use Rattle.host_top.proofs.player.reply_to.Goals as goal

pub returns-in_err-world-clause-err : goal.returns-in_err-world-clause-err
returns-in_err-world-clause-err g c =
    let p =
    err_from_is_err_and c.from_residual-in_err-world.result
    c.from_residual-in_err-world.ensures.1 in
    rw (p.1, p.2) (stopped_at_once _ _)
