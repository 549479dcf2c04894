use Rattle.std.proofs.Common.{sym, subst}
use Rattle.line_words.specs.declared.reply.No.{No}
use Rattle.line_words.specs.declared.reply.Reply.TheVariants as replies
use Rattle.session_core.specs.declared.entry.Outcome.{Outcome}
use Rattle.host_serve.specs.Chain.{TurnsOnNone}
use Rattle.host_serve.proofs.TurnLemmas.{nowhere, unread_turned, wanting_turned}
use Rattle.host_serve.proofs.answer.to_unread.Goals as goal
use Rattle.host_serve.proofs.answer.to_unread.Goals.{in-NoMemory, in_default}

pub returns : goal.returns
returns c = λ stories budget seen. elim c.match-why.branch [
  | in-NoMemory w ↦
      subst (λ (x : No × Outcome). TurnsOnNone stories budget seen
      (nowhere c.args._line.now (replies.No x.0) x.1) seen)
      (λ i. (sym w.in-NoMemory.is i, sym w.outcome-is i))
      (wanting_turned stories budget c.args._line.now seen)
  | in_default w ↦
      subst (λ (o : Outcome). TurnsOnNone stories budget seen
      (nowhere c.args._line.now (replies.No c.args.why) o) seen) (sym w.outcome-is)
      (unread_turned stories budget c.args._line.now c.args.why seen c.requires
      w.in_default.not-NoMemory)
]
