use Rattle.std.proofs.Common.{ap, sym, subst, ◌∙◌, inl, inr, ⊎_elim, rules}
use Rattle.session_desk.specs.Shared.{DeskTag}
use Rattle.session_desk.specs.Sound.{IsSoundDesk}
use Rattle.host_serve.proofs.ListLemmas.{same_some}
use Rattle.host_serve.proofs.TurnLemmas.{turns_in}
use Rattle.host_serve.proofs.turn.play_in.Goals as goal

pub leave-requires-clause-value : goal.leave-requires-clause-value
leave-requires-clause-value g c = (
  (search rules),
  ⊎_elim (λ same. inl (search rules))
      (λ one.
      inr (one.0, (search rules), (search rules)))
      c.answer-reply.ensures.adds,
)

pub returns-clause-value : goal.returns-clause-value
returns-clause-value g c =
    let its = c.requires.tag in
    let tag = same_some _ _ (sym c.enter-desk.ensures.tag ∙ its.2) in
    let turn = c.answer-reply.ensures.turn in (
      turn.now,
      turns_in _ _ _ _ _ _ _ c.enter-desk.result.desk c.enter-desk.result.history
          c.number-by.result c.args.request.now c.number-by.ensures c.enter-desk.ensures.value
          c.enter-desk.ensures.alone c.requires.read c.requires.plays
          (ap (λ (t : DeskTag g.row.D.Denot). t.stories) tag) c.answer-reply.ensures.commands
          c.count-length.ensures
          (λ sound. turn.own
          (subst (IsSoundDesk g.D.Disk) (sym tag) (sound _ its.0 its.1)))
          turn.met turn.reply (c.leave.ensures.seen ∙ turn.history),
    )
