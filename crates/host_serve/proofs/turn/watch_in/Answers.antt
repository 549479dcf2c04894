use Rattle.std.proofs.Common.{refl, rules}
use Rattle.host_serve.specs.Serves.{own_world}
use Rattle.host_serve.proofs.TurnLemmas.{watches_in}
use Rattle.host_serve.proofs.turn.watch_in.Goals as goal

pub returns-in_default-clause-value : goal.returns-in_default-clause-value
returns-in_default-clause-value g c =
    let before = c.enter-desk.result.history in (
      own_world c.args.host.now.stories.now before,
      watches_in _ _ _ _ _ _ _ before c.enter-desk.result.desk.commands c.args.s c.args.word.now
          c.args.from c.enter-desk.ensures.value c.enter-desk.ensures.alone c.requires.read
          (search rules) (search rules) refl (search rules) (search rules),
    )

pub returns-in-Ok-watch-clause-value : goal.returns-in-Ok-watch-clause-value
returns-in-Ok-watch-clause-value g c =
    let before = c.enter-desk.result.history in (
      own_world c.args.host.now.stories.now before,
      watches_in _ _ _ _ _ _ _ before c.enter-desk.result.desk.commands c.args.s c.args.word.now
          c.args.from c.enter-desk.ensures.value c.enter-desk.ensures.alone c.requires.read
          (search rules) (search rules) refl (search rules) (search rules),
    )

pub returns-clause-value : goal.returns-clause-value
returns-clause-value g c =
    let before = c.enter-desk.result.history in (
      own_world c.args.host.now.stories.now before,
      watches_in _ _ _ _ _ _ _ before c.enter-desk.result.desk.commands c.args.s c.args.word.now
          c.args.from c.enter-desk.ensures.value c.enter-desk.ensures.alone c.requires.read
          (search rules) (search rules) refl (search rules) (search rules),
    )
