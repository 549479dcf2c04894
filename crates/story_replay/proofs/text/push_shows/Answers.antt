use Rattle.story_replay.proofs.TextLemmas.{one_show}
use Rattle.story_replay.proofs.text.push_shows.Goals as goal

pub loop-number-preserved : goal.loop-number-preserved
loop-number-preserved g c =
    let world = rw c.as_slice-commands.ensures at c.in_ok-world.ensures in (
      world,
      one_show c.args.stories.now c.args.game.now c.loop-number.number c.is_in_use.result _
          c.lines_of-body.result.now _ c.loop-number.text.items _ c.loop-number.invariant.1
          c.in_ok-push_show.ensures c.lines_of-body.ensures
          (rw c.as_slice-commands.ensures at c.is_in_use.ensures) world,
    )
