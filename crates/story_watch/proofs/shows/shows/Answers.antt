use Rattle.std.proofs.Common.{◌∙◌, ap, arith}
use Rattle.gate_journal.specs.declared.command.Command.{Command}
use Rattle.session_core.specs.History.{input_of}
use Rattle.session_core.specs.Answer.{turned_in}
use Rattle.story_watch.proofs.ShowLemmas.{next_show, next_world}
use Rattle.story_watch.proofs.shows.shows.Goals as goal

pub loop-n-preserved : goal.loop-n-preserved
loop-n-preserved c =
    let game = c.args.game.now in
    let late = c.loop-n.invariant.2 in
    let own =
    next_world c.args.stories.now game c.loop-n.n c.index-game-n.result c.loop-n.world
    c.in_ok-world-2.world (omega (arith, late))
    (omega (arith, c.loop-n-test.true, c.requires.there)) c.loop-n.invariant.1
    (c.in_ok-world-2.ensures
    ∙ ap (λ (x : Command). turned_in c.loop-n.world (input_of x)) c.index-game-n.is) in (
      next_show c.args.stories.now game c.args.s c.args.from c.loop-n.n c.loop-n.text.items
          c.push-in-loop-n.new.text.items c.in_ok-world-2.world (omega (arith, late))
          c.loop-n.invariant.0 own c.in_ok-push-2.ensures,
      own,
      omega (arith, late),
    )
