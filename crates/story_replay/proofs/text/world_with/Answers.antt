use Rattle.std.proofs.Common.{ap, ◌∙◌, arith, Option}
use Rattle.std.proofs.lemmas.Result.{IfOk-weaker}
use Rattle.session_core.specs.Answer.{turned_in}
use Rattle.session_core.specs.History.{input_of}
use Rattle.story_run.specs.World.{WorldState}
use Rattle.story_replay.proofs.TextLemmas.{world_more}
use Rattle.story_replay.proofs.text.world_with.Goals as goal

pub returns : goal.returns
returns g c =
    let command = c.index-game-number.result in
    IfOk-weaker c.turned_in.result _ _ (λ after is.
    is ∙ ap (λ (w : Option WorldState). turned_in w (input_of command)) c.requires.before
    ∙ world_more c.args.stories.now c.args.game.now c.args.number command
    (omega (arith, c.if-number-eq0.false)) c.requires.within c.index-game-number.is) c.turned_in.ensures
