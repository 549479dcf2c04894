use Rattle.std.proofs.Common.{arith}
use Rattle.session_saves.proofs.GameLemmas.{inputs_within}
use Rattle.session_desk.proofs.game.inputs_at.Goals as goal

pub overflow_cast-result : goal.overflow_cast-result
overflow_cast-result c =
    omega (
      arith,
      c.requires.within,
      c.game_at.ensures.within,
      inputs_within c.game_at.result.now,
      c.inputs_of.ensures.value,
    )
