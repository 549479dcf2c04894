use Rattle.std.proofs.Common.{◌∙◌, ◌+◌, ap, drop, sym}
use Rattle.session_saves.specs.Game.{inputs_of}
use Rattle.session_saves.proofs.GameLemmas.{behind_all, behind_input, behind_other}
use Rattle.session_saves.proofs.game.behind.Goals as goal
use Rattle.session_saves.proofs.game.behind.Goals.{then-is_input, else-is_input}

pub returns-then-left-eq0 : goal.returns-then-left-eq0
returns-then-left-eq0 c =
    behind_all c.args.game.now c.loop-at.at c.loop-at.left c.if-left-eq0.true ∙ c.loop-at.invariant

pub loop-at-preserved : goal.loop-at-preserved
loop-at-preserved c =
    let game = c.args.game.now in
    let at = c.loop-at.at in
    elim c.if-is_input.branch [
      | then-is_input w ↦ ap (λ n. drop n (inputs_of (drop (at + 1) game))) w.left-is
          ∙ behind_input game at c.loop-at.left c.index-game-at.result c.loop-at-test.true
          c.index-game-at.is (sym c.is_input.ensures ∙ w.if-is_input.true) c.if-left-eq0.false
          ∙ c.loop-at.invariant
      | else-is_input w ↦ ap (λ n. drop n (inputs_of (drop (at + 1) game))) w.left-is
          ∙ behind_other game at c.loop-at.left c.index-game-at.result c.loop-at-test.true
          c.index-game-at.is (sym c.is_input.ensures ∙ w.if-is_input.false)
          ∙ c.loop-at.invariant
    ]
