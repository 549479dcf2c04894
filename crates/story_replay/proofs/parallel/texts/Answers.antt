use Rattle.std.proofs.Common.{◌≡◌, ap, ◌∙◌, IfOk}
use Rattle.rayon.proofs.ToStd.{slice-AllZip}
use Rattle.rayon.specs.declared.slice.Iter.{Iter}
use Rattle.story_replay.specs.Text.{game_text}
use Rattle.story_replay.specs.declared.game.Game.{Game}
use Rattle.story_replay.proofs.TextLemmas.{collected}
use Rattle.story_replay.proofs.parallel.texts.Goals as goal

pub returns : goal.returns
returns g c =
    let slice =
    ap (λ (it : Iter Game). it.slice.now) c.with_min_len.ensures.base ∙ c.par_iter.ensures in
    let h = c.in_ok-collect.ensures in
    let chain = rw (c.map.ensures.base, c.map.ensures.f) at h.1 in
    collected _ (λ v. v.items) (game_text c.args.stories.now) c.args.games.now h.0 _ h.2
    (slice-AllZip chain.0 c.args.games.now (chain.1 ∙ slice)
    (λ x y. IfOk y (λ t. t ≡ game_text c.args.stories.now x)) h.0 chain.2)
