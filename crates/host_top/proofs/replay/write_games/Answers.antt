use Rattle.std.proofs.Common.{◌≡◌, ◌∙◌, ◌++◌, refl, sym, ap, List, ℕ, take, drop}
use Rattle.std.proofs.lemmas.List.{take-append-drop}
use Rattle.std.proofs.lemmas.Result.{err_from_is_err_and}
use Rattle.std.specs.List.{flat_map}
use Rattle.line_talk.proofs.WritingLemmas.{stopped_memory, stopped_within, upto_more, upto_none}
use Rattle.story_replay.specs.Text.{game_text}
use Rattle.story_replay.specs.declared.game.Game.{Game}
use Rattle.host_top.proofs.ReplayLemmas.{games_behind}
use Rattle.host_top.proofs.replay.write_games.Goals as goal

-- the games that are left are some and more
split : (rest some more : List Game) (n : ℕ) → some ≡ take n rest → more ≡ drop n rest
    → rest ≡ some ++ more
split rest some more n front back =
    sym (ap (λ (l : List Game). l ++ more) front ∙ ap (λ (l : List Game). take n rest ++ l) back
    ∙ take-append-drop n rest)

pub loop-rest-init : goal.loop-rest-init
loop-rest-init g c = (upto_none _ _, refl)

pub returns-in_err-texts-clause-err : goal.returns-in_err-texts-clause-err
returns-in_err-texts-clause-err g c =
    let p = err_from_is_err_and c.from_residual.result c.from_residual.ensures.1 in
    rw (p.1, p.2)
    (stopped_memory {text = flat_map (game_text c.args.stories.now) c.args.games.now}
    (flat_map (game_text c.args.stories.now) c.loop-rest.rest.now) c.loop-rest.invariant.0)

pub returns-in_err-write_texts-clause-err : goal.returns-in_err-write_texts-clause-err
returns-in_err-write_texts-clause-err g c =
    let f = game_text c.args.stories.now in
    let some = c.split_at.result.0.now in
    let more = c.split_at.result.1.now in
    let p = err_from_is_err_and c.from_residual-in_err-write_texts.result
    c.from_residual-in_err-write_texts.ensures.1 in
    rw (p.1, p.2)
    (stopped_within c.loop-rest.invariant.0 (flat_map f more)
    (games_behind f c.loop-rest.rest.now some more
    (split c.loop-rest.rest.now some more _ c.split_at.ensures.front c.split_at.ensures.back))
    (rw (c.deref.ensures.value, c.in_ok-texts.ensures) at c.in_err-write_texts.ensures.err))

pub loop-rest-preserved : goal.loop-rest-preserved
loop-rest-preserved g c =
    let f = game_text c.args.stories.now in
    let some = c.split_at.result.0.now in
    let more = c.split_at.result.1.now in (
      upto_more c.loop-rest.invariant.0 _ (flat_map f more)
          (games_behind f c.loop-rest.rest.now some more
          (split c.loop-rest.rest.now some more _ c.split_at.ensures.front c.split_at.ensures.back))
          (rw (c.deref.ensures.value, c.in_ok-texts.ensures) at c.in_ok-write_texts.ensures.ok),
      c.progress.ensures.value ∙ c.loop-rest.invariant.1,
    )
