use Rattle.std.proofs.Common.{◌≡◌, ◌∙◌, ap, sym, List, ℕ, subst}
use Rattle.std.proofs.lemmas.Result.{err_from_is_err_and, IfErr-weaker}
use Rattle.std.specs.List.{flat_map}
use Rattle.line_talk.specs.Streams.{Wrote}
use Rattle.line_talk.specs.Writing.{Stopped}
use Rattle.line_talk.proofs.StreamsLemmas.{wrote_then}
use Rattle.line_talk.proofs.WritingLemmas.{stopped_at_once, stopped_more, stopped_then}
use Rattle.story_replay.specs.Games.{games_of}
use Rattle.story_replay.specs.Text.{game_text}
use Rattle.host_top.proofs.ReplayLemmas.{on_ok, transcript_parts}
use Rattle.host_top.proofs.replay.write_transcript.Goals as goal

pub returns-in_err-games-clause-err : goal.returns-in_err-games-clause-err
returns-in_err-games-clause-err g c =
    let p = err_from_is_err_and c.from_residual.result c.from_residual.ensures.1 in
    rw (p.1, p.2) (stopped_at_once _ _)

pub returns-in_err-write_games-clause-err : goal.returns-in_err-write_games-clause-err
returns-in_err-write_games-clause-err g c =
    let stories = c.args.stories.now in
    let are =
    ap (flat_map (game_text stories)) (c.deref-2.ensures.value ∙ c.in_ok-games.ensures
    ∙ ap games_of c.deref.ensures.value) in
    let p = err_from_is_err_and c.from_residual-in_err-write_games.result
    c.from_residual-in_err-write_games.ensures.1 in
    rw (p.1, p.2, transcript_parts stories c.args.rows.items)
    (stopped_more _ (rw are at c.in_err-write_games.ensures.err))

pub returns-clause-ok : goal.returns-clause-ok
returns-clause-ok g c =
    let stories = c.args.stories.now in
    let are =
    ap (flat_map (game_text stories)) (c.deref-2.ensures.value ∙ c.in_ok-games.ensures
    ∙ ap games_of c.deref.ensures.value) in
    on_ok c.write_all.result _ _ c.write_all.ensures.ok
    (λ wrote. rw (transcript_parts stories c.args.rows.items)
    (wrote_then (rw are at c.in_ok-write_games.ensures.ok) wrote))

pub returns-clause-err : goal.returns-clause-err
returns-clause-err g c =
    let stories = c.args.stories.now in
    let are =
    ap (flat_map (game_text stories)) (c.deref-2.ensures.value ∙ c.in_ok-games.ensures
    ∙ ap games_of c.deref.ensures.value) in
    IfErr-weaker c.write_all.result _ _
    (λ cause stopped. rw (transcript_parts stories c.args.rows.items)
    (stopped_then (rw are at c.in_ok-write_games.ensures.ok) stopped))
    c.write_all.ensures.err
