use Rattle.std.proofs.Common.{◌≡◌, length}
use Rattle.std.specs.List.{flat_map}
use Rattle.line_talk.specs.Writing.{WroteUpTo}
use Rattle.story_replay.specs.Text.{game_text}
use Rattle.host_top.proofs.replay.write_games.Given as goal

abbrev pub invariant-loop-rest : goal.invariant-loop-rest
invariant-loop-rest g l =
    WroteUpTo (g.K.Sink.sink l.initial.output) (g.K.Sink.sink l.output)
    (flat_map (game_text l.stories) l.games) (flat_map (game_text l.stories) l.rest)
    × (g.O.Outside.outside l.outside ≡ g.O.Outside.outside l.initial.outside)

abbrev pub decreases-loop-rest : goal.decreases-loop-rest
decreases-loop-rest g l = length l.rest
