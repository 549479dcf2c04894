use Rattle.std.proofs.Common.{◌≡◌}
use Rattle.line_talk.proofs.TalkLemmas.{Talking}
use Rattle.line_talk.proofs.talk.converse.Given as goal

abbrev pub invariant-loop-room : goal.invariant-loop-room
invariant-loop-room g l =
    Talking g.A.Answers.turn g.A.Answers.over (g.A.Answers.state l.initial.speaker)
    (g.L.Source.source l.initial.link) (g.L.Sink.sink l.initial.link)
    (g.L.Source.source l.link) (g.L.Sink.sink l.link) (g.A.Answers.state l.speaker)
    l.line l.count l.room
    × g.A.Answers.invariant l.speaker
    × g.A.Answers.ready l.speaker
    × (g.A.Answers.lent l.speaker ≡ g.A.Answers.lent l.initial.speaker)
    × (g.L.Link.lent l.link ≡ g.L.Link.lent l.initial.link)
    × ((g.L.Source.source l.link).ended ≡ (g.L.Source.source l.initial.link).ended)

abbrev pub decreases-loop-room : goal.decreases-loop-room
decreases-loop-room g l = l.room
