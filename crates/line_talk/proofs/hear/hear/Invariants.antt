use Rattle.std.proofs.Common.{◌≡◌, drop}
use Rattle.line_talk.proofs.HearingLemmas.{Hearing}
use Rattle.line_talk.proofs.hear.hear.Given as goal

abbrev pub invariant-loop-byte : goal.invariant-loop-byte
invariant-loop-byte g l =
    Hearing g.A.Answers.turn g.A.Answers.over (g.A.Answers.state l.initial.speaker)
    l.initial.line l.initial.count l.piece (g.K.Sink.sink l.initial.output)
    (g.A.Answers.state l.speaker) l.line l.count (drop l.byte-index l.piece)
    (g.K.Sink.sink l.output)
    × g.A.Answers.invariant l.speaker
    × g.A.Answers.ready l.speaker
    × (g.A.Answers.lent l.speaker ≡ g.A.Answers.lent l.initial.speaker)
    × (g.K.Sink.beside l.output ≡ g.K.Sink.beside l.initial.output)
