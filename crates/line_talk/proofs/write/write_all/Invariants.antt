use Rattle.std.proofs.Common.{◌≡◌, length}
use Rattle.line_talk.specs.Writing.{WroteUpTo}
use Rattle.line_talk.proofs.write.write_all.Given as goal

abbrev pub invariant-loop-rest : goal.invariant-loop-rest
invariant-loop-rest g l =
    WroteUpTo (g.K.Sink.sink l.initial.output) (g.K.Sink.sink l.output) l.text l.rest
    × (g.K.Sink.beside l.output ≡ g.K.Sink.beside l.initial.output)

abbrev pub decreases-loop-rest : goal.decreases-loop-rest
decreases-loop-rest g l = length l.rest
