use Rattle.std.proofs.Common.{drop}
use Rattle.std.specs.List.{flat_map}
use Rattle.line_talk.specs.Writing.{WroteUpTo}
use Rattle.host_top.proofs.replay.write_texts.Given as goal

abbrev pub invariant-loop-text : goal.invariant-loop-text
invariant-loop-text g l =
    WroteUpTo (g.K.Sink.sink l.initial.output) (g.K.Sink.sink l.output)
    (flat_map (λ text. text) l.texts) (flat_map (λ text. text) (drop l.text-index l.texts))
