use Rattle.std.proofs.Common.{◌≡◌, length}
use Rattle.std.specs.Io.KnownBytes.{Keeps}
use Rattle.storyhost.proofs.edge.waiting.WaitingRead.read.Given as goal

abbrev pub invariant-loop : goal.invariant-loop
invariant-loop g l =
    Keeps (g.T.Read.remaining l.initial.self.inner) (g.T.Read.remaining l.self.inner)
    × (length l.into ≡ length l.initial.into)
