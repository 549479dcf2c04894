use Rattle.std.proofs.Common.{subst, sym, ℕ}
use Rattle.vm_flow.specs.Token.{IsToken}
use Rattle.vm_flow.proofs.TokenLemmas.{top_is_token}
use Rattle.vm_flow.proofs.continuation.catch.Goals as goal

pub returns-clause-good : goal.returns-clause-good
returns-clause-good c = λ old has chain.
    subst (λ (n : ℕ). IsToken chain.frames n) (sym c.length.ensures)
    (top_is_token c.push_stub.new.self chain c.in_ok-push_stub.ensures.there
    (c.in_ok-push_stub.ensures.ready old has c.frame-frame.ensures))
