use Rattle.std.proofs.Common.{List, ℕ, None, inr, ap, ◌∙◌}
use Rattle.std.specs.Option.{option_map}
use Rattle.std.specs.Borrow.{Bor}
use Rattle.host_serve.proofs.speaker.answer_to.Goals as goal

pub returns-in-None-clause-value : goal.returns-in-None-clause-value
returns-in-None-clause-value g c = (
  None,
  λ bytes e. inr (c.to_dropped.ensures _ _ _ bytes
      (e ∙ ap (option_map (λ (l : Bor (List ℕ)). l.now)) c.in-None.is)),
)
