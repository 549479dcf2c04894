use Rattle.std.proofs.Common.{refl}
use Rattle.host_serve.specs.Told.{turn_from}
use Rattle.host_serve.proofs.PassLemmas.{holders_many, seens_many}
use Rattle.host_serve.proofs.ServesLemmas.{exact_of}
use Rattle.host_serve.proofs.host.Host.request.Goals as goal

pub returns-clause-value : goal.returns-clause-value
returns-clause-value g c = (
  turn_from c.args.line.now c.answer.ensures.value.0 c.answer.result,
  refl,
  refl,
  c.answer.ensures.value.1,
  exact_of _ _ _ _ (holders_many _ _ _ _ c.requires.passes.each c.requires.passes.whole.many) _ _
      _ (seens_many _ _ _ _ c.requires.passes.each c.requires.passes.whole.many)
      c.answer.ensures.value.1,
)
