use Rattle.std.proofs.Common.{rules}
use Rattle.host_top.proofs.check.check.Goals as goal

pub returns-clause-value : goal.returns-clause-value
returns-clause-value g c = λ input. let said = c.say_once.ensures.value input in search (rules)
