use Rattle.story_make.proofs.ScriptLaws.{asks}
use Rattle.story_make.proofs.laws.asks_in_order.Goals as goal

pub returns : goal.returns
returns c = asks
