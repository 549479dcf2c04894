use Rattle.quetzal.proofs.OrderLemmas.{reads_in_any_order}
use Rattle.quetzal.proofs.laws.reads_blocks_in_any_order.Goals as goal

pub returns : goal.returns
returns c = reads_in_any_order
