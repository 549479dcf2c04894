use Rattle.quetzal.proofs.PrintLemmas.{reads_first}
use Rattle.quetzal.proofs.laws.reads_first_of_each_name.Goals as goal

pub returns : goal.returns
returns c = reads_first
