use Rattle.quetzal.proofs.PrintLemmas.{reads_printed}
use Rattle.quetzal.proofs.laws.reads_what_is_printed.Goals as goal

pub returns : goal.returns
returns c = reads_printed
