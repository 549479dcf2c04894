use Rattle.reply_tally.proofs.FoundLemmas.{found}
use Rattle.reply_tally.proofs.laws.refusals_are_found.Goals as goal

pub returns : goal.returns
returns c = found
