use Rattle.glk_input.proofs.ValidLemmas.{stays_valid}
use Rattle.glk_input.proofs.laws.windows_stay_valid.Goals as goal

pub returns : goal.returns
returns c = stays_valid
