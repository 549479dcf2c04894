use Rattle.journal_pack.proofs.ImageLemmas.{packed_spells}
use Rattle.journal_pack.proofs.laws.is_spelled.Goals as goal

pub returns : goal.returns
returns c = packed_spells
