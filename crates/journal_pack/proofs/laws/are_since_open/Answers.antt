use Rattle.journal_pack.proofs.PlaceLemmas.{since_open}
use Rattle.journal_pack.proofs.laws.are_since_open.Goals as goal

pub returns : goal.returns
returns c = since_open
