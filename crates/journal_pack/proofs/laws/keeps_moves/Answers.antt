use Rattle.journal_pack.proofs.LiveLemmas.{placed_moves}
use Rattle.journal_pack.proofs.laws.keeps_moves.Goals as goal

pub returns : goal.returns
returns c = placed_moves
