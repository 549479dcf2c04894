use Rattle.quetzal.proofs.LawLemmas as lemmas
use Rattle.quetzal.proofs.laws.restores_pieces.Goals as goal

pub returns : goal.returns
returns c = lemmas.restores_pieces
