use Rattle.bstr.proofs.lemmas.PieceLemmas.{piece-bounds}
use Rattle.glk_streams.proofs.coding.first_char.Goals as goal

pub returns-clause-within : goal.returns-clause-within
returns-clause-within c = rw c.decode.ensures.size (piece-bounds _ c.requires).2

pub returns-clause-few : goal.returns-clause-few
returns-clause-few c = rw c.decode.ensures.size (piece-bounds _ c.requires).1
