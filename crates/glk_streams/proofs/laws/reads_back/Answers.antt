use Rattle.glk_streams.proofs.ReadsBackLemmas as lemmas
use Rattle.glk_streams.proofs.laws.reads_back.Goals as goal

pub returns : goal.returns
returns c = lemmas.reads_back
