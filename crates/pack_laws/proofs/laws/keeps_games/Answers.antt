use Rattle.pack_laws.proofs.KeptLemmas.{live_games}
use Rattle.pack_laws.proofs.laws.keeps_games.Goals as goal

pub returns : goal.returns
returns c = live_games
